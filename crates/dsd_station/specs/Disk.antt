-- What a write does to a list of bytes, and what a stop may leave of writes that were not synced.
use Rattle.std.specs.Prelude.{ℕ, ◌+◌, ◌≤◌, max, min, ◌≡◌, List, [], ◌∷◌, ◌++◌, length, take, drop}

-- the bytes with others put over them from a place on
abbrev pub overwritten : List ℕ → ℕ → List ℕ → List ℕ
overwritten old at bytes = take at old ++ bytes ++ drop (at + length bytes) old

-- A write of n bytes that a stop or a failure may have cut short: any bytes in its range and past the old end, the others stay.
pub record Torn (at n : ℕ) (old new : List ℕ) : Type 0 where
  pub before : take (min at (length old)) new ≡ take at old
  pub after : drop (at + n) new ≡ drop (at + n) old
  pub no_shorter : length old ≤ length new
  pub no_longer : length new ≤ max (length old) (at + n)

-- What a stop may leave of bytes that were made sure of and these writes, each a place and its bytes, the first of them first.
abbrev pub MayLeave : List ℕ → List (ℕ × List ℕ) → List ℕ → Type 0
MayLeave sure [] image = image ≡ sure
MayLeave sure (write ∷ writes) image = (next : List ℕ) × Torn write.0 (length write.1) sure next × MayLeave next writes image
