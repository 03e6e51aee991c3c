-- What a source gives in pieces.
use Rattle.std.specs.Prelude.{ℕ, ◌<◌, ◌≤◌, List, ◌++◌, length, Option}
use Rattle.std.specs.Io.KnownBytes.{Consumes, IsAtEnd}

-- A source gave these bytes, of no more than the limit; its end was heard where they are fewer.
pub record HasGiven (limit : ℕ) (left after : Option (List ℕ)) (bytes : List ℕ) : Type 0 where
  pub taken : Consumes left after bytes
  pub few : length bytes ≤ limit
  pub whole : length bytes < limit → IsAtEnd after

-- whatever was held is held with these bytes behind it
abbrev pub HoldsMore : {T : Type 0} → (T → List ℕ → Type 0) → T → T → List ℕ → Type 0
HoldsMore holds old new bytes = (before : List ℕ) → holds old before → holds new (before ++ bytes)
