-- Two lists on one delivery, one of each end: fronts of one course.
use Rattle.std.specs.Prelude.{◌≡◌, ◌⊎◌, ◌+◌, ℕ, Bool, true, false, not, List, [], ◌∷◌}

-- this text was signed, or it was taken
pub record Seen : Type 0 where
  pub signed : Bool
  pub text : List ℕ

-- Each names the one before it, which the other end signed: the text at each place is one for this place, and they are signed and taken in turn.
abbrev pub TakeTurns : (List ℕ → ℕ) → Bool → ℕ → List Seen → Type 0
TakeTurns place signed n [] = Unit {0}
TakeTurns place signed n (deed ∷ deeds) = (deed.signed ≡ signed) × (place deed.text ≡ n) × TakeTurns place (not signed) (n + 1) deeds

abbrev pub HasSigned : List ℕ → List Seen → Type 0
HasSigned text [] = ⊥
HasSigned text (deed ∷ deeds) = ((deed.signed ≡ true) × (deed.text ≡ text)) ⊎ HasSigned text deeds

-- each text taken in the second list was signed in the first one
abbrev pub Backs : List Seen → List Seen → Type 0
Backs other [] = Unit {0}
Backs other (deed ∷ deeds) = (deed.signed ≡ false → HasSigned deed.text other) × Backs other deeds

-- the texts are the same, but for one that the longer list has signed as its last
abbrev pub Fronts : List Seen → List Seen → Type 0
Fronts [] [] = Unit {0}
Fronts [] (deed ∷ deeds) = (deed.signed ≡ true) × (deeds ≡ [])
Fronts (deed ∷ deeds) [] = (deed.signed ≡ true) × (deeds ≡ [])
Fronts (deed ∷ deeds) (other ∷ others) = (deed.text ≡ other.text) × Fronts deeds others
