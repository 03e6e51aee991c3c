-- A list of one, by its element.
use Rattle.std.proofs.Common.{◌≡◌, ◌↔◌, ℕ, Bool, IsTrue, List, [], ◌∷◌, length, map, get_or, refl, sym, ◌∙◌, arith}
use Rattle.std.specs.Str.{bytes_eq}
use Rattle.std.proofs.lemmas.Slice.Eq.{bytes_eq-Decides}

pub map_one : {X Y : Type 0} (f : X → Y) (xs : List X) (a : X) → length xs ≡ 1 → a ≡ get_or xs 0 a → map f xs ≡ f a ∷ []
map_one f [] a n p = absurd (omega arith)
map_one f (x ∷ []) a n p = rw p refl
map_one f (x ∷ y ∷ xs) a n p = absurd (omega arith)

pub is_one : (words : List (List ℕ)) (a x : List ℕ) (r : Bool) → words ≡ a ∷ [] → r ≡ bytes_eq a x → IsTrue r ↔ (words ≡ x ∷ [])
is_one words a x r e same = (
  λ t. let is_x : a ≡ x = (bytes_eq-Decides a x).0 (sym same ∙ t) in cc,
  λ h. let is_x : a ≡ x = cc in same ∙ (bytes_eq-Decides a x).1 is_x,
)
