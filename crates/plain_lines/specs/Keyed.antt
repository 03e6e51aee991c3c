-- Things under their keys, in their order, as an index map holds them.
use Rattle.std.specs.Prelude.{◌≡◌, Bool, false, List, [], ◌∷◌, map, Option, is_some}
use Rattle.std.specs.List.{find}

-- the first one with this key, where there is one
abbrev pub under : {K X : Type 0} → (K → K → Bool) → (X → K) → K → List X → Option X
under eq key k xs = find (λ x. eq k (key x)) xs

-- there is one with this key
abbrev pub is_there : {K X : Type 0} → (K → K → Bool) → (X → K) → K → List X → Bool
is_there eq key k xs = is_some (under eq key k xs)

-- each under its key
abbrev pub keyed : {K X : Type 0} → (X → K) → List X → List (K × X)
keyed key xs = map (λ x. (key x, x)) xs

-- no key stands twice
abbrev pub AreApartBy : {K X : Type 0} → (K → K → Bool) → (X → K) → List X → Type 0
AreApartBy eq key [] = Unit {0}
AreApartBy eq key (x ∷ xs) = (is_there eq key (key x) xs ≡ false) × AreApartBy eq key xs
