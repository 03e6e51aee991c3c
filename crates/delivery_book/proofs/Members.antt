-- What is among the elements of a list, by recursion over it, and what a filter, a search and a reading keep.
use Rattle.std.proofs.Common.{◌≡◌, ◌⊎◌, Bool, true, false, cond, List, [], ◌∷◌, ◌++◌, Some, Contains, filter, find, inl, inr, refl, sym, ap, subst, ◌∙◌, arith}
use Rattle.std.proofs.lemmas.List.Elements.{Contains-append_cases, Contains-append_left, Contains-append_right, Contains-push, Contains-push_cases}

abbrev pub In : {X : Type 0} → X → List X → Type 0
In x [] = ⊥
In x (y ∷ ys) = (y ≡ x) ⊎ In x ys

pub in_append : {X : Type 0} (xs ys : List X) (x : X) → In x (xs ++ ys) → In x xs ⊎ In x ys
in_append [] ys x h = inr h
in_append (y ∷ xs) ys x (inl e) = inl (inl e)
in_append (y ∷ xs) ys x (inr h) =
    elim (in_append xs ys x h) [
      | inl left ↦ inl (inr left)
      | inr right ↦ inr right
    ]

-- of one more behind the last
pub in_more : {X : Type 0} (xs : List X) (y x : X) → In x (xs ++ y ∷ []) → In x xs ⊎ (y ≡ x)
in_more xs y x h =
    elim (in_append xs (y ∷ []) x h) [
      | inl old ↦ inl old
      | inr (inl e) ↦ inr e
      | inr (inr none) ↦ absurd none
    ]

-- ---- a filter

pub record Passes {X : Type 0} (test : X → Bool) (xs : List X) (x : X) : Type 0 where
  pub among : In x xs
  pub holds : test x ≡ true

filter_step : {X : Type 0} (test : X → Bool) (y : X) (ys : List X) (x : X) (b : Bool) → test y ≡ b → (In x (filter test ys) → Passes test ys x) → In x (cond b (y ∷ filter test ys) (filter test ys)) → Passes test (y ∷ ys) x
filter_step test y ys x true b ih (inl e) = record { among = inl e; holds = subst (λ (z : _). test z ≡ true) e b }
filter_step test y ys x true b ih (inr h) = let p = ih h in record { among = inr p.among; holds = p.holds }
filter_step test y ys x false b ih h = let p = ih h in record { among = inr p.among; holds = p.holds }

pub filter_in : {X : Type 0} (test : X → Bool) (xs : List X) (x : X) → In x (filter test xs) → Passes test xs x
filter_in test [] x h = absurd h
filter_in test (y ∷ ys) x h = filter_step test y ys x (test y) refl (filter_in test ys x) h

in_step : {X : Type 0} (test : X → Bool) (y : X) (ys : List X) (x : X) (b : Bool) → test y ≡ b → test x ≡ true → (In x ys → In x (filter test ys)) → In x (y ∷ ys) → In x (cond b (y ∷ filter test ys) (filter test ys))
in_step test y ys x true b holds ih (inl e) = inl e
in_step test y ys x true b holds ih (inr h) = inr (ih h)
in_step test y ys x false b holds ih (inl e) = let never : false ≡ true = sym b ∙ ap test e ∙ holds in cc
in_step test y ys x false b holds ih (inr h) = ih h

pub in_filter : {X : Type 0} (test : X → Bool) (xs : List X) (x : X) → In x xs → test x ≡ true → In x (filter test xs)
in_filter test [] x h holds = absurd h
in_filter test (y ∷ ys) x h holds = in_step test y ys x (test y) refl holds (λ old. in_filter test ys x old holds) h

-- ---- a search

find_step : {X : Type 0} (test : X → Bool) (y : X) (ys : List X) (x : X) (b : Bool) → test y ≡ b → (find test ys ≡ Some x → Passes test ys x) → cond b (Some y) (find test ys) ≡ Some x → Passes test (y ∷ ys) x
find_step test y ys x true b ih e = let same : y ≡ x = cc in record { among = inl same; holds = subst (λ (z : _). test z ≡ true) same b }
find_step test y ys x false b ih e = let p = ih e in record { among = inr p.among; holds = p.holds }

pub find_in : {X : Type 0} (test : X → Bool) (xs : List X) (x : X) → find test xs ≡ Some x → Passes test xs x
find_in test [] x e = cc
find_in test (y ∷ ys) x e = find_step test y ys x (test y) refl (find_in test ys x) e

-- ---- the library's word

at_front : {X : Type 0} (y : X) (ys : List X) → Contains (y ∷ ys) y
at_front y ys = Contains-append_left (y ∷ []) ys y (Contains-push [] y)

pub to_contains : {X : Type 0} (xs : List X) (x : X) → In x xs → Contains xs x
to_contains [] x h = absurd h
to_contains (y ∷ ys) x (inl e) = subst (Contains (y ∷ ys)) e (at_front y ys)
to_contains (y ∷ ys) x (inr h) = Contains-append_right (y ∷ []) ys x (to_contains ys x h)

contains_one : {X : Type 0} (y x : X) → Contains (y ∷ []) x → y ≡ x
contains_one y x c =
    elim (Contains-push_cases [] y x c) [
      | inl none ↦ let below = none.1 in absurd (omega (arith, below))
      | inr e ↦ e
    ]

pub from_contains : {X : Type 0} (xs : List X) (x : X) → Contains xs x → In x xs
from_contains [] x c = let below = c.1 in absurd (omega (arith, below))
from_contains (y ∷ ys) x c =
    elim (Contains-append_cases (y ∷ []) ys x c) [
      | inl one ↦ inl (contains_one y x one)
      | inr rest ↦ inr (from_contains ys x rest)
    ]
