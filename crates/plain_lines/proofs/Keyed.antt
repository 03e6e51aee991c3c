-- Things under their keys, as an index map holds them: what is found, and one more behind the others.
use Rattle.std.proofs.Common.{◌≡◌, ◌⊎◌, ℕ, nat_eq, bytes_eq, Bool, true, false, List, [], ◌∷◌, ◌++◌, Option, Some, if◌then◌else◌, refl, ap, subst, ◌∙◌, arith, inl, inr}
use Rattle.std.specs.List.{All}
use Rattle.std.specs.Map.{lookup, values_of}
use Rattle.std.specs.Option.{is_some}
use Rattle.std.proofs.lemmas.Bool.{cases_Bool}
use Rattle.std.proofs.lemmas.Bool.Decides.{nat_tests}
use Rattle.std.proofs.lemmas.List.Elements.{All-head, All-tail}
use Rattle.indexmap.specs.IndexMap.{insert_entry}
use Rattle.plain_lines.specs.Keyed.{AreApartBy, is_there, keyed, under}

-- ---- tests of keys that are false of two are false of them the other way round

pub turned_numbers : (a b : ℕ) → nat_eq a b ≡ false → nat_eq b a ≡ false
turned_numbers a b e = grind (arith, nat_tests)

pub turned_texts : (a b : List ℕ) → bytes_eq a b ≡ false → bytes_eq b a ≡ false
turned_texts [] [] e = e
turned_texts [] (y ∷ ys) e = refl
turned_texts (x ∷ xs) [] e = refl
turned_texts (x ∷ xs) (y ∷ ys) e = turned_by (cases_Bool (nat_eq x y)) (turned_texts xs ys)
  where
    turned_by : (nat_eq x y ≡ true) ⊎ (nat_eq x y ≡ false) → (bytes_eq xs ys ≡ false → bytes_eq ys xs ≡ false) → bytes_eq (y ∷ ys) (x ∷ xs) ≡ false
    turned_by (inl same) rest = let back : nat_eq y x ≡ true = grind (arith, nat_tests) in let differ : bytes_eq xs ys ≡ false = rw same at e in rw back (rest differ)
    turned_by (inr other) rest = rw (turned_numbers x y other) refl

module _ {K X : Type 0} (eq : K → K → Bool) (turned : (a b : K) → eq a b ≡ false → eq b a ≡ false) (key : X → K) where
  -- ---- what is found

  pub under_lookup : (k : K) (xs : List X) → lookup (eq k) (keyed key xs) ≡ under eq key k xs
  under_lookup k [] = refl
  under_lookup k (x ∷ xs) = ap (λ (r : Option X). if eq k (key x) then Some x else r) (under_lookup k xs)

  pub values_keyed : (xs : List X) → values_of (keyed key xs) ≡ xs
  values_keyed [] = refl
  values_keyed (x ∷ xs) = ap (λ (ys : List X). x ∷ ys) (values_keyed xs)

  -- ---- one more

  abbrev one_more : List (K × X) → X → List (K × X)
  one_more entries x = insert_entry eq entries (key x) x

  last_by : (b : Bool) (first x : X) (xs : List X) → is_some (if b then Some first else under eq key (key x) xs) ≡ false
      → (is_there eq key (key x) xs ≡ false → one_more (keyed key xs) x ≡ keyed key (xs ++ x ∷ []))
      → (if b then (key first, x) ∷ keyed key xs else (key first, first) ∷ one_more (keyed key xs) x) ≡ (key first, first) ∷ keyed key (xs ++ x ∷ [])
  last_by true first x xs none rest = cc
  last_by false first x xs none rest = ap (λ (es : List (K × X)). (key first, first) ∷ es) (rest none)

  -- a key that stands nowhere goes last
  insert_last : (xs : List X) (x : X) → is_there eq key (key x) xs ≡ false → one_more (keyed key xs) x ≡ keyed key (xs ++ x ∷ [])
  insert_last [] x none = refl
  insert_last (first ∷ xs) x none = last_by (eq (key x) (key first)) first x xs none (insert_last xs x)

  -- a map with one more
  pub pushed_under : (entries after : List (K × X)) (old : List X) (x : X) → entries ≡ keyed key (values_of entries) → values_of entries ≡ old
      → after ≡ insert_entry eq entries (key x) x → is_there eq key (key x) old ≡ false → after ≡ keyed key (old ++ x ∷ [])
  pushed_under entries after old x held view put none = put ∙ ap (λ (es : List (K × X)). one_more es x) (held ∙ ap (keyed key) view) ∙ insert_last old x none

  pub pushed_is : (after : List (K × X)) (new : List X) → after ≡ keyed key new → values_of after ≡ new
  pushed_is after new is = ap values_of is ∙ values_keyed new

  -- ---- apart

  pub record Both (b : Bool) (k : K) (xs : List X) : Type 0 where
    pub here : b ≡ false
    pub behind : is_there eq key k xs ≡ false

  both_by : (b : Bool) (first : X) (k : K) (xs : List X) → is_some (if b then Some first else under eq key k xs) ≡ false → Both b k xs
  both_by true first k xs none = cc
  both_by false first k xs none = record { here = refl; behind = none }

  pub both : (k : K) (first : X) (xs : List X) → is_there eq key k (first ∷ xs) ≡ false → Both (eq k (key first)) k xs
  both k first xs none = both_by (eq k (key first)) first k xs none

  none_by : (b : Bool) (first : X) (k : K) (xs : List X) → b ≡ false → is_there eq key k xs ≡ false → is_some (if b then Some first else under eq key k xs) ≡ false
  none_by true first k xs here behind = cc
  none_by false first k xs here behind = behind

  none_more : (k : K) (xs : List X) (x : X) → is_there eq key k xs ≡ false → eq k (key x) ≡ false → is_there eq key k (xs ++ x ∷ []) ≡ false
  none_more k [] x none other = none_by (eq k (key x)) x k [] other refl
  none_more k (first ∷ xs) x none other =
      let is = both k first xs none in
      none_by (eq k (key first)) first k (xs ++ x ∷ []) is.here (none_more k xs x is.behind other)

  -- one more that stands nowhere
  pub apart_more : (xs : List X) (x : X) → AreApartBy eq key xs → is_there eq key (key x) xs ≡ false → AreApartBy eq key (xs ++ x ∷ [])
  apart_more [] x apart none = (refl, tt)
  apart_more (first ∷ xs) x apart none =
      let is = both (key x) first xs none in
      (none_more (key first) xs x apart.0 (turned (key x) (key first) is.here), apart_more xs x apart.1 is.behind)

  last_other : (k : K) (xs : List X) (x : X) → is_there eq key k (xs ++ x ∷ []) ≡ false → eq k (key x) ≡ false
  last_other k [] x none = (both k x [] none).here
  last_other k (first ∷ xs) x none = last_other k xs x (both k first (xs ++ x ∷ []) none).behind

  -- the last of some that are apart does not stand in front
  pub last_apart : (xs : List X) (x : X) → AreApartBy eq key (xs ++ x ∷ []) → is_there eq key (key x) xs ≡ false
  last_apart [] x apart = refl
  last_apart (first ∷ xs) x apart = none_by (eq (key x) (key first)) first (key x) xs (turned (key first) (key x) (last_other (key first) xs x apart.0)) (last_apart xs x apart.1)

  prefix_none : (k : K) (xs more : List X) → is_there eq key k (xs ++ more) ≡ false → is_there eq key k xs ≡ false
  prefix_none k [] more none = refl
  prefix_none k (first ∷ xs) more none =
      let is = both k first (xs ++ more) none in
      none_by (eq k (key first)) first k xs is.here (prefix_none k xs more is.behind)

  pub prefix_apart : (xs more : List X) → AreApartBy eq key (xs ++ more) → AreApartBy eq key xs
  prefix_apart [] more apart = tt
  prefix_apart (first ∷ xs) more apart = (prefix_none (key first) xs more apart.0, prefix_apart xs more apart.1)

-- ---- what is found under a key

module _ {K X : Type 0} (eq : K → K → Bool) (key : X → K) (P : X → Type 0) where
  found_by : (b : Bool) (first : X) (k : K) (xs : List X) (x : X) → P first → (under eq key k xs ≡ Some x → P x) → (if b then Some first else under eq key k xs) ≡ Some x → P x
  found_by true first k xs x here behind e = let same : first ≡ x = cc (e) in subst P same here
  found_by false first k xs x here behind e = behind e

  -- what holds of all holds of what is found
  pub found_all : (k : K) (xs : List X) → All P xs → (x : X) → under eq key k xs ≡ Some x → P x
  found_all k [] all x e = cc (e)
  found_all k (first ∷ xs) all x e = found_by (eq k (key first)) first k xs x (All-head P first xs all) (found_all k xs (All-tail P first xs all) x) e
