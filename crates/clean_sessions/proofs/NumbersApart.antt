-- The numbers of deliveries stand apart.
use Rattle.std.proofs.Common.{◌≡◌, ℕ, Bool, true, false, ◌||◌, cond, List, [], ◌∷◌, ◌++◌, refl, ap, ◌∙◌}
use Rattle.std.specs.Prelude.{⊤}
use Rattle.std.specs.Str.{bytes_eq}
use Rattle.std.specs.List.{filter, fold, list_any}
use Rattle.dsd_journal.specs.declared.entry.Entry.{Entry}
use Rattle.delivery_book.specs.Deeds.{Deed, deeds_of, number_in}
use Rattle.delivery_book.specs.Lookups.{numbers_of, with_number}

abbrev pub has : List ℕ → List (List ℕ) → Bool
has number [] = false
has number (own ∷ more) = bytes_eq own number || has number more

abbrev pub Apart : List (List ℕ) → Type 0
Apart [] = ⊤
Apart (number ∷ more) = (has number more ≡ false) × Apart more

has_more : (number key : List ℕ) (numbers : List (List ℕ)) → has number numbers ≡ false → bytes_eq key number ≡ false → has number (numbers ++ key ∷ []) ≡ false
has_more number key [] none differs = ap (λ (b : Bool). b || false) differs
has_more number key (own ∷ more) none differs = by (bytes_eq own number) none (has_more number key more)
  where
    by : (b : Bool) → (b || has number more) ≡ false → (has number more ≡ false → bytes_eq key number ≡ false → has number (more ++ key ∷ []) ≡ false) → (b || has number (more ++ key ∷ [])) ≡ false
    by true e ih = absurd (cc)
    by false e ih = ih e differs

two_false : (a b : Bool) → (a || b) ≡ false → (a ≡ false) × (b ≡ false)
two_false true b e = absurd (cc)
two_false false b e = (refl, e)

apart_more : (numbers : List (List ℕ)) (key : List ℕ) → Apart numbers → list_any (bytes_eq key) numbers ≡ false → Apart (numbers ++ key ∷ [])
apart_more [] key apart none = (refl, tt)
apart_more (own ∷ more) key apart none =
    let away = two_false (bytes_eq key own) (list_any (bytes_eq key) more) none in
    (has_more own key more apart.0 away.0, apart_more more key apart.1 away.1)

apart_with : (numbers : List (List ℕ)) (key : List ℕ) → Apart numbers → Apart (with_number numbers key)
apart_with numbers key apart = by (list_any (bytes_eq key) numbers) refl
  where
    by : (b : Bool) → list_any (bytes_eq key) numbers ≡ b → Apart (cond b numbers (numbers ++ key ∷ []))
    by true e = apart
    by false e = apart_more numbers key apart e

apart_fold : (deeds : List Deed) (numbers : List (List ℕ)) → Apart numbers → Apart (fold (λ known (deed : Deed). with_number known (number_in deed.set)) numbers deeds)
apart_fold [] numbers apart = apart
apart_fold (deed ∷ deeds) numbers apart = apart_fold deeds (with_number numbers (number_in deed.set)) (apart_with numbers (number_in deed.set) apart)

pub numbers_apart : (entries : List Entry) → Apart (numbers_of entries)
numbers_apart entries = apart_fold (deeds_of entries) [] tt

has_filter : (number : List ℕ) (test : List ℕ → Bool) (numbers : List (List ℕ)) → has number numbers ≡ false → has number (filter test numbers) ≡ false
has_filter number test [] none = refl
has_filter number test (own ∷ more) none =
    let away = two_false (bytes_eq own number) (has number more) none in
    by (test own) away.0 (has_filter number test more away.1)
  where
    by : (b : Bool) → bytes_eq own number ≡ false → has number (filter test more) ≡ false → has number (cond b (own ∷ filter test more) (filter test more)) ≡ false
    by true differs rest = ap (λ (t : Bool). t || has number (filter test more)) differs ∙ rest
    by false differs rest = rest

pub apart_filter : (test : List ℕ → Bool) (numbers : List (List ℕ)) → Apart numbers → Apart (filter test numbers)
apart_filter test [] apart = tt
apart_filter test (own ∷ more) apart = by (test own) (apart_filter test more apart.1)
  where
    by : (b : Bool) → Apart (filter test more) → Apart (cond b (own ∷ filter test more) (filter test more))
    by true rest = (has_filter own test more apart.0, rest)
    by false rest = rest
