-- Counting over the deliveries of a list of entries.
use Rattle.std.proofs.Common.{◌≡◌, ◌+◌, ◌<◌, ◌≤◌, ◌*◌, ℕ, Bool, true, false, List, [], ◌∷◌, ◌++◌, length, fold, take, get_or, bytes_eq, if◌then◌else◌, refl, sym, ap, ◌∙◌, arith, length-append, Option, Some, None}
use Rattle.std.specs.List.{cons_option, count_by, list_any, sum_by}
use Rattle.std.proofs.lemmas.List.Sums.{count_by_more_no, count_by_more_yes, sum_by_more}
use Rattle.indexmap.specs.IndexSet.{insert_key}
use Rattle.dsd_journal.specs.declared.entry.Entry.{Entry}
use Rattle.delivery_book.specs.Deeds.{Deed, deed_of, deeds_of, number_in}
use Rattle.delivery_book.specs.Lookups.{number_at, numbers_of, with_number}

insert_few : (numbers : List (List ℕ)) (number : List ℕ) → length (insert_key bytes_eq numbers number) ≤ length numbers + 1
insert_few numbers number = by (list_any (bytes_eq number) numbers)
  where
    by : (test : Bool) → length (if test then numbers else numbers ++ number ∷ []) ≤ length numbers + 1
    by true = omega arith
    by false = omega (arith, length-append numbers (number ∷ []))

numbers_few : (numbers : List (List ℕ)) (deeds : List Deed) → length (fold (λ (n : List (List ℕ)) (deed : Deed). with_number n (number_in deed.set)) numbers deeds) ≤ length numbers + length deeds
numbers_few numbers [] = omega arith
numbers_few numbers (deed ∷ deeds) =
    let next = with_number numbers (number_in deed.set) in
    omega (arith, insert_few numbers (number_in deed.set), numbers_few next deeds)

one_few : (deed : Option Deed) (deeds : List Deed) (count : ℕ) → length deeds ≤ count → length (cons_option deed deeds) ≤ count + 1
one_few (Some deed) deeds count few = omega arith
one_few None deeds count few = omega arith

deeds_few : (entries : List Entry) → length (deeds_of entries) ≤ length entries
deeds_few [] = omega arith
deeds_few (entry ∷ entries) = omega (arith, one_few (deed_of entry) (deeds_of entries) (length entries) (deeds_few entries))

-- there are no more deliveries than entries
pub deliveries_few : (entries : List Entry) → length (numbers_of entries) ≤ length entries
deliveries_few entries = omega (arith, numbers_few [] (deeds_of entries), deeds_few entries)

-- what was counted of the first so many deliveries
pub record IsCountOf (test : List ℕ → Bool) (entries : List Entry) (index count : ℕ) : Type 0 where
  pub so_far : count ≡ count_by test (take index (numbers_of entries))
  pub few : count ≤ index

pub one_more : (test : List ℕ → Bool) (entries : List Entry) (index count : ℕ) → index < length (numbers_of entries) → test (number_at entries index) ≡ true → IsCountOf test entries index count → IsCountOf test entries (index + 1) (count + 1)
one_more test entries index count inside passes before = record {
  so_far = ap (λ (n : ℕ). n + 1) before.so_far ∙ sym (count_by_more_yes test (numbers_of entries) index [] inside passes);
  few = omega (arith, before.few);
}

pub none_more : (test : List ℕ → Bool) (entries : List Entry) (index count : ℕ) → index < length (numbers_of entries) → test (number_at entries index) ≡ false → IsCountOf test entries index count → IsCountOf test entries (index + 1) count
none_more test entries index count inside fails before = record {
  so_far = before.so_far ∙ sym (count_by_more_no test (numbers_of entries) index [] inside fails);
  few = omega (arith, before.few);
}

-- the sum over the first so many deliveries, each of which has at most so much
pub record IsSumOf (size : List ℕ → ℕ) (most : ℕ) (entries : List Entry) (index sum : ℕ) : Type 0 where
  pub so_far : sum ≡ sum_by size (take index (numbers_of entries))
  pub few : sum ≤ index * most

pub more : (size : List ℕ → ℕ) (most : ℕ) (entries : List Entry) (index sum next : ℕ) → index < length (numbers_of entries) → next ≡ size (number_at entries index) → next ≤ most → IsSumOf size most entries index sum → IsSumOf size most entries (index + 1) (sum + next)
more size most entries index sum next inside is small before = record {
  so_far = ap (λ (n : ℕ). n + next) before.so_far ∙ ap (λ (n : ℕ). sum_by size (take index (numbers_of entries)) + n) is ∙ sym (sum_by_more size (numbers_of entries) index [] inside);
  few = omega (arith, before.few);
}
