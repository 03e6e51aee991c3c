-- The elements behind the last listed one, read in turn.
use Rattle.std.proofs.Common.{◌≡◌, ℕ, ◌+◌, ◌<◌, ◌≤◌, ◌==◌, true, false, List, [], ◌∷◌, length, drop, slice_index_or, add-one, refl, ap, ◌∙◌, arith, Some, None}
use Rattle.std.proofs.lemmas.Bool.Decides.{nat_tests}
use Rattle.std.proofs.Math.Seq.{drop-cons}
use Rattle.std.proofs.Math.ListN.{drop_of_length-le}
use Rattle.dsd_values.specs.declared.fault.ValueFault.TheVariants as faults
use Rattle.segments.specs.Elements.{filled_from}

pub past_all : (n : ℕ) (parts : List (List ℕ)) → length parts ≤ n → filled_from n (drop n parts) ≡ None
past_all n [] h = ap (filled_from n) (drop_of_length-le [] h)
past_all n (x ∷ parts) h = ap (filled_from n) (drop_of_length-le (x ∷ parts) h)

drop_more : (n : ℕ) (parts : List (List ℕ)) → n < length parts → drop n parts ≡ slice_index_or parts n [] ∷ drop (n + 1) parts
drop_more n parts h = rw (add-one, drop-cons parts n [] h) refl

at_next : (n : ℕ) (parts : List (List ℕ)) → n < length parts → filled_from n (drop n parts) ≡ filled_from n (slice_index_or parts n [] ∷ drop (n + 1) parts)
at_next n parts h = ap (filled_from n) (drop_more n parts h)

test_one : (n : ℕ) (text : List ℕ) (more : List (List ℕ)) → (length text == 0) ≡ true → filled_from n (text ∷ more) ≡ filled_from (n + 1) more
test_one n text more t = rw t refl

test_other : (n : ℕ) (text : List ℕ) (more : List (List ℕ)) → (length text == 0) ≡ false → filled_from n (text ∷ more) ≡ Some (record { element = n; fault = faults.TooLong (length text) })
test_other n text more t = rw t refl

pub empty_one : (n : ℕ) (parts : List (List ℕ)) → n < length parts → length (slice_index_or parts n []) ≡ 0 → filled_from n (drop n parts) ≡ filled_from (n + 1) (drop (n + 1) parts)
empty_one n parts h e =
    let t : (length (slice_index_or parts n []) == 0) ≡ true = grind (arith, nat_tests) in
    at_next n parts h ∙ test_one n (slice_index_or parts n []) (drop (n + 1) parts) t

pub filled_one : (n : ℕ) (parts : List (List ℕ)) → n < length parts → 0 < length (slice_index_or parts n [])
    → filled_from n (drop n parts) ≡ Some (record { element = n; fault = faults.TooLong (length (slice_index_or parts n [])) })
filled_one n parts h e =
    let t : (length (slice_index_or parts n []) == 0) ≡ false = grind (arith, nat_tests) in
    at_next n parts h ∙ test_other n (slice_index_or parts n []) (drop (n + 1) parts) t
