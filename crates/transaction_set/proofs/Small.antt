-- Small facts on options, tests and elements.
use Rattle.std.proofs.Common.{◌≡◌, ℕ, ◌+◌, ◌<◌, ◌≤◌, ◌==◌, Bool, true, false, not, ◌||◌, List, [], ◌∷◌, length, Option, Some, None, Result, Ok, Err, nat_le, nat_lt, refl, sym, ap, ◌∙◌, arith}
use Rattle.std.specs.Str.{bytes_eq}
use Rattle.std.proofs.lemmas.Slice.Eq.{bytes_eq-Decides}
use Rattle.std.proofs.lemmas.Bool.Decides.{nat_tests}
use Rattle.dsd_values.specs.declared.fault.ValueFault.{ValueFault}
use Rattle.dsd_values.specs.declared.fault.ValueFault.TheVariants as faults
use Rattle.transaction_set.specs.declared.set_fault.SetReason.{SetReason}
use Rattle.segments.specs.Elements.{ElementFault, ◌or_else◌, at_element, said, filled_from}
use Rattle.transaction_set.specs.Reasons.{when, as_value}
use Rattle.transaction_set.specs.Grammar.{AreEmpty}

pub same_some : {A : Type 0} (a b : A) → Some a ≡ Some b → a ≡ b
same_some a b e = cc

pub both_none : {A : Type 0} (a b : Option A) → (a or_else b) ≡ None → (a ≡ None) × (b ≡ None)
both_none (Some r) b e = cc
both_none None b e = (refl, e)

pub none_then : {A : Type 0} (a b : Option A) → a ≡ None → b ≡ None → (a or_else b) ≡ None
none_then (Some r) b p q = cc
none_then None b p q = q

pub not_when : (t : Bool) (r : SetReason) → when t r ≡ None → t ≡ false
not_when true r e = cc
not_when false r e = refl

pub when_not : (t : Bool) (r : SetReason) → t ≡ false → when t r ≡ None
when_not true r e = cc
when_not false r e = refl

pub no_value : (f : Option ElementFault) → as_value f ≡ None → f ≡ None
no_value (Some f) e = cc
no_value None e = refl

pub value_none : (f : Option ElementFault) → f ≡ None → as_value f ≡ None
value_none (Some f) e = cc
value_none None e = refl

pub at_ok : {V : Type 0} (n : ℕ) (other : V) (r : Result V ValueFault) → at_element n r ≡ None → r ≡ Ok (said other r)
at_ok n other (Ok v) e = refl
at_ok n other (Err f) e = cc

pub ok_at : {V : Type 0} (n : ℕ) (r : Result V ValueFault) (v : V) → r ≡ Ok v → at_element n r ≡ None
ok_at n (Ok x) v e = refl
ok_at n (Err f) v e = cc

pub ok_said : {V : Type 0} (other : V) (r : Result V ValueFault) (v : V) → r ≡ Ok v → v ≡ said other r
ok_said other r v e = sym (ap (said other) e)

not_false : (t : Bool) → not t ≡ false → t ≡ true
not_false true e = refl
not_false false e = cc

pub same_bytes : (a b : List ℕ) → not (bytes_eq a b) ≡ false → a ≡ b
same_bytes a b e = (bytes_eq-Decides a b).0 (not_false (bytes_eq a b) e)

pub bytes_same : (a b : List ℕ) → a ≡ b → not (bytes_eq a b) ≡ false
bytes_same a b e = ap not ((bytes_eq-Decides a b).1 e)

pub bytes_are : (a b : List ℕ) → bytes_eq a b ≡ true → a ≡ b
bytes_are a b e = (bytes_eq-Decides a b).0 e

pub are_bytes : (a b : List ℕ) → a ≡ b → bytes_eq a b ≡ true
are_bytes a b e = (bytes_eq-Decides a b).1 e

pub same_number : (a b : ℕ) → not (a == b) ≡ false → a ≡ b
same_number a b e = grind (arith, nat_tests)

pub number_same : (a b : ℕ) → a ≡ b → not (a == b) ≡ false
number_same a b e = grind (arith, nat_tests)

pub less : (a b : ℕ) → nat_le a b ≡ false → b < a
less a b e = grind (arith, nat_tests)

pub not_le : (a b : ℕ) → b < a → nat_le a b ≡ false
not_le a b e = grind (arith, nat_tests)

pub at_most : (a b : ℕ) → nat_lt a b ≡ false → b ≤ a
at_most a b e = grind (arith, nat_tests)

pub not_lt : (a b : ℕ) → b ≤ a → nat_lt a b ≡ false
not_lt a b e = grind (arith, nat_tests)

pub or_false : (a b : Bool) → (a || b) ≡ false → (a ≡ false) × (b ≡ false)
or_false true b e = cc
or_false false b e = (refl, e)

pub both_false : (a b : Bool) → a ≡ false → b ≡ false → (a || b) ≡ false
both_false true b p q = cc
both_false false b p q = q

pub turned : (m n : ℕ) → (m == n) ≡ false → (n == m) ≡ false
turned m n e = grind (arith, nat_tests)

-- elements behind the last listed one

some_none : {A : Type 0} (x : A) → Some x ≡ None → ⊥
some_none x e = cc

filled_one : (n b : ℕ) (text : List ℕ) (more : List (List ℕ)) → filled_from n ((b ∷ text) ∷ more) ≡ Some (record { element = n; fault = faults.TooLong (length (b ∷ text)) })
filled_one n b text more =
    let t : (length (b ∷ text) == 0) ≡ false = grind arith in
    rw t refl

pub are_empty : (n : ℕ) (texts : List (List ℕ)) → filled_from n texts ≡ None → AreEmpty texts
are_empty n [] e = tt
are_empty n ([] ∷ more) e = (refl, are_empty (n + 1) more e)
are_empty n ((b ∷ text) ∷ more) e = absurd (some_none _ (sym (filled_one n b text more) ∙ e))

pub empty_ones : (n : ℕ) (texts : List (List ℕ)) → AreEmpty texts → filled_from n texts ≡ None
empty_ones n [] e = refl
empty_ones n ([] ∷ more) e = empty_ones (n + 1) more e.1
empty_ones n ((b ∷ text) ∷ more) e = let no : (b ∷ text) ≡ [] = e.0 in cc
