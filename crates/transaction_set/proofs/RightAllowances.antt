-- A G72 whose elements are right says an allowance that has a size where it changes a price, and one that says so is right.
use Rattle.std.proofs.Common.{◌≡◌, ℕ, Bool, true, false, not, ◌&&◌, ◌==◌, List, [], length, Option, Some, None, is_some, Result, Ok, Err, IfOk, ◌<◌, nat_le, inl, inr, refl, sym, ap, ◌∙◌, subst}
use Rattle.std.proofs.lemmas.Bool.{cases_Bool}
use Rattle.dsd_values.proofs.Laws.{filled_word_of_spelled}
use Rattle.dsd_values.specs.Answers.{UnlessMemory}
use Rattle.dsd_values.specs.Methods.{counts}
use Rattle.dsd_values.specs.Reading.{cents_of, cost_of, percent_of, quantity_of, filled_word_of}
use Rattle.dsd_values.specs.declared.allowance.Allowance.{Allowance}
use Rattle.dsd_values.specs.declared.fault.ValueFault.{ValueFault}
use Rattle.segments.specs.declared.item_fault.ItemFault.{ItemFault}
use Rattle.segments.specs.declared.item_fault.ItemFault.TheVariants as errors
use Rattle.transaction_set.specs.declared.set_fault.SetFault.{SetFault}
use Rattle.transaction_set.specs.declared.set_fault.SetReason.{SetReason}
use Rattle.transaction_set.specs.declared.set_fault.SetReason.TheVariants as reasons
use Rattle.transaction_set.specs.Reasons.{Says, allowance_reason, as_value, at_segment}
use Rattle.segments.specs.Views.{Seg, element_of}
use Rattle.segments.specs.Elements.{Reads, ◌or_else◌, some_of, optional}
use Rattle.transaction_set.specs.Allowances.{has_size, HasSize, IsAllowance, is_left_out, lacks_quantity, lacks_size, missing, allowance_fault, allowance_in}
use Rattle.dsd_values.specs.declared.limits.TheConstants.{MOST_ALLOWANCES}
use Rattle.dsd_values.specs.declared.extra.Extra.TheVariants.{Allow}
use Rattle.transaction_set.specs.SoFar.{SoFar, with_beside}
use Rattle.transaction_set.proofs.Small.{both_none, none_then, at_ok, ok_at, ok_said, not_le, value_none, when_not}

-- ---- which elements are there

some_gives : (answer : Result ℕ ValueFault) (value : Option ℕ) → some_of answer ≡ Ok value → is_some value ≡ true
some_gives (Ok x) value e = let same : value ≡ Some x = cc in ap is_some same
some_gives (Err fault) value e = cc

-- an optional element has no value exactly where it has no text
left_out : (reading : List ℕ → Result ℕ ValueFault) (text : List ℕ) (value : Option ℕ) → optional reading text ≡ Ok value → (length text == 0) ≡ not (is_some value)
left_out reading text value e = elim (cases_Bool (length text == 0)) [
  | inl empty ↦ let none : Ok None ≡ Ok value = rw empty at e in let same : value ≡ None = cc in empty ∙ ap (λ (v : Option ℕ). not (is_some v)) (sym same)
  | inr filled ↦ let some : some_of (reading text) ≡ Ok value = rw filled at e in filled ∙ ap not (sym (some_gives (reading text) value some))
]

-- ---- the size

-- where no element lacks, there is a size
sized : (in_line : Bool) (total rate quantity percent : Option ℕ)
    → (not in_line && true && not (is_some total) && not (not (is_some rate)) && not (is_some quantity)) ≡ false
    → (true && not (is_some rate) && not (is_some total) && not (is_some percent)) ≡ false
    → has_size in_line total rate quantity percent ≡ true
sized in_line (Some total) rate quantity percent q s = refl
sized true None (Some rate) quantity percent q s = refl
sized false None (Some rate) (Some quantity) percent q s = refl
sized false None (Some rate) None percent q s = cc
sized in_line None None quantity (Some percent) q s = refl
sized in_line None None quantity None q s = cc

-- where there is one, no element lacks
none_lacks : (in_line price : Bool) (total rate quantity percent : Option ℕ) → (price ≡ true → has_size in_line total rate quantity percent ≡ true)
    → ((not in_line && price && not (is_some total) && not (not (is_some rate)) && not (is_some quantity)) ≡ false)
    × ((price && not (is_some rate) && not (is_some total) && not (is_some percent)) ≡ false)
none_lacks true false total rate quantity percent h = (refl, refl)
none_lacks false false total rate quantity percent h = (refl, refl)
none_lacks true true (Some total) (Some rate) quantity percent h = (refl, refl)
none_lacks true true (Some total) None quantity percent h = (refl, refl)
none_lacks false true (Some total) (Some rate) quantity percent h = (refl, refl)
none_lacks false true (Some total) None quantity percent h = (refl, refl)
none_lacks true true None (Some rate) quantity percent h = (refl, refl)
none_lacks false true None (Some rate) (Some quantity) percent h = (refl, refl)
none_lacks false true None (Some rate) None percent h = let no = h refl in cc
none_lacks true true None None quantity (Some percent) h = (refl, refl)
none_lacks false true None None quantity (Some percent) h = (refl, refl)
none_lacks true true None None quantity None h = let no = h refl in cc
none_lacks false true None None quantity None h = let no = h refl in cc

-- the tests on texts are tests on values
pub record AreLeftOut (seg : Seg) (method : List ℕ) (total rate quantity percent : Option ℕ) : Type 0 where
  pub method_is : counts (element_of seg 2) ≡ counts method
  pub rate_is : is_left_out seg 5 ≡ not (is_some rate)
  pub quantity_is : is_left_out seg 6 ≡ not (is_some quantity)
  pub total_is : is_left_out seg 8 ≡ not (is_some total)
  pub percent_is : is_left_out seg 9 ≡ not (is_some percent)

lacks_quantity_is : (in_line : Bool) (seg : Seg) (method : List ℕ) (total rate quantity percent : Option ℕ) → AreLeftOut seg method total rate quantity percent
    → lacks_quantity in_line seg ≡ (not in_line && counts method && not (is_some total) && not (not (is_some rate)) && not (is_some quantity))
lacks_quantity_is in_line seg method total rate quantity percent a =
    ap (λ (b : Bool). not in_line && b && is_left_out seg 8 && not (is_left_out seg 5) && is_left_out seg 6) a.method_is
    ∙ ap (λ (b : Bool). not in_line && counts method && b && not (is_left_out seg 5) && is_left_out seg 6) a.total_is
    ∙ ap (λ (b : Bool). not in_line && counts method && not (is_some total) && not b && is_left_out seg 6) a.rate_is
    ∙ ap (λ (b : Bool). not in_line && counts method && not (is_some total) && not (not (is_some rate)) && b) a.quantity_is

lacks_size_is : (seg : Seg) (method : List ℕ) (total rate quantity percent : Option ℕ) → AreLeftOut seg method total rate quantity percent
    → lacks_size seg ≡ (counts method && not (is_some rate) && not (is_some total) && not (is_some percent))
lacks_size_is seg method total rate quantity percent a =
    ap (λ (b : Bool). b && is_left_out seg 5 && is_left_out seg 8 && is_left_out seg 9) a.method_is
    ∙ ap (λ (b : Bool). counts method && b && is_left_out seg 8 && is_left_out seg 9) a.rate_is
    ∙ ap (λ (b : Bool). counts method && not (is_some rate) && b && is_left_out seg 9) a.total_is
    ∙ ap (λ (b : Bool). counts method && not (is_some rate) && not (is_some total) && b) a.percent_is

-- a word is its own text
method_same : (seg : Seg) (method : List ℕ) → filled_word_of (element_of seg 2) ≡ Ok method → counts (element_of seg 2) ≡ counts method
method_same seg method e =
    let word = (filled_word_of_spelled (element_of seg 2) (filled_word_of (element_of seg 2)) refl method).0 e in
    ap counts word.same

are_left_out : (seg : Seg) (method : List ℕ) (total rate quantity percent : Option ℕ) → filled_word_of (element_of seg 2) ≡ Ok method
    → optional cost_of (element_of seg 5) ≡ Ok rate → optional quantity_of (element_of seg 6) ≡ Ok quantity
    → optional cents_of (element_of seg 8) ≡ Ok total → optional percent_of (element_of seg 9) ≡ Ok percent
    → AreLeftOut seg method total rate quantity percent
are_left_out seg method total rate quantity percent m r q t p = record {
  method_is = method_same seg method m;
  rate_is = left_out cost_of (element_of seg 5) rate r;
  quantity_is = left_out quantity_of (element_of seg 6) quantity q;
  total_is = left_out cents_of (element_of seg 8) total t;
  percent_is = left_out percent_of (element_of seg 9) percent p;
}

not_missing : (element : ℕ) (test : Bool) → missing element test ≡ None → test ≡ false
not_missing element true e = cc
not_missing element false e = refl

missing_not : (element : ℕ) (test : Bool) → test ≡ false → missing element test ≡ None
missing_not element true e = cc
missing_not element false e = refl

has_a_size : (in_line : Bool) (seg : Seg) (method : List ℕ) (total rate quantity percent : Option ℕ) → AreLeftOut seg method total rate quantity percent
    → lacks_quantity in_line seg ≡ false → lacks_size seg ≡ false → counts method ≡ true → has_size in_line total rate quantity percent ≡ true
has_a_size in_line seg method total rate quantity percent a q s c =
    let units = ap (λ (b : Bool). not in_line && b && not (is_some total) && not (not (is_some rate)) && not (is_some quantity)) (sym c) ∙ sym (lacks_quantity_is in_line seg method total rate quantity percent a) ∙ q in
    let any = ap (λ (b : Bool). b && not (is_some rate) && not (is_some total) && not (is_some percent)) (sym c) ∙ sym (lacks_size_is seg method total rate quantity percent a) ∙ s in
    sized in_line total rate quantity percent units any

-- ---- both ways

pub allowance_right : (in_line : Bool) (seg : Seg) → allowance_fault in_line seg ≡ None → IsAllowance in_line (allowance_in seg) seg
allowance_right in_line seg e1 =
    let a1 = both_none _ _ e1 in
    let a2 = both_none _ _ a1.1 in
    let a3 = both_none _ _ a2.1 in
    let a4 = both_none _ _ a3.1 in
    let a5 = both_none _ _ a4.1 in
    let n6 = both_none _ _ a5.1 in
    let a6 = both_none _ _ n6.1 in
    let a7 = both_none _ _ a6.1 in
    let n8 = both_none _ _ a7.1 in
    let a8 = both_none _ _ n8.1 in
    let method = at_ok 2 [] _ a2.0 in
    let rate = at_ok 5 None _ a5.0 in
    let quantity = at_ok 6 None _ a6.0 in
    let total = at_ok 8 None _ a8.0 in
    let percent = at_ok 9 None _ a8.1 in
    record {
      code = at_ok 1 [] _ a1.0;
      method = method;
      number = at_ok 3 [] _ a3.0;
      exception = at_ok 4 [] _ a4.0;
      rate = rate;
      quantity = quantity;
      unit = at_ok 7 [] _ a7.0;
      total = total;
      percent = percent;
      tail = refl;
      size = has_a_size in_line seg _ _ _ _ _ (are_left_out seg _ _ _ _ _ method rate quantity total percent) (not_missing 6 _ n6.0) (not_missing 8 _ n8.0);
    }

pub right_allowance : (in_line : Bool) (allowance : Allowance) (seg : Seg) → IsAllowance in_line allowance seg → allowance_fault in_line seg ≡ None
right_allowance in_line allowance seg i =
    let out = are_left_out seg allowance.method allowance.total allowance.rate allowance.quantity allowance.percent i.method i.rate i.quantity i.total i.percent in
    let none = none_lacks in_line (counts allowance.method) allowance.total allowance.rate allowance.quantity allowance.percent i.size in
    let units : lacks_quantity in_line seg ≡ false = lacks_quantity_is in_line seg _ _ _ _ _ out ∙ none.0 in
    let any : lacks_size seg ≡ false = lacks_size_is seg _ _ _ _ _ out ∙ none.1 in
    none_then _ _ (ok_at 1 _ _ i.code) (none_then _ _ (ok_at 2 _ _ i.method) (none_then _ _ (ok_at 3 _ _ i.number) (none_then _ _ (ok_at 4 _ _ i.exception)
    (none_then _ _ (ok_at 5 _ _ i.rate) (none_then _ _ (missing_not 6 _ units) (none_then _ _ (ok_at 6 _ _ i.quantity) (none_then _ _ (ok_at 7 _ _ i.unit)
    (none_then _ _ (missing_not 8 _ any) (none_then _ _ (ok_at 8 _ _ i.total) (ok_at 9 _ _ i.percent))))))))))

abbrev allowance_of : List ℕ → List ℕ → List ℕ → List ℕ → Option ℕ → Option ℕ → List ℕ → Option ℕ → Option ℕ → List ℕ → Allowance
allowance_of code method number exception rate quantity unit total percent tail = record { code = code; method = method; number = number; exception = exception; rate = rate; quantity = quantity; unit = unit; total = total; percent = percent; tail = tail }

same_allowance : (a b : Allowance) → a.code ≡ b.code → a.method ≡ b.method → a.number ≡ b.number → a.exception ≡ b.exception → a.rate ≡ b.rate → a.quantity ≡ b.quantity → a.unit ≡ b.unit → a.total ≡ b.total → a.percent ≡ b.percent → a.tail ≡ b.tail → a ≡ b
same_allowance a b e1 e2 e3 e4 e5 e6 e7 e8 e9 e10 =
    ap (λ (v : List ℕ). allowance_of v a.method a.number a.exception a.rate a.quantity a.unit a.total a.percent a.tail) e1
    ∙ ap (λ (v : List ℕ). allowance_of b.code v a.number a.exception a.rate a.quantity a.unit a.total a.percent a.tail) e2
    ∙ ap (λ (v : List ℕ). allowance_of b.code b.method v a.exception a.rate a.quantity a.unit a.total a.percent a.tail) e3
    ∙ ap (λ (v : List ℕ). allowance_of b.code b.method b.number v a.rate a.quantity a.unit a.total a.percent a.tail) e4
    ∙ ap (λ (v : Option ℕ). allowance_of b.code b.method b.number b.exception v a.quantity a.unit a.total a.percent a.tail) e5
    ∙ ap (λ (v : Option ℕ). allowance_of b.code b.method b.number b.exception b.rate v a.unit a.total a.percent a.tail) e6
    ∙ ap (λ (v : List ℕ). allowance_of b.code b.method b.number b.exception b.rate b.quantity v a.total a.percent a.tail) e7
    ∙ ap (λ (v : Option ℕ). allowance_of b.code b.method b.number b.exception b.rate b.quantity b.unit v a.percent a.tail) e8
    ∙ ap (λ (v : Option ℕ). allowance_of b.code b.method b.number b.exception b.rate b.quantity b.unit b.total v a.tail) e9
    ∙ ap (λ (v : List ℕ). allowance_of b.code b.method b.number b.exception b.rate b.quantity b.unit b.total b.percent v) e10

pub allowance_said : (in_line : Bool) (allowance : Allowance) (seg : Seg) → IsAllowance in_line allowance seg → allowance ≡ allowance_in seg
allowance_said in_line allowance seg i = same_allowance allowance (allowance_in seg)
    (ok_said [] _ _ i.code) (ok_said [] _ _ i.method) (ok_said [] _ _ i.number) (ok_said [] _ _ i.exception) (ok_said None _ _ i.rate)
    (ok_said None _ _ i.quantity) (ok_said [] _ _ i.unit) (ok_said None _ _ i.total) (ok_said None _ _ i.percent) (sym i.tail)

-- ---- the answer

pub allowance_found : (in_line : Bool) (seg : Seg) (answer : Result Allowance ItemFault) → Reads answer (allowance_fault in_line seg) (λ allowance. allowance ≡ allowance_in seg) → IfOk answer (λ allowance. IsAllowance in_line allowance seg)
allowance_found in_line seg (Ok allowance) h = subst (λ (a : Allowance). IsAllowance in_line a seg) (sym h.1) (allowance_right in_line seg h.0)
allowance_found in_line seg (Err fault) h = tt

pub allowance_sized : (in_line : Bool) (seg : Seg) (answer : Result Allowance ItemFault) → IfOk answer (λ allowance. IsAllowance in_line allowance seg) → IfOk answer (λ allowance. HasSize in_line allowance)
allowance_sized in_line seg (Ok allowance) i = i.size
allowance_sized in_line seg (Err fault) i = tt

pub allowance_only : (in_line : Bool) (seg : Seg) (answer : Result Allowance ItemFault) → Reads answer (allowance_fault in_line seg) (λ allowance. allowance ≡ allowance_in seg)
    → (allowance : Allowance) → IsAllowance in_line allowance seg → UnlessMemory errors.Memory answer (Ok allowance)
allowance_only in_line seg (Ok read) h allowance i = let same : read ≡ allowance = h.1 ∙ sym (allowance_said in_line allowance seg i) in inr (ap (λ (a : Allowance). Ok a) same)
allowance_only in_line seg (Err errors.Memory) h allowance i = inl refl
allowance_only in_line seg (Err (errors.Value element why)) h allowance i = let none = right_allowance in_line allowance seg i in cc

-- a refused element is the reason where there is room
pub allowance_refused : {X Y : Type 0} (fault : ItemFault) (answer : Result X SetFault) (in_line inside : Bool) (others beside : ℕ) (seg : Seg) (P : Y → Type 0) (Q : X → Type 0) → Reads (Err fault) (allowance_fault in_line seg) P
    → answer ≡ at_segment seg.start (Err fault) → in_line ≡ inside → others ≡ beside → others < MOST_ALLOWANCES → Says answer seg.start (allowance_reason inside beside seg) Q
allowance_refused errors.Memory answer in_line inside others beside seg P Q h same i o room = subst (λ (a : _). Says a seg.start (allowance_reason inside beside seg) Q) (sym same) tt
allowance_refused (errors.Value element why) answer in_line inside others beside seg P Q h same i o room =
    let room_there : nat_le MOST_ALLOWANCES others ≡ false = not_le MOST_ALLOWANCES others room in
    let because : allowance_reason in_line others seg ≡ Some (reasons.Value element why) = ap (λ (r : Option SetReason). r or_else as_value (allowance_fault in_line seg)) (when_not _ _ room_there) ∙ ap as_value h in
    let there : allowance_reason inside beside seg ≡ Some (reasons.Value element why) = ap (λ (b : Bool). allowance_reason b beside seg) (sym i) ∙ ap (λ (n : ℕ). allowance_reason in_line n seg) (sym o) ∙ because in
    subst (λ (a : _). Says a seg.start (allowance_reason inside beside seg) Q) (sym same) (refl, there)

-- an allowance that was read and put is the one that the segment says
pub allowance_kept : (allowance : Allowance) (in_line inside : Bool) (others beside : ℕ) (seg : Seg) (old new : SoFar) → Reads (Ok allowance) (allowance_fault in_line seg) (λ a. a ≡ allowance_in seg)
    → in_line ≡ inside → others ≡ beside → others < MOST_ALLOWANCES → new ≡ with_beside (Allow allowance) old
    → (allowance_reason inside beside seg ≡ None) × (new ≡ with_beside (Allow (allowance_in seg)) old)
allowance_kept allowance in_line inside others beside seg old new read i o room same =
    let room_there : nat_le MOST_ALLOWANCES others ≡ false = not_le MOST_ALLOWANCES others room in
    let because : allowance_reason in_line others seg ≡ None = none_then _ _ (when_not _ _ room_there) (value_none _ read.0) in (
      ap (λ (b : Bool). allowance_reason b beside seg) (sym i) ∙ ap (λ (n : ℕ). allowance_reason in_line n seg) (sym o) ∙ because,
      same ∙ ap (λ (a : Allowance). with_beside (Allow a) old) read.1,
    )
