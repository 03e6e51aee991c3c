-- When an answer applies: no fault, and the cases of a call.
use Rattle.std.proofs.Common.{◌≡◌, inr, ◌≤◌, ℕ, pos, ◌==◌, nat_le, Bool, true, false, ◌&&◌, List, length, Option, Some, None, Result, Ok, Err, refl, sym, ap, subst, ◌∙◌, arith}
use Rattle.std.specs.Str.{bytes_eq}
use Rattle.std.proofs.lemmas.Bool.Decides.{Decides-int_eq, nat_tests}
use Rattle.std.proofs.lemmas.Slice.Eq.{bytes_eq-Decides}
use Rattle.dsd_pricing.specs.Pricing.{priced, quantities}
use Rattle.dsd_values.specs.declared.extra.Extra.{Extra}
use Rattle.dsd_values.specs.declared.flag.Flag.{Flag}
use Rattle.dsd_values.specs.declared.flag.Flag.TheVariants.{Credit, Debit}
use Rattle.dsd_values.specs.declared.limits.TheConstants.{MOST_LINES}
use Rattle.dsd_values.specs.declared.line.Line.{Line}
use Rattle.segments.specs.Elements.{◌or_else◌}
use Rattle.transaction_set.proofs.Small.{both_none, none_then}
use Rattle.adjustment_895.specs.AnswerRecord.{AnswerRecord}
use Rattle.dsd_record.specs.Applying.{Applies, Refuses, apply_fault, is_same_flag, lines_after, naming_fault, refused_by, rows_fault, unless}
use Rattle.dsd_record.specs.LineChanges.{changed}
use Rattle.dsd_record.specs.Naming.{answered_level}
use Rattle.dsd_record.specs.Version.{Version}
use Rattle.dsd_record.specs.declared.fault.ApplyFault.{ApplyFault}
use Rattle.dsd_record.specs.declared.fault.ApplyFault.TheVariants as faults

-- ---- tests

holds : (test : Bool) (fault : ApplyFault) → unless test fault ≡ None → test ≡ true
holds true fault e = refl
holds false fault e = cc

pub held : (test : Bool) (fault : ApplyFault) → test ≡ true → unless test fault ≡ None
held test fault e = rw e refl

both_true : (a b : Bool) → (a && b) ≡ true → (a ≡ true) × (b ≡ true)
both_true true b e = (refl, e)
both_true false b e = cc

true_both : (a b : Bool) → a ≡ true → b ≡ true → (a && b) ≡ true
true_both true b p q = q
true_both false b p q = cc

flags_same : (a b : Flag) → is_same_flag a b ≡ true → a ≡ b
flags_same Debit Debit e = refl
flags_same Debit Credit e = cc
flags_same Credit Debit e = cc
flags_same Credit Credit e = refl

flag_same : (a b : Flag) → a ≡ b → is_same_flag a b ≡ true
flag_same a b e = subst (λ (f : Flag). is_same_flag a f ≡ true) e (itself a)
  where
    itself : (f : Flag) → is_same_flag f f ≡ true
    itself Debit = refl
    itself Credit = refl

same_number : (a b : ℕ) → (a == b) ≡ true → a ≡ b
same_number a b e = grind (arith, nat_tests)

number_same : (a b : ℕ) → a ≡ b → (a == b) ≡ true
number_same a b e = grind (arith, nat_tests)

few_enough : (a b : ℕ) → nat_le a b ≡ true → a ≤ b
few_enough a b e = grind (arith, nat_tests)

pub enough_few : (a b : ℕ) → a ≤ b → nat_le a b ≡ true
enough_few a b e = grind (arith, nat_tests)

-- ---- no fault

pub faultless : (version : Version) (answer : AnswerRecord) → apply_fault version answer ≡ None → Applies version answer
faultless version answer e =
    let lines = lines_after version answer in
    let all = both_none (naming_fault version answer) (rows_fault answer lines version.extras) e in
    let n = both_none (unless (is_same_flag answer.flag version.flag && bytes_eq answer.number version.number) faults.WrongDelivery) _ all.0 in
    let l = both_none (unless (answer.level == answered_level answer.lines version.level) (faults.WrongLevel version.level answer.level)) _ n.1 in
    let r = both_none (unless (nat_le (length lines) MOST_LINES) (faults.Limit (length lines))) _ all.1 in
    let t = both_none (unless (answer.quantity == quantities lines) (faults.TotalsDiffer answer.quantity (pos (quantities lines)))) _ r.1 in
    let delivery = both_true (is_same_flag answer.flag version.flag) (bytes_eq answer.number version.number) (holds _ _ n.0) in
    record {
      flag = flags_same answer.flag version.flag delivery.0;
      named = record {
        number = (bytes_eq-Decides answer.number version.number).0 delivery.1;
        level = same_number answer.level (answered_level answer.lines version.level) (holds _ _ l.0);
        check = same_number answer.check version.check (holds _ _ l.1);
      };
      few = few_enough (length lines) MOST_LINES (holds _ _ r.0);
      quantity = same_number answer.quantity (quantities lines) (holds _ _ t.0);
      amount = (Decides-int_eq (pos answer.amount) (priced lines version.extras)).0 (holds _ _ t.1);
    }

pub fault_none : (version : Version) (answer : AnswerRecord) → Applies version answer → apply_fault version answer ≡ None
fault_none version answer a =
    let lines = lines_after version answer in
    let delivery = true_both (is_same_flag answer.flag version.flag) (bytes_eq answer.number version.number) (flag_same answer.flag version.flag a.flag) ((bytes_eq-Decides answer.number version.number).1 a.named.number) in
    none_then (naming_fault version answer) (rows_fault answer lines version.extras)
    (none_then _ _ (held _ _ delivery)
    (none_then _ _ (held _ _ (number_same answer.level (answered_level answer.lines version.level) a.named.level)) (held _ _ (number_same answer.check version.check a.named.check))))
    (none_then _ _ (held _ _ (enough_few (length lines) MOST_LINES a.few))
    (none_then _ _ (held _ _ (number_same answer.quantity (quantities lines) a.quantity)) (held _ _ ((Decides-int_eq (pos answer.amount) (priced lines version.extras)).1 a.amount))))

-- ---- the exits of a call

-- there is none
pub first_none : (first : Option ApplyFault) (answer : Result (Unit {0}) ApplyFault) (done : Unit {0}) → answer ≡ refused_by first → answer ≡ Ok done → first ≡ None
first_none (Some f) answer done is e = cc
first_none None answer done is e = refl

-- then the second decides
pub second_after : (first second : Option ApplyFault) → first ≡ None → (first or_else second) ≡ second
second_after (Some f) second none = cc
second_after None second none = refl

-- ---- the rows behind an adjustment

pub rows_are : (inside version : Version) (answer : AnswerRecord) (now lines : List Line) (extras : List Extra) (told : Result (Unit {0}) ApplyFault) → inside ≡ version → now ≡ answer.lines → lines ≡ changed inside.lines now → extras ≡ inside.extras
    → told ≡ refused_by (rows_fault answer lines extras) → told ≡ refused_by (rows_fault answer (lines_after version answer) version.extras)
rows_are inside version answer now lines extras told view same made beside is =
    is ∙ ap (λ (ls : List Line). refused_by (rows_fault answer ls extras)) (made ∙ ap (changed inside.lines) same) ∙ ap (λ (xs : List Extra). refused_by (rows_fault answer (changed inside.lines answer.lines) xs)) beside
    ∙ ap (λ (v : Version). refused_by (rows_fault answer (lines_after v answer) v.extras)) view

pub refuses_err : {X : Type 0} (fault : Option ApplyFault) (told : Result (Unit {0}) ApplyFault) (given : Result X ApplyFault) (found : ApplyFault) (Made : X → Type 0) → told ≡ refused_by fault → told ≡ Err found → given ≡ Err found → Refuses given fault Made
refuses_err (Some f) told given found Made is e same = let one : (let r : Result (Unit {0}) ApplyFault = Err f in r) ≡ Err found = sym is ∙ e in rw same (inr (ap (λ (g : ApplyFault). Some g) (let both : f ≡ found = cc in both)))
refuses_err None told given found Made is e same = cc
