-- The totals of a record, kept and compared with its rows.
use Rattle.std.proofs.Common.{◌≡◌, ℕ, List, Option, None, Result, Ok, Err, ap, ◌∙◌, subst}
use Rattle.dsd_values.specs.declared.extra.Extra.{Extra}
use Rattle.dsd_values.specs.declared.line.Line.{Line}
use Rattle.segments.specs.Views.{Seg}
use Rattle.segments.specs.Elements.{◌or_else◌}
use Rattle.transaction_set.specs.Tables.{totals_fault, totals_in}
use Rattle.transaction_set.specs.SoFar.{SoFar, kept}
use Rattle.transaction_set.specs.Reasons.{Says, as_value}
use Rattle.transaction_set.specs.declared.kind.Kind.TheVariants as kinds
use Rattle.transaction_set.specs.declared.stated.StatedTotals.{StatedTotals}
use Rattle.transaction_set.specs.declared.set_fault.SetFault.{SetFault}
use Rattle.transaction_set.specs.declared.set_fault.SetFault.TheVariants as errors
use Rattle.transaction_set.specs.declared.set_fault.SetReason.{SetReason}
use Rattle.transaction_set.proofs.Small.{none_then}
use Rattle.base_record_894.specs.Said.{Said, kept_by, own_reason, rows_reason}
use Rattle.base_record_894.specs.declared.head.Head.{Head}

pub rows_said : {X : Type 0} (answer : Result X SetFault) (place : ℕ) (a b : StatedTotals) (lines now : List Line) (extras beside : List Extra) (P : X → Type 0) → a ≡ b → lines ≡ now → extras ≡ beside
    → Says answer place (rows_reason a lines extras) P → Says answer place (rows_reason b now beside) P
rows_said answer place a b lines now extras beside P t l x h =
    subst (λ (u : StatedTotals). Says answer place (rows_reason u now beside) P) t
    (subst (λ (u : List Line). Says answer place (rows_reason a u beside) P) l (subst (λ (u : List Extra). Says answer place (rows_reason a lines u) P) x h))

-- a second reason is asked where there is no first one
says_second : {X : Type 0} (answer : Result X SetFault) (place : ℕ) (first second : Option SetReason) (Q : Type 0) → first ≡ None → Q → Says answer place second (λ _. Unit {0}) → Says answer place (first or_else second) (λ _. Q)
says_second (Ok x) place first second Q none q (same, u) = (none_then first second none same, q)
says_second (Err errors.Memory) place first second Q none q h = tt
says_second (Err (errors.Refused at why)) place first second Q none q (there, because) = (there, ap (λ (o : Option SetReason). o or_else second) none ∙ because)

pub totals_kept : {X : Type 0} (answer : Result X SetFault) (course : SoFar) (head : Option Head) (m : Said) (new : SoFar) (seg : Seg) → record { course = course; head = head } ≡ m → as_value (totals_fault seg) ≡ None
    → new ≡ kept course seg kinds.Totals course.phase course.count course.check
    → Says answer seg.start (rows_reason new.totals new.lines new.extras) (λ _. Unit {0})
    → Says answer seg.start (own_reason m seg kinds.Totals) (λ _. record { course = new; head = head } ≡ kept_by m seg kinds.Totals m.course.phase m.course.count m.course.check)
unfolding kept kept_by
totals_kept answer course head m new seg view none same h =
    subst (λ (u : Said). Says answer seg.start (own_reason u seg kinds.Totals) (λ _. record { course = new; head = head } ≡ kept_by u seg kinds.Totals u.course.phase u.course.count u.course.check)) view
    (says_second answer seg.start (as_value (totals_fault seg)) (rows_reason (totals_in seg) course.lines course.extras) _ none (ap (λ (u : SoFar). record { course = u; head = head }) same)
    (rows_said answer seg.start new.totals (totals_in seg) new.lines course.lines new.extras course.extras (λ _. Unit {0}) (ap (λ (u : SoFar). u.totals) same) (ap (λ (u : SoFar). u.lines) same) (ap (λ (u : SoFar). u.extras) same) h))
