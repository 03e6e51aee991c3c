-- What a segment says, and the reasons against it but for its length, do not depend on where it starts.
use Rattle.std.proofs.Common.{◌≡◌, ℕ, Option, Some, None, Result, Err, refl, sym, ◌∙◌, subst}
use Rattle.segments.specs.Views.{Seg}
use Rattle.segments.specs.Elements.{◌or_else◌}
use Rattle.transaction_set.specs.Kinds.{kind_of}
use Rattle.transaction_set.specs.Reasons.{Says, course_reason}
use Rattle.transaction_set.specs.SoFar.{SoFar, kept}
use Rattle.transaction_set.specs.Taking.{in_set}
use Rattle.transaction_set.specs.declared.kind.Form.{Form}
use Rattle.transaction_set.specs.declared.kind.Kind.{Kind}
use Rattle.transaction_set.specs.declared.kind.Kind.TheVariants as kinds
use Rattle.transaction_set.specs.declared.phase.Phase.{Phase}
use Rattle.transaction_set.specs.declared.set_fault.SetFault.{SetFault}
use Rattle.transaction_set.specs.declared.set_fault.SetFault.TheVariants as errors
use Rattle.transaction_set.specs.declared.set_fault.SetReason.{SetReason}

pub same_kind : (form : Form) (place : ℕ) (seg : Seg) → kind_of form (in_set place seg) ≡ kind_of form seg
unfolding kind_of
same_kind form place seg = refl

pub same_course : (m : SoFar) (place : ℕ) (seg : Seg) (kind : Kind) → course_reason m (in_set place seg) kind ≡ course_reason m seg kind
same_course m place seg kinds.Start = refl
same_course m place seg kinds.Head = refl
same_course m place seg kinds.Reference = refl
same_course m place seg kinds.LoopStart = refl
same_course m place seg kinds.Item = refl
same_course m place seg kinds.Allowance = refl
same_course m place seg kinds.LineNote = refl
same_course m place seg kinds.Note = refl
same_course m place seg kinds.LoopEnd = refl
same_course m place seg kinds.Totals = refl
same_course m place seg kinds.Signature = refl
same_course m place seg kinds.Integrity = refl
same_course m place seg kinds.Trailer = refl
same_course m place seg kinds.Other = refl

pub same_kept : (m : SoFar) (place : ℕ) (seg : Seg) (kind : Kind) (phase : Phase) (count check : ℕ) → kept m (in_set place seg) kind phase count check ≡ kept m seg kind phase count check
unfolding kept
same_kept m place seg kinds.Start phase count check = refl
same_kept m place seg kinds.Head phase count check = refl
same_kept m place seg kinds.Reference phase count check = refl
same_kept m place seg kinds.LoopStart phase count check = refl
same_kept m place seg kinds.Item phase count check = refl
same_kept m place seg kinds.Allowance phase count check = refl
same_kept m place seg kinds.LineNote phase count check = refl
same_kept m place seg kinds.Note phase count check = refl
same_kept m place seg kinds.LoopEnd phase count check = refl
same_kept m place seg kinds.Totals phase count check = refl
same_kept m place seg kinds.Signature phase count check = refl
same_kept m place seg kinds.Integrity phase count check = refl
same_kept m place seg kinds.Trailer phase count check = refl
same_kept m place seg kinds.Other phase count check = refl

-- ---- answers with two reasons, one behind the other

first_reason_of : (first second : Option SetReason) (why : SetReason) → first ≡ Some why → (first or_else second) ≡ Some why
first_reason_of (Some r) second why e = e
first_reason_of None second why e = cc

second_reason_of : (first second : Option SetReason) (other : Option SetReason) → first ≡ None → second ≡ other → (first or_else second) ≡ other
second_reason_of None second other e s = s
second_reason_of (Some r) second other e s = cc

-- the first reason is told
pub first_says : (X Y : Type 0) (r : Result X SetFault) (e : SetFault) (place : ℕ) (first second : Option SetReason) (P : Y → Type 0) (Q : X → Type 0) → r ≡ Err e
    → Says (let u : Result Y SetFault = Err e in u) place first P → Says r place (first or_else second) Q
first_says X Y r errors.Memory place first second P Q same h = subst (λ (u : Result X SetFault). Says u place (first or_else second) Q) (sym same) tt
first_says X Y r (errors.Refused at why) place first second P Q same (there, because) =
    subst (λ (u : Result X SetFault). Says u place (first or_else second) Q) (sym same) (there, first_reason_of first second why because)

-- the second one is asked where there is no first
pub second_says : (X Y : Type 0) (e : SetFault) (place : ℕ) (first second other : Option SetReason) (P : Y → Type 0) (Q : X → Type 0) → first ≡ None → second ≡ other
    → Says (let u : Result Y SetFault = Err e in u) place other P → Says (let u : Result X SetFault = Err e in u) place (first or_else second) Q
second_says X Y errors.Memory place first second other P Q none same h = tt
second_says X Y (errors.Refused at why) place first second other P Q none same (there, because) = (there, second_reason_of first second other none same ∙ because)

pub both_none_of : (first second other : Option SetReason) → first ≡ None → second ≡ other → other ≡ None → (first or_else second) ≡ None
both_none_of first second other none same e = second_reason_of first second other none same ∙ e
