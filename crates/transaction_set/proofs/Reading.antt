-- Segment after segment, what is left is refused as the whole text is.
use Rattle.std.proofs.Common.{◌≡◌, ℕ, ◌+◌, length, Result, Ok, Err, Some, None, Option, refl, sym, ap, ◌∙◌, subst, true, false}
use Rattle.std.specs.Result.{IsErr, IsErrAnd}
use Rattle.segments.specs.Views.{Seg, Left}
use Rattle.segments.specs.SegmentCut.{Cut, cut_left, next_of, left_after}
use Rattle.transaction_set.specs.Reasons.{Says}
use Rattle.transaction_set.specs.Refusal.{Refusal, Judged, refused_at, ended_at, refusal_from, said_by, Answers}
use Rattle.segments.specs.declared.segment_fault.SegmentFault.{SegmentFault}
use Rattle.transaction_set.specs.declared.set_fault.SetFault.{SetFault}
use Rattle.transaction_set.specs.declared.set_fault.SetFault.TheVariants as errors
use Rattle.transaction_set.specs.declared.set_fault.SetReason.{SetReason}
use Rattle.transaction_set.specs.declared.set_fault.SetReason.TheVariants as reasons
use Rattle.segments.proofs.Stepping.{step_end, step_fault, step_segment}

abbrev pub refusal_in : {M : Type 0} → Judged M → M → ℕ → Cut → Option Refusal
refusal_in j m place cut = refusal_from j m place cut.segments cut.fault

abbrev pub said_in : {M : Type 0} → Judged M → M → Cut → M
said_in j m cut = said_by j m cut.segments

reason_none : (r : Option SetReason) (place : ℕ) (later : Option Refusal) → r ≡ None → refused_at r place later ≡ later
reason_none (Some r) place later e = cc
reason_none None place later e = refl

reason_some : (r : Option SetReason) (why : SetReason) (place : ℕ) (later : Option Refusal) → r ≡ Some why → refused_at r place later ≡ Some (record { place = place; reason = why })
reason_some (Some r) why place later e = let same : r ≡ why = cc (e) in ap (λ (u : SetReason). Some (record { place = place; reason = u })) same
reason_some None why place later e = cc

module _ {M : Type 0} (j : Judged M) where
  pub step_on : (m : M) (place : ℕ) (left : Left) (seg : Seg) → next_of left ≡ Ok (Some seg) → j.reason m seg ≡ None
      → refusal_in j (j.after m seg) (seg.start + length seg.bytes) (cut_left (left_after left)) ≡ refusal_in j m place (cut_left left)
  step_on m place left seg n e =
      sym (ap (refusal_in j m place) (step_segment left seg n) ∙ reason_none (j.reason m seg) seg.start _ e)

  pub said_on : (m : M) (left : Left) (seg : Seg) → next_of left ≡ Ok (Some seg) → said_in j (j.after m seg) (cut_left (left_after left)) ≡ said_in j m (cut_left left)
  said_on m left seg n = sym (ap (said_in j m) (step_segment left seg n))

  pub step_refused : (m : M) (place : ℕ) (left : Left) (seg : Seg) (why : SetReason) → next_of left ≡ Ok (Some seg) → j.reason m seg ≡ Some why
      → refusal_in j m place (cut_left left) ≡ Some (record { place = seg.start; reason = why })
  step_refused m place left seg why n e = ap (refusal_in j m place) (step_segment left seg n) ∙ reason_some (j.reason m seg) why seg.start _ e

  pub fault_refused : (m : M) (place : ℕ) (left : Left) (fault : SegmentFault) → next_of left ≡ Err fault → refusal_in j m place (cut_left left) ≡ Some (record { place = place; reason = reasons.Segment fault })
  fault_refused m place left fault n = ap (refusal_in j m place) (step_fault left fault n)

  pub end_refused : (m : M) (place : ℕ) (left : Left) → next_of left ≡ Ok None → refusal_in j m place (cut_left left) ≡ ended_at (j.whole m) place None
  end_refused m place left n = ap (refusal_in j m place) (step_end left n)

  pub end_said : (m : M) (left : Left) → next_of left ≡ Ok None → said_in j m (cut_left left) ≡ m
  end_said m left n = ap (said_in j m) (step_end left n)

-- ---- the answers of the calls

pub same_err : {X : Type 0} (r : Result X SetFault) (e : SetFault) → IsErr r × IsErrAnd r (λ (f : SetFault). f ≡ e) → r ≡ Err e
same_err (Ok x) e h = let f : false ≡ true = h.0 in cc (f)
same_err (Err f) e h = ap (λ (u : SetFault). Err u) h.1

refuses : {X : Type 0} (r : Result X SetFault) (place : ℕ) (why : SetReason) (wanted : Option Refusal) (P : X → Type 0) → r ≡ Err (errors.Refused place why) → wanted ≡ Some (record { place = place; reason = why }) → Answers r wanted P
refuses r place why wanted P e w = subst (λ (u : _). Answers u wanted P) (sym e) w

module _ {M X : Type 0} (j : Judged M) where
  pub fault_answers : (m : M) (place : ℕ) (left : Left) (fault : SegmentFault) (r : Result X SetFault) (wanted : Option Refusal) (P : X → Type 0) → r ≡ Err (errors.Refused place (reasons.Segment fault))
      → next_of left ≡ Err fault → refusal_in j m place (cut_left left) ≡ wanted → Answers r wanted P
  fault_answers m place left fault r wanted P same n w = refuses r place (reasons.Segment fault) wanted P same (sym w ∙ fault_refused j m place left fault n)

  pub step_answers : (m : M) (place : ℕ) (left : Left) (seg : Seg) (e : SetFault) (r : Result X SetFault) (wanted : Option Refusal) (P : X → Type 0) {Y : Type 0} (Q : Y → Type 0) → r ≡ Err e
      → next_of left ≡ Ok (Some seg) → Says (Err e) seg.start (j.reason m seg) Q → refusal_in j m place (cut_left left) ≡ wanted → Answers r wanted P
  step_answers m place left seg errors.Memory r wanted P Q same n says w = subst (λ (u : Result X SetFault). Answers u wanted P) (sym same) tt
  step_answers m place left seg (errors.Refused at why) r wanted P Q same n (there, because) w =
      refuses r at why wanted P same (sym w ∙ step_refused j m place left seg why n because ∙ ap (λ (p : ℕ). Some (record { place = p; reason = why })) (sym there))

  pub end_answers : (m : M) (place : ℕ) (left : Left) (r : Result X SetFault) (wanted : Option Refusal) (whole : M) (Read : M → X → Type 0) → next_of left ≡ Ok None
      → refusal_in j m place (cut_left left) ≡ wanted → said_in j m (cut_left left) ≡ whole → Answers r (ended_at (j.whole m) place None) (Read m) → Answers r wanted (Read whole)
  end_answers m place left r wanted whole Read n w s a =
      let same : ended_at (j.whole m) place None ≡ wanted = sym (end_refused j m place left n) ∙ w in
      let said : m ≡ whole = sym (end_said j m left n) ∙ s in
      subst (λ (u : Option Refusal). Answers r u (Read whole)) same (subst (λ (u : M). Answers r (ended_at (j.whole m) place None) (Read u)) said a)
