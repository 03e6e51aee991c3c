use Rattle.std.proofs.Common.{ℕ, Ok, Option, refl, sym, ◌∙◌, ap, subst, arith}
use Rattle.std.specs.Prelude.{IfSome}
use Rattle.segments.specs.SegmentSpelling.{IsFront}
use Rattle.segments.specs.Views.{Seg}
use Rattle.segments.proofs.Spelled.{bytes_some}
use Rattle.dxs_envelope.specs.FirstFault.{Between, Inside, told_left}
use Rattle.dxs_envelope.specs.SetsLeft.{IsAt}
use Rattle.dxs_envelope.proofs.Steps.{end_tells, fault_tells, moved, none_left, nothing_tells, refuse_tells, same_err, segment_ok, set_up_to, start_tells, trailer_tells, wrong_tells}
use Rattle.dxs_envelope.proofs.sets.next_set.Goals as goal

pub returns-in_err-segment : goal.returns-in_err-segment
returns-in_err-segment c =
    fault_tells _ _ _ _ (Between c.args.control.now c.args.found) c.args.segments.now c.args.place refl c.from_residual.ensures c.in_err-segment.ensures.answer c.requires.place_is

pub returns-in_default : goal.returns-in_default
returns-in_default c =
    let next = segment_ok _ _ _ c.in_ok-segment.ensures.answer ∙ ap (λ (o : Option Seg). Ok o) (none_left _ c.in_default.not-Some) in
    refuse_tells _ _ _ _ c.refuse.ensures (nothing_tells (Between c.args.control.now c.args.found) c.args.segments.now c.args.place _ next c.requires.place_is refl)

pub read_set-requires-clause-at : goal.read_set-requires-clause-at
read_set-requires-clause-at c =
    let old = c.args.segments.now in
    let new = c.segment_at.new.segments in
    let front : IsFront c.in-Some.segment old new = subst (λ (o : Option Seg). IfSome o (λ s. IsFront s old new)) c.in-Some.is c.in_ok-segment.ensures.front in
    subst (λ (n : ℕ). IsAt c.args.text.now n new) (sym c.end.ensures) (moved c.args.text.now c.args.place c.in-Some.segment old new c.requires front)

pub returns-in_err-read_set : goal.returns-in_err-read_set
returns-in_err-read_set c =
    let old = c.args.segments.now in
    let new = c.segment_at.new.segments in
    let seg = c.in-Some.segment in
    let text = c.args.text.now in
    let control = c.args.control.now in
    let found = c.args.found in
    let next = segment_ok _ _ _ c.in_ok-segment.ensures.answer ∙ ap (λ (o : Option Seg). Ok o) c.in-Some.is in
    let front : IsFront seg old new = subst (λ (o : Option Seg). IfSome o (λ s. IsFront s old new)) c.in-Some.is c.in_ok-segment.ensures.front in
    let begins = sym c.has_id.ensures ∙ c.if-has_id.true in
    refuse_tells _ _ _ _ (same_err _ _ c.from_residual-in_err-read_set.ensures)
    (start_tells text c.args.place seg old new next c.in_ok-segment.ensures.left c.requires front control found begins
    ∙ ap (λ (n : ℕ). told_left (Inside control found (set_up_to text c.args.place n)) new) (sym c.end.ensures)
    ∙ c.in_err-read_set.ensures control found)

pub returns-then-has_id : goal.returns-then-has_id
returns-then-has_id c =
    let old = c.args.segments.now in
    let new = c.segment_at.new.segments in
    let seg = c.in-Some.segment in
    let text = c.args.text.now in
    let control = c.args.control.now in
    let found = c.args.found in
    let next = segment_ok _ _ _ c.in_ok-segment.ensures.answer ∙ ap (λ (o : Option Seg). Ok o) c.in-Some.is in
    let front : IsFront seg old new = subst (λ (o : Option Seg). IfSome o (λ s. IsFront s old new)) c.in-Some.is c.in_ok-segment.ensures.front in
    let begins = sym c.has_id.ensures ∙ c.if-has_id.true in
    let read = c.in_ok-read_set.ensures control found in (
      read.0,
      omega (arith, read.1, c.end.ensures, front.start, c.requires.place_is, bytes_some seg front.spelled),
      start_tells text c.args.place seg old new next c.in_ok-segment.ensures.left c.requires front control found begins
          ∙ ap (λ (n : ℕ). told_left (Inside control found (set_up_to text c.args.place n)) new) (sym c.end.ensures)
          ∙ read.2,
    )

pub returns-in-Some-trailer_reason : goal.returns-in-Some-trailer_reason
returns-in-Some-trailer_reason c =
    let old = c.args.segments.now in
    let new = c.segment_at.new.segments in
    let seg = c.in-Some.segment in
    let next = segment_ok _ _ _ c.in_ok-segment.ensures.answer ∙ ap (λ (o : Option Seg). Ok o) c.in-Some.is in
    let front : IsFront seg old new = subst (λ (o : Option Seg). IfSome o (λ s. IsFront s old new)) c.in-Some.is c.in_ok-segment.ensures.front in
    let other = sym c.has_id.ensures ∙ c.if-has_id.false in
    refuse_tells _ _ _ _ c.refuse-in-Some-trailer_reason.ensures
    (wrong_tells c.args.control.now c.args.found c.args.place seg old _ next (front.start ∙ c.requires.place_is) other (sym c.trailer_reason.ensures ∙ c.in-Some-trailer_reason.is))

pub returns : goal.returns
returns c =
    let old = c.args.segments.now in
    let seg = c.in-Some.segment in
    let next = segment_ok _ _ _ c.in_ok-segment.ensures.answer ∙ ap (λ (o : Option Seg). Ok o) c.in-Some.is in
    let other = sym c.has_id.ensures ∙ c.if-has_id.false in
    let right = sym c.trailer_reason.ensures ∙ none_left _ c.in_default-trailer_reason.not-Some in
    end_tells _ _ _ _ (trailer_tells c.args.control.now c.args.found seg old c.segment_at.new.segments next c.in_ok-segment.ensures.left other right) c.read_end.ensures
