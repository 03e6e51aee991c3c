use Rattle.std.proofs.Common.{ℕ, List, Ok, Option, refl, sym, ◌∙◌, ap, subst}
use Rattle.std.specs.Prelude.{IfSome}
use Rattle.segments.specs.SegmentCut.{left_after}
use Rattle.segments.specs.SegmentSpelling.{IsFront}
use Rattle.segments.specs.Views.{Seg}
use Rattle.dxs_envelope.specs.FirstFault.{Front, Between, told_left}
use Rattle.dxs_envelope.specs.SetsLeft.{IsAt}
use Rattle.dxs_envelope.proofs.Steps.{fault_tells, moved, none_left, nothing_tells, reason_tells, refuse_tells, right_tells, segment_ok}
use Rattle.dxs_envelope.proofs.sets.read_header.Goals as goal

pub returns-in_err-segment : goal.returns-in_err-segment
returns-in_err-segment c = fault_tells _ _ _ _ Front c.args.segments.now 0 refl c.from_residual.ensures c.in_err-segment.ensures.answer c.requires.place_is

pub returns-in_default : goal.returns-in_default
returns-in_default c =
    let next = segment_ok _ _ _ c.in_ok-segment.ensures.answer ∙ ap (λ (o : Option Seg). Ok o) (none_left _ c.in_default.not-Some) in
    refuse_tells _ _ _ _ c.refuse.ensures (nothing_tells Front c.args.segments.now 0 _ next c.requires.place_is refl)

pub returns-in-Some-header_reason : goal.returns-in-Some-header_reason
returns-in-Some-header_reason c =
    let seg = c.in-Some.segment in
    let next = segment_ok _ _ _ c.in_ok-segment.ensures.answer ∙ ap (λ (o : Option Seg). Ok o) c.in-Some.is in
    refuse_tells _ _ _ _ c.refuse-in-Some-header_reason.ensures
    (reason_tells Front c.args.segments.now seg c.start.result c.in-Some-header_reason.reason next (sym c.start.ensures) (sym c.header_reason.ensures ∙ c.in-Some-header_reason.is))

pub returns-in-None : goal.returns-in-None
returns-in-None c =
    let old = c.args.segments.now in
    let new = c.segment_at.new.segments in
    let seg = c.in-Some.segment in
    let next = segment_ok _ _ _ c.in_ok-segment.ensures.answer ∙ ap (λ (o : Option Seg). Ok o) c.in-Some.is in
    let front : IsFront seg old new = subst (λ (o : Option Seg). IfSome o (λ s. IsFront s old new)) c.in-Some.is c.in_ok-segment.ensures.front in (
      subst (λ (n : ℕ). IsAt c.args.text.now n new) (sym c.end.ensures) (moved c.args.text.now 0 seg old new c.requires front),
      right_tells Front old seg next (sym c.header_reason.ensures ∙ c.in-None.is)
          ∙ ap (λ (l : List ℕ). told_left (Between l 0) (left_after old)) (sym c.element.ensures.value)
          ∙ ap (told_left (Between c.element.result.now 0)) (sym c.in_ok-segment.ensures.left),
    )
