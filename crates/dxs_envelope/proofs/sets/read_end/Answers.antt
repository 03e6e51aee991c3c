use Rattle.std.proofs.Common.{Ok, Option, refl, ◌∙◌, ap, subst}
use Rattle.std.specs.Prelude.{IfSome}
use Rattle.segments.specs.SegmentSpelling.{IsFront}
use Rattle.segments.specs.Views.{Seg}
use Rattle.dxs_envelope.specs.FirstFault.{Behind}
use Rattle.dxs_envelope.proofs.Telling.{told_nothing}
use Rattle.dxs_envelope.proofs.Steps.{fault_tells, reason_tells, refuse_tells, segment_ok}
use Rattle.dxs_envelope.proofs.sets.read_end.Goals as goal

pub returns-in_err-segment_at : goal.returns-in_err-segment_at
returns-in_err-segment_at c = fault_tells _ _ _ _ Behind c.args.segments.now c.args.place refl c.from_residual.ensures c.in_err-segment_at.ensures.answer c.requires

pub returns-in-None : goal.returns-in-None
returns-in-None c =
    let next = segment_ok _ _ _ c.in_ok-segment_at.ensures.answer ∙ ap (λ (o : Option Seg). Ok o) c.in-None.is in
    (refl, told_nothing Behind c.args.segments.now next)

pub returns-in-Some : goal.returns-in-Some
returns-in-Some c =
    let seg = c.in-Some.field-0 in
    let next = segment_ok _ _ _ c.in_ok-segment_at.ensures.answer ∙ ap (λ (o : Option Seg). Ok o) c.in-Some.is in
    let front : IsFront seg c.args.segments.now c.segment_at.new.segments =
    subst (λ (o : Option Seg). IfSome o (λ s. IsFront s c.args.segments.now c.segment_at.new.segments)) c.in-Some.is c.in_ok-segment_at.ensures.front in
    refuse_tells _ _ _ _ c.refuse.ensures (reason_tells Behind c.args.segments.now seg c.args.place _ next (front.start ∙ c.requires) refl)
