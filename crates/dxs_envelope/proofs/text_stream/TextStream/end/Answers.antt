use Rattle.std.proofs.Common.{◌≡◌, ℕ, [], Ok, Err, Option, Some, None, sym, ◌∙◌, ap, subst}
use Rattle.std.specs.Prelude.{MatchOption}
use Rattle.segments.specs.SegmentCut.{next_of}
use Rattle.segments.specs.declared.segment_fault.SegmentFault.{SegmentFault}
use Rattle.segments.specs.declared.segment_fault.SegmentFault.TheVariants.{NoEnd}
use Rattle.dxs_envelope.specs.FirstFault.{end_reason}
use Rattle.dxs_envelope.specs.TextParts.{Parts, fault_at, fault_or, no_parts, placed_reason}
use Rattle.dxs_envelope.specs.TextPieces.{TextAt, text_at, text_left}
use Rattle.dxs_envelope.specs.declared.fault.EnvelopeFault.{EnvelopeFault}
use Rattle.dxs_envelope.specs.declared.fault.EnvelopeReason.TheVariants as reasons
use Rattle.dxs_envelope.proofs.TextWhole.{begun_place, fault_told, left_begun, left_over, over_place}
use Rattle.dxs_envelope.proofs.text_stream.TextStream.end.Goals as goal

pub returns-in-Ok-clause-answer : goal.returns-in-Ok-clause-answer
returns-in-Ok-clause-answer c =
    let own = c.self.inside in
    let text : TextAt = text_at own.course own.segments own.kind in
    let sound : own.course.fault ≡ None = sym c.fault.ensures ∙ c.in_default.is in
    let over = c.in-Ok.ensures.over (c.self.invariant.sound sound) in
    let left : text_left c.args.self.now [] ≡ no_parts (placed_reason (end_reason own.course.standing) own.segments.begun.place) =
    ap (λ (t : TextAt). text_left t []) (sym c.self.view_is) ∙ left_over text sound over in
    subst (λ (f : Option EnvelopeFault). MatchOption f (c.end-in-Ok.result ≡ Ok tt) (λ fault. c.end-in-Ok.result ≡ Err fault))
    (ap (λ (f : Option EnvelopeFault). fault_or f (placed_reason (end_reason own.course.standing) c.place.result)) sound
    ∙ ap (placed_reason (end_reason own.course.standing)) (c.place.ensures ∙ over_place own.segments.begun over)
    ∙ sym (ap (λ (p : Parts). p.fault) left))
    c.end-in-Ok.ensures

pub returns-in-Ok-clause-over : goal.returns-in-Ok-clause-over
returns-in-Ok-clause-over c =
    let own = c.self.inside in
    let text : TextAt = text_at own.course own.segments own.kind in
    let sound : own.course.fault ≡ None = sym c.fault.ensures ∙ c.in_default.is in
    let over = c.in-Ok.ensures.over (c.self.invariant.sound sound) in
    ap (λ (t : TextAt). (text_left t []).parts) (sym c.self.view_is) ∙ ap (λ (p : Parts). p.parts) (left_over text sound over)

pub returns-in-Err-NoEnd-clause-answer : goal.returns-in-Err-NoEnd-clause-answer
returns-in-Err-NoEnd-clause-answer c =
    let own = c.self.inside in
    let text : TextAt = text_at own.course own.segments own.kind in
    let start : ℕ = c.in-Err-NoEnd.start in
    let sound : own.course.fault ≡ None = sym c.fault.ensures ∙ c.in_default.is in
    let begun : next_of own.segments.begun ≡ Err (NoEnd start) =
    c.in-Err-NoEnd.ensures.over (c.self.invariant.sound sound) ∙ ap (λ (f : SegmentFault). Err f) c.in-Err-NoEnd.field-0-is in
    let place : start ≡ own.segments.begun.place = begun_place own.segments.begun start c.in-Err-NoEnd.ensures.waits begun in
    let left : (text_left c.args.self.now []).fault ≡ Some (fault_at own.segments.begun.place (reasons.Segment (NoEnd start))) =
    ap (λ (t : TextAt). (text_left t []).fault) (sym c.self.view_is) ∙ ap (λ (p : Parts). p.fault) (left_begun text (NoEnd start) sound begun) in
    let told : c.unreadable.result ≡ fault_at own.segments.begun.place (reasons.Segment (NoEnd start)) =
    c.unreadable.ensures ∙ ap (λ (n : ℕ). fault_at n (reasons.Segment (NoEnd n))) c.in-Err-NoEnd.start-is
    ∙ ap (λ (n : ℕ). fault_at n (reasons.Segment (NoEnd start))) place in
    fault_told (Err c.unreadable.result) _ _ left (ap (λ (f : EnvelopeFault). Err f) told)

pub returns-in-Err-NoEnd-clause-over : goal.returns-in-Err-NoEnd-clause-over
returns-in-Err-NoEnd-clause-over c =
    let own = c.self.inside in
    let text : TextAt = text_at own.course own.segments own.kind in
    let sound : own.course.fault ≡ None = sym c.fault.ensures ∙ c.in_default.is in
    ap (λ (t : TextAt). (text_left t []).parts) (sym c.self.view_is)
    ∙ ap (λ (p : Parts). p.parts) (left_begun text c.in-Err-NoEnd.field-0 sound (c.in-Err-NoEnd.ensures.over (c.self.invariant.sound sound)))
