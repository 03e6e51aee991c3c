-- What is told of what is left, a segment at a time.
use Rattle.std.proofs.Common.{◌≡◌, ℕ, ◌+◌, List, ◌∷◌, length, Ok, Err, Option, Some, None, refl, sym, ◌∙◌, ap}
use Rattle.segments.specs.SegmentCut.{Cut, cut_left, left_after, next_of}
use Rattle.segments.specs.Views.{Left, Seg}
use Rattle.segments.specs.declared.segment_fault.SegmentFault.{SegmentFault}
use Rattle.segments.proofs.Spelled.{next_front}
use Rattle.segments.proofs.Stepping.{step_end, step_fault, step_segment}
use Rattle.dxs_envelope.specs.FirstFault.{Standing, after, end_reason, ended_by, reason_at, refused_at, told_at, told_first, told_from, told_left, whole}
use Rattle.dxs_envelope.specs.Views.{Told}
use Rattle.dxs_envelope.specs.declared.fault.EnvelopeReason.TheVariants as reasons

-- what is told of a cut
abbrev told_cut : Standing → ℕ → Cut → Told
told_cut s place cut = told_from s place cut.segments cut.fault

-- a segment, and then what is told of the rest
pub told_cons : (s : Standing) (place : ℕ) (seg : Seg) (segs : List Seg) (fault : Option SegmentFault)
    → told_from s place (seg ∷ segs) fault ≡ told_at (reason_at s seg) seg.start (told_first (ended_by s seg) (told_from (after s seg) (seg.start + length seg.bytes) segs fault))
unfolding told_from
told_cons s place seg segs fault = refl

pub told_segment : (s : Standing) (left : Left) (seg : Seg) → next_of left ≡ Ok (Some seg)
    → told_left s left ≡ told_at (reason_at s seg) seg.start (told_first (ended_by s seg) (told_left (after s seg) (left_after left)))
told_segment s left seg next =
    let front = next_front left seg next in
    let place : seg.start + length seg.bytes ≡ (left_after left).place = ap (λ (n : ℕ). n + length seg.bytes) front.start ∙ sym front.place in
    ap (told_cut s left.place) (step_segment left seg next)
    ∙ told_cons s left.place seg (cut_left (left_after left)).segments (cut_left (left_after left)).fault
    ∙ ap (λ (n : ℕ). told_at (reason_at s seg) seg.start (told_first (ended_by s seg) (told_cut (after s seg) n (cut_left (left_after left))))) place

pub told_fault : (s : Standing) (left : Left) (fault : SegmentFault) → next_of left ≡ Err fault
    → told_left s left ≡ refused_at left.place (reasons.Segment fault)
unfolding told_from
told_fault s left fault next = ap (told_cut s left.place) (step_fault left fault next)

pub told_nothing : (s : Standing) (left : Left) → next_of left ≡ Ok None → told_left s left ≡ told_at (end_reason s) left.place whole
unfolding told_from
told_nothing s left next = ap (told_cut s left.place) (step_end left next)
