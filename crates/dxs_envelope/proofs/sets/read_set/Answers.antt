use Rattle.std.proofs.Common.{◌≡◌, ◌+◌, ◌≤◌, ℕ, List, length, Ok, Option, Some, refl, sym, ◌∙◌, ap, subst, arith}
use Rattle.std.specs.Prelude.{IfSome}
use Rattle.segments.specs.SegmentCut.{next_of}
use Rattle.segments.specs.SegmentSpelling.{IsFront}
use Rattle.segments.specs.Views.{Seg}
use Rattle.dxs_envelope.specs.FirstFault.{Between, Inside, told_behind, told_left}
use Rattle.dxs_envelope.specs.SetsLeft.{IsAt}
use Rattle.dxs_envelope.specs.Views.{SetAt}
use Rattle.dxs_envelope.proofs.Steps.{ends, fault_tells, goes_on, moved, none_left, nothing_tells, refuse_tells, segment_ok, set_up_to}
use Rattle.dxs_envelope.proofs.sets.read_set.Goals as goal

pub returns-in_err-segment : goal.returns-in_err-segment
returns-in_err-segment c = λ control found.
    fault_tells _ _ _ _ (Inside control found (set_up_to c.args.text.now c.args.start c.loop-segment.place)) c.loop-segment.segments c.loop-segment.place
    (sym (c.loop-segment.invariant.told control found)) c.from_residual.ensures c.in_err-segment.ensures.answer c.loop-segment.invariant.at.place_is

pub between-requires-clause-inside : goal.between-requires-clause-inside
between-requires-clause-inside c =
    let old = c.loop-segment.segments in
    let new = c.segment_at.new.segments in
    let seg = c.in-Some.segment in
    let front : IsFront seg old new = subst (λ (o : Option Seg). IfSome o (λ s. IsFront s old new)) c.in-Some.is c.in_ok-segment.ensures.front in
    let at = moved c.args.text.now c.loop-segment.place seg old new c.loop-segment.invariant.at front in
    omega (arith, at.inside, c.end-place.ensures)

pub returns-then-has_id : goal.returns-then-has_id
returns-then-has_id c = λ control found.
    let old = c.loop-segment.segments in
    let new = c.segment_at.new.segments in
    let seg = c.in-Some.segment in
    let text = c.args.text.now in
    let start = c.args.start in
    let next : next_of old ≡ Ok (Some seg) = segment_ok _ _ _ c.in_ok-segment.ensures.answer ∙ ap (λ (o : Option Seg). Ok o) c.in-Some.is in
    let front : IsFront seg old new = subst (λ (o : Option Seg). IfSome o (λ s. IsFront s old new)) c.in-Some.is c.in_ok-segment.ensures.front in
    let was = c.loop-segment.invariant in
    let at = moved text c.loop-segment.place seg old new was.at front in
    let begun : start ≤ c.loop-segment.place = omega (arith, c.requires.begun, was.begun) in
    let last = sym c.has_id.ensures ∙ c.if-has_id.true in
    let end : c.new.result.start + length c.new.result.bytes ≡ c.end-place.result = ap (λ (s : SetAt). s.start + length s.bytes) c.new.ensures ∙ c.between.ensures.whole in
    let set : set_up_to text start (seg.start + length seg.bytes) ≡ c.new.result =
    ap (λ (n : ℕ). set_up_to text start n) (sym c.end-place.ensures) ∙ ap (λ (l : List ℕ). record { start = start; bytes = l }) (sym c.between.ensures.value) ∙ sym c.new.ensures in (
      subst (λ (n : ℕ). IsAt text n new) (sym (end ∙ c.end-place.ensures)) at,
      omega (arith, was.begun, end, c.end-place.ensures, front.start, was.at.place_is),
      sym (was.told control found) ∙ ends text start c.loop-segment.place seg old new next c.in_ok-segment.ensures.left was.at front begun control found last
          ∙ ap (λ (s : SetAt). told_behind s (told_left (Between control (found + 1)) new)) set,
    )

pub loop-segment-preserved : goal.loop-segment-preserved
loop-segment-preserved c =
    let old = c.loop-segment.segments in
    let new = c.segment_at.new.segments in
    let seg = c.in-Some.segment in
    let text = c.args.text.now in
    let start = c.args.start in
    let next : next_of old ≡ Ok (Some seg) = segment_ok _ _ _ c.in_ok-segment.ensures.answer ∙ ap (λ (o : Option Seg). Ok o) c.in-Some.is in
    let front : IsFront seg old new = subst (λ (o : Option Seg). IfSome o (λ s. IsFront s old new)) c.in-Some.is c.in_ok-segment.ensures.front in
    let was = c.loop-segment.invariant in
    let at = moved text c.loop-segment.place seg old new was.at front in
    let begun : start ≤ c.loop-segment.place = omega (arith, c.requires.begun, was.begun) in
    let other = sym c.has_id.ensures ∙ c.if-has_id.false in
    record {
      at = subst (λ (n : ℕ). IsAt text n new) (sym c.end-place.ensures) at;
      begun = omega (arith, was.begun, c.end-place.ensures, front.start, was.at.place_is);
      told = λ control found. ap (λ (n : ℕ). told_left (Inside control found (set_up_to text start n)) new) c.end-place.ensures
          ∙ sym (goes_on text start c.loop-segment.place seg old new next c.in_ok-segment.ensures.left was.at front begun control found other)
          ∙ was.told control found;
    }

pub returns : goal.returns
returns c = λ control found.
    let next = segment_ok _ _ _ c.in_ok-segment.ensures.answer ∙ ap (λ (o : Option Seg). Ok o) (none_left _ c.in_default.not-Some) in
    let standing = Inside control found (set_up_to c.args.text.now c.args.start c.loop-segment.place) in
    refuse_tells _ _ _ _ c.refuse.ensures
    (sym (c.loop-segment.invariant.told control found) ∙ nothing_tells standing c.loop-segment.segments c.loop-segment.place _ next c.loop-segment.invariant.at.place_is refl)
