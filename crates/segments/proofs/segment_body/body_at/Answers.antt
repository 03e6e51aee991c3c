use Rattle.std.proofs.Common.{ℕ, ◌+◌, ◌<◌, length, List, sym, ◌∙◌, subst, ap, arith}
use Rattle.segments.specs.SegmentCut.{is_outside}
use Rattle.segments.specs.SegmentSpelling.{is_star}
use Rattle.segments.proofs.Scan.{scanned_none, scanned_all, taken_all}
use Rattle.segments.proofs.Stops.{bit}
use Rattle.segments.proofs.Walk.{Walked, walked_none, walked_all, walked_star, walked_full, near_within}
use Rattle.segments.proofs.segment_body.body_at.Goals as goal
use Rattle.segments.proofs.segment_body.body_at.Goals.{then-loop-stars-test+else-len-capacity, else-loop-stars-test}

pub loop-inside-init : goal.loop-inside-init
loop-inside-init c = record { scanned = scanned_none c.args.front.now c.args.ends.now.items c.requires.empty; few = omega arith; outside = λ under. absurd (omega arith) }

pub loop-stars-init : goal.loop-stars-init
loop-stars-init c =
    let front = c.args.front.now in
    let place = c.loop-inside.place in
    let count = c.inside_of-inside.result in
    walked_none front c.loop-inside.ends.items place count c.first_bits-stars.result c.loop-inside.invariant.scanned
    (λ k under. ap is_outside (sym (c.block_at-block.ensures k (omega (arith, c.inside_of-inside.ensures.few)))) ∙ c.inside_of-inside.ensures.inside k under)
    (λ k under. c.first_bits-stars.ensures.kept k under ∙ c.stars_in.ensures k (omega (arith, c.inside_of-inside.ensures.few))
    ∙ ap (λ b. bit (is_star b)) (c.block_at-block.ensures k (omega (arith, c.inside_of-inside.ensures.few))))
    c.first_bits-stars.ensures.past

pub loop-stars-preserved : goal.loop-stars-preserved
loop-stars-preserved c =
    let place = c.loop-inside.place in
    let stop = c.loop-inside.place + c.inside_of-inside.result in
    let near = c.first_of.result in
    let room : length c.loop-stars.ends.items < 32 = omega (arith, c.len.ensures.value, c.if-len-capacity.true, c.capacity.ensures) in
    subst (λ (ends : List ℕ). Walked c.args.front.now ends place stop c.without_first-stars.result) (taken_all c.loop-stars.ends.items (place + near) room ∙ sym c.add_end.ensures)
    (walked_star c.args.front.now c.loop-stars.ends.items place stop c.loop-stars.stars c.loop-stars.invariant near c.first_of.ensures.0 c.first_of.ensures.1
    c.without_first-stars.result (c.without_first-stars.ensures.gone near c.first_of.ensures) (λ k apart. c.without_first-stars.ensures.others near k c.first_of.ensures apart))

pub add_end-requires-clause-place : goal.add_end-requires-clause-place
add_end-requires-clause-place c =
    let place = c.loop-inside.place in
    let stop = c.loop-inside.place + c.inside_of-inside.result in
    let inside = near_within c.args.front.now c.loop-stars.ends.items place stop c.loop-stars.stars c.loop-stars.invariant c.first_of.result c.first_of.ensures.0 c.first_of.ensures.1 in
    omega (arith, inside, c.requires.short)

pub loop-inside-preserved : goal.loop-inside-preserved
loop-inside-preserved c =
    let place = c.loop-inside.place in
    let count = c.inside_of-inside.result in
    record {
      scanned = elim c.loop-stars-test.branch [
        | then-loop-stars-test+else-len-capacity w ↦
            walked_full c.args.front.now c.loop-stars.ends.items place (place + count) c.loop-stars.stars c.loop-stars.invariant (omega (arith, w.len.ensures.value, w.len.ensures.fits, w.if-len-capacity.false, w.capacity.ensures))
        | else-loop-stars-test w ↦ walked_all c.args.front.now c.loop-stars.ends.items place (place + count) c.loop-stars.stars c.loop-stars.invariant w.loop-stars-test.false
      ];
      few = c.inside_of-inside.ensures.few;
      outside = λ under. ap is_outside (sym (c.block_at-block.ensures count under)) ∙ c.inside_of-inside.ensures.outside under;
    }

pub returns : goal.returns
returns c =
    let i = c.loop-inside.invariant in
    let all = scanned_all c.args.front.now c.loop-inside.ends.items c.loop-inside.place i.scanned (λ within. i.outside (omega (arith, i.few, c.loop-inside-test.false))) in
    record { stops = sym all.0; parted = c.push_end.ensures ∙ all.1 }
