use Rattle.std.proofs.Common.{ℕ, List, take, sym, ◌∙◌, ap, subst, arith, ◌+◌}
use Rattle.segments.specs.SegmentCut.{parts_of, seg_at, with_parts}
use Rattle.segments.specs.PartEnds.{KeepsSegment, ends_from}
use Rattle.segments.specs.declared.segment.TheConstants.{SEGMENT_BYTES}
use Rattle.segments.proofs.FirstSizes.{first_by_size, judged_at, refused_by_size}
use Rattle.segments.proofs.Sized.{sized, parts_of-take}
use Rattle.segments.proofs.segment_reader.judged_size.Goals as goal

pub returns-in_err-size-clause-refused : goal.returns-in_err-size-clause-refused
returns-in_err-size-clause-refused c = refused_by_size c.args.start c.args.rest.now _ c.from_residual.result c.from_residual.ensures (sym c.in_err-size.ensures)

pub first-requires : goal.first-requires
first-requires c = (sized c.args.start c.in_ok-size.size c.args.rest.now (sym c.in_ok-size.ensures)).inside

pub judge-requires-clause-spelled : goal.judge-requires-clause-spelled
judge-requires-clause-spelled c = rw c.first.ensures (sized c.args.start c.in_ok-size.size c.args.rest.now (sym c.in_ok-size.ensures)).spelled

pub judge-requires-clause-parted : goal.judge-requires-clause-parted
judge-requires-clause-parted c =
    let s = sized c.args.start c.in_ok-size.size c.args.rest.now (sym c.in_ok-size.ensures) in
    let front = parts_of-take (SEGMENT_BYTES + 1) c.args.rest.now (omega arith) in
    let whole = ap parts_of c.first.ensures ∙ parts_of-take c.in_ok-size.size c.args.rest.now (omega arith) in
    c.requires.body.parted ∙ ap (λ (parts : List (List ℕ)). take 32 (ends_from 0 parts)) (front ∙ sym whole)

pub returns-in-Ok-clause-right : goal.returns-in-Ok-clause-right
returns-in-Ok-clause-right c =
    let kept = subst (λ (bytes : List ℕ). KeepsSegment c.args.start bytes c.args.ends.now) c.first.ensures c.in-Ok.ensures.right in
    judged_at c.args.start c.in_ok-size.size c.args.rest.now c.args.ends.now (sym c.in_ok-size.ensures) kept

pub returns-in-Err-clause-refused : goal.returns-in-Err-clause-refused
returns-in-Err-clause-refused c =
    first_by_size c.args.start c.in_ok-size.size c.args.rest.now (sym c.in_ok-size.ensures)
    ∙ ap (λ (bytes : List ℕ). with_parts (seg_at c.args.start bytes)) (sym c.first.ensures) ∙ c.in-Err.ensures.refused
