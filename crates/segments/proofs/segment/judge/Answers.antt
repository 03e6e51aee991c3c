use Rattle.std.proofs.Common.{◌≡◌, ◌≤◌, true, [], length, get_or, sym, ◌∙◌, ap, arith, ◌+◌}
use Rattle.segments.specs.SegmentSpelling.{is_id}
use Rattle.segments.specs.SegmentCut.{parts_of}
use Rattle.segments.specs.declared.segment.TheConstants.{SEGMENT_ELEMENTS}
use Rattle.segments.proofs.Judging.{some_found, front_found, all_found, few_found, many_found, too_many_at, kept_at}
use Rattle.segments.proofs.segment.judge.Goals as goal

pub part_at-requires-clause-inside : goal.part_at-requires-clause-inside
part_at-requires-clause-inside c = some_found c.args.bytes.now c.args.ends.now c.requires.parted

pub part_at-requires-clause-parted : goal.part_at-requires-clause-parted
part_at-requires-clause-parted c = front_found c.args.bytes.now c.args.ends.now c.requires.parted

pub returns-then-ends-clause-refused : goal.returns-then-ends-clause-refused
returns-then-ends-clause-refused c =
    let id : is_id (get_or (parts_of c.args.bytes.now) 0 []) ≡ true = ap is_id (sym c.part_at.ensures.value) ∙ sym c.is_id.ensures ∙ c.if-not-is_id.false in
    let many = many_found c.args.bytes.now c.args.ends.now c.requires.parted (omega arith) in
    sym (too_many_at c.args.start c.args.bytes.now id many)

pub returns-clause-right : goal.returns-clause-right
returns-clause-right c =
    let id : is_id (get_or (parts_of c.args.bytes.now) 0 []) ≡ true = ap is_id (sym c.part_at.ensures.value) ∙ sym c.is_id.ensures ∙ c.if-not-is_id.false in
    let few : length c.args.ends.now ≤ SEGMENT_ELEMENTS + 1 = omega arith in
    kept_at c.args.start c.args.bytes.now c.args.ends.now c.requires.spelled id (few_found c.args.bytes.now c.args.ends.now c.requires.parted few) (all_found c.args.bytes.now c.args.ends.now c.requires.parted few) c.requires.placed
