use Rattle.std.proofs.Common.{length, sym, ◌∙◌, ap, arith}
use Rattle.std.proofs.lemmas.List.{length-drop}
use Rattle.segments.specs.SegmentCut.{after_body}
use Rattle.segments.proofs.Front.{size_of-long, size_of-short, body_inside, size_of-line_end}
use Rattle.segments.proofs.segment_reader.first_size.Goals as goal

pub returns-then-is_line_end : goal.returns-then-is_line_end
returns-then-is_line_end c =
    sym (size_of-line_end c.args.start c.args.body c.args.rest.now _ c.requires.front (omega arith) (sym c.behind-after.ensures ∙ c.is_line_end.ensures c.if-is_line_end.true))

pub returns-then-body-gt-SEGMENT_BYTES : goal.returns-then-body-gt-SEGMENT_BYTES
returns-then-body-gt-SEGMENT_BYTES c = sym (size_of-long c.args.start c.args.body c.args.rest.now c.requires.front (omega arith))

pub behind-after-requires : goal.behind-after-requires
behind-after-requires c = body_inside c.args.body c.args.rest.now c.requires.front

pub size_behind-requires : goal.size_behind-requires
size_behind-requires c =
    let inside = body_inside c.args.body c.args.rest.now c.requires.front in
    let left = ap length c.behind-after.ensures ∙ length-drop c.args.body c.args.rest.now in
    record { placed = omega arith }

pub returns : goal.returns
returns c =
    c.size_behind.ensures ∙ ap (after_body c.args.start c.args.body) c.behind-after.ensures
    ∙ sym (size_of-short c.args.start c.args.body c.args.rest.now c.requires.front (omega arith))
