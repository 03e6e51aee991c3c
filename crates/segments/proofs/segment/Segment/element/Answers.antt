use Rattle.std.proofs.Common.{◌≤◌, ◌∙◌, ap, arith, length}
use Rattle.segments.specs.Views.{Seg, element_of}
use Rattle.segments.specs.declared.segment.TheConstants.{SEGMENT_BYTES}
use Rattle.segments.proofs.Parted.{part_past}
use Rattle.segments.proofs.segment.Segment.element.Goals as goal

pub returns-then-number-len-clause-value : goal.returns-then-number-len-clause-value
returns-then-number-len-clause-value c =
    let past = part_past c.self.inside.bytes.now c.self.inside.ends.items c.args.number c.self.invariant.parted (omega arith) in
    past ∙ ap (λ (s : Seg). element_of s c.args.number) c.self.view_is

pub returns-clause-short : goal.returns-clause-short
returns-clause-short c =
    let short : length c.self.inside.bytes.now ≤ SEGMENT_BYTES = c.self.invariant.spelled.short in
    let less = c.part_at.ensures.short in
    omega arith
