use Rattle.std.proofs.Common.{◌≤◌, ◌∙◌, ap, arith, length, ◌+◌}
use Rattle.segments.specs.SegmentCut.{parts_of}
use Rattle.segments.specs.Views.{Seg}
use Rattle.segments.specs.declared.segment.TheConstants.{SEGMENT_ELEMENTS}
use Rattle.segments.proofs.Parted.{length-ends_from}
use Rattle.segments.proofs.Scan.{some_of-parts}
use Rattle.segments.proofs.segment.Segment.count.Goals as goal

pub returns-clause-value : goal.returns-clause-value
returns-clause-value c =
    let many = ap length c.self.invariant.parted ∙ length-ends_from 0 (parts_of c.self.inside.bytes.now) in
    let seen = ap (λ (s : Seg). length s.parts) c.self.view_is in
    let some = some_of-parts c.self.inside.bytes.now in
    omega arith

pub returns-clause-few : goal.returns-clause-few
returns-clause-few c =
    let many = ap length c.self.invariant.parted ∙ length-ends_from 0 (parts_of c.self.inside.bytes.now) in
    let few : length (parts_of c.self.inside.bytes.now) ≤ SEGMENT_ELEMENTS + 1 = c.self.invariant.spelled.segment.few in
    omega arith
