use Rattle.std.proofs.Common.{◌≤◌, length, subst, ap, arith}
use Rattle.segments.specs.Views.{Seg, element_of}
use Rattle.segments.proofs.Ids.{id_short}
use Rattle.segments.proofs.segment.Segment.id.Goals as goal

pub returns-clause-short : goal.returns-clause-short
returns-clause-short c =
    let same = c.element.ensures.value in
    let short : length (element_of c.args.self.now 0) ≤ 3 = subst (λ (s : Seg). length (element_of s 0) ≤ 3) c.self.view_is (id_short _ c.self.invariant.spelled.segment.id) in
    omega (arith, ap length same, short)
