use Rattle.std.proofs.Common.{◌≤◌, ◌∙◌, ap, arith, length, drop}
use Rattle.std.specs.List.{join_with_byte}
use Rattle.segments.specs.Views.{Seg}
use Rattle.segments.specs.declared.segment.TheConstants.{SEGMENT_BYTES}
use Rattle.segments.proofs.Parted.{tail_past}
use Rattle.segments.proofs.segment.Segment.tail_from.Goals as goal

pub returns-then-number-len-clause-value : goal.returns-then-number-len-clause-value
returns-then-number-len-clause-value c =
    let past = tail_past c.self.inside.bytes.now c.self.inside.ends.items c.args.number c.self.invariant.parted (omega arith) in
    past ∙ ap (λ (s : Seg). join_with_byte 42 (drop c.args.number s.parts)) c.self.view_is

pub returns-clause-short : goal.returns-clause-short
returns-clause-short c =
    let short : length c.self.inside.bytes.now ≤ SEGMENT_BYTES = c.self.invariant.spelled.short in
    let less = c.tail_at.ensures.short in
    omega arith
