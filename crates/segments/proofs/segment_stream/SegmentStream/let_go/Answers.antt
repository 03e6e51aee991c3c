use Rattle.std.proofs.Common.{arith, subst, ◌+◌}
use Rattle.segments.specs.Streaming.{IsOpen, Stream}
use Rattle.segments.proofs.Streams.{empty_kept, open_begun}
use Rattle.segments.proofs.segment_stream.SegmentStream.let_go.Goals as goal

pub invariant_of-self : goal.invariant_of-self
invariant_of-self c =
    let placed = c.self.invariant.placed in
    empty_kept (c.self.inside.place + c.len.result) c.clear.new.self.items c.self.inside.ends.items c.clear.ensures (omega (arith, c.len.ensures.value))

pub returns-then-self-clause-waits : goal.returns-then-self-clause-waits
returns-then-self-clause-waits c =
    subst (λ (s : Stream). IsOpen s.begun) c.self.view_is (open_begun c.self.inside.place c.self.inside.held.items c.self.inside.ends.items c.self.inside.whole c.self.inside.fault c.self.invariant)
