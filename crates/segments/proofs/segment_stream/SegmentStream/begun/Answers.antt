use Rattle.std.proofs.Common.{subst}
use Rattle.segments.specs.Streaming.{IsOpen, Stream}
use Rattle.segments.proofs.Streams.{open_begun}
use Rattle.segments.proofs.segment_stream.SegmentStream.begun.Goals as goal

pub returns-then-self-clause-waits : goal.returns-then-self-clause-waits
returns-then-self-clause-waits c =
    subst (λ (s : Stream). IsOpen s.begun) c.self.view_is (open_begun c.self.inside.place c.self.inside.held.items c.self.inside.ends.items c.self.inside.whole c.self.inside.fault c.self.invariant)
