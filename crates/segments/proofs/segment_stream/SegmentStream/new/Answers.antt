use Rattle.std.proofs.Common.{arith}
use Rattle.segments.proofs.Streams.{empty_kept}
use Rattle.segments.proofs.segment_stream.SegmentStream.new.Goals as goal

pub invariant_of-result : goal.invariant_of-result
invariant_of-result c = empty_kept 0 c.new.result.items c.new-2.result.items c.new.ensures (omega arith)
