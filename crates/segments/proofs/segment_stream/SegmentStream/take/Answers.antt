use Rattle.segments.proofs.Streams.{taken_so}
use Rattle.segments.proofs.segment_stream.SegmentStream.take.Goals as goal

pub returns-clause-took : goal.returns-clause-took
returns-clause-took c = (taken_so c.args.self.now c.hear.new.self c.args.piece.now c.hear.result c.hear.ensures.waits c.hear.ensures.left c.hear.ensures.answer).0

pub returns-clause-refused : goal.returns-clause-refused
returns-clause-refused c = (taken_so c.args.self.now c.hear.new.self c.args.piece.now c.hear.result c.hear.ensures.waits c.hear.ensures.left c.hear.ensures.answer).1
