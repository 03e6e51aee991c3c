use Rattle.std.proofs.Common.{rules}
use Rattle.segments.proofs.Streams.{pushed_so}
use Rattle.segments.proofs.segment_stream.SegmentStream.push.Goals as goal

pub returns-clause-took : goal.returns-clause-took
returns-clause-took c = (pushed_so c.args.self.now c.hear.new.self c.args.byte c.match-hear.result c.hear.ensures.waits c.hear.ensures.left (search rules)).0

pub returns-clause-refused : goal.returns-clause-refused
returns-clause-refused c = (pushed_so c.args.self.now c.hear.new.self c.args.byte c.match-hear.result c.hear.ensures.waits c.hear.ensures.left (search rules)).1
