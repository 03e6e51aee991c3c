use Rattle.std.proofs.Common.{sym, ◌∙◌}
use Rattle.segments.proofs.Pieces.{begun_nowhere, begun_where}
use Rattle.segments.proofs.segment_stream.SegmentStream.end.Goals as goal

pub returns-in-Some-begun-clause-over : goal.returns-in-Some-begun-clause-over
returns-in-Some-begun-clause-over c = λ sound. begun_where c.args.self.now.begun c.in-Some-begun.start (sym c.begun-begun.ensures.value ∙ c.in-Some-begun.is) c.begun-begun.ensures.waits

pub returns-in-None-clause-over : goal.returns-in-None-clause-over
returns-in-None-clause-over c = λ sound. begun_nowhere c.args.self.now.begun (sym c.begun-begun.ensures.value ∙ c.in-None.is) c.begun-begun.ensures.waits
