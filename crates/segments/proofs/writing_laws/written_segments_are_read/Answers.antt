use Rattle.segments.proofs.EmptyEnds.{trim_element, trim_tail, trim_drop}
use Rattle.segments.proofs.Written.{segment_spelled, lines_spelled}
use Rattle.segments.proofs.writing_laws.written_segments_are_read.Goals as goal

pub returns-clause-element : goal.returns-clause-element
returns-clause-element c = λ place number parts. trim_element parts number

pub returns-clause-tail : goal.returns-clause-tail
returns-clause-tail c = λ place number parts. trim_tail number parts

pub returns-clause-rest : goal.returns-clause-rest
returns-clause-rest c = λ place number parts. trim_drop number parts

pub returns-clause-spelled : goal.returns-clause-spelled
returns-clause-spelled c = segment_spelled

pub returns-clause-lines : goal.returns-clause-lines
returns-clause-lines c = lines_spelled
