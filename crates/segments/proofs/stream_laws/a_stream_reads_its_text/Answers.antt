use Rattle.segments.proofs.StreamTexts.{text_ended, text_told}
use Rattle.segments.proofs.stream_laws.a_stream_reads_its_text.Goals as goal

pub returns-clause-told : goal.returns-clause-told
returns-clause-told c = text_told

pub returns-clause-whole : goal.returns-clause-whole
returns-clause-whole c = text_ended
