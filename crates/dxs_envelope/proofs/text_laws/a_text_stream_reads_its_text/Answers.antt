use Rattle.dxs_envelope.proofs.TextWhole.{parts_ended, text_parts}
use Rattle.dxs_envelope.proofs.text_laws.a_text_stream_reads_its_text.Goals as goal

pub returns-clause-told : goal.returns-clause-told
returns-clause-told c = text_parts

pub returns-clause-whole : goal.returns-clause-whole
returns-clause-whole c = parts_ended
