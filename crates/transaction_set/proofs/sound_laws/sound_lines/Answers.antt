use Rattle.transaction_set.proofs.Making.{behind_head_few, said_sound}
use Rattle.transaction_set.proofs.Sounding.{counted_line, plain_line}
use Rattle.transaction_set.proofs.sound_laws.sound_lines.Goals as goal

pub returns-clause-plain : goal.returns-clause-plain
returns-clause-plain c = plain_line

pub returns-clause-counted : goal.returns-clause-counted
returns-clause-counted c = counted_line

pub returns-clause-said : goal.returns-clause-said
returns-clause-said c = said_sound

pub returns-clause-few : goal.returns-clause-few
returns-clause-few c = behind_head_few
