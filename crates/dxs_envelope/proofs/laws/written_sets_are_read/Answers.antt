use Rattle.dxs_envelope.proofs.SentRead.{one_sent, sent_envelope, sent_units}
use Rattle.dxs_envelope.proofs.laws.written_sets_are_read.Goals as goal

pub returns-clause-read : goal.returns-clause-read
returns-clause-read c = λ text sets sender receiver control. sent_envelope sets sender receiver control text

pub returns-clause-one : goal.returns-clause-one
returns-clause-one c = one_sent

pub returns-clause-units : goal.returns-clause-units
returns-clause-units c = λ text sets sender receiver control. sent_units sets sender receiver control text
