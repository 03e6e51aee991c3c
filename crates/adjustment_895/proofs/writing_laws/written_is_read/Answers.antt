use Rattle.adjustment_895.proofs.WrittenBack.{written_back}
use Rattle.adjustment_895.proofs.writing_laws.written_is_read.Goals as goal

pub returns-clause-spelled : goal.returns-clause-spelled
returns-clause-spelled c = λ answer control text small is e. (written_back answer control text small is e).spelled

pub returns-clause-set : goal.returns-clause-set
returns-clause-set c = λ answer control text small is e. (written_back answer control text small is e).set
