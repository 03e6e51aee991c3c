use Rattle.dsd_record.proofs.Prices.{at_price, price_after}
use Rattle.dsd_record.proofs.Stated.{answer_low}
use Rattle.dsd_record.proofs.version_laws.answers_at_their_price_apply.Goals as goal

pub returns-clause-applies : goal.returns-clause-applies
returns-clause-applies c = at_price

pub returns-clause-price : goal.returns-clause-price
returns-clause-price c = λ version answer is a. price_after version answer (answer_low answer is) a
