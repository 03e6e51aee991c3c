use Rattle.adjustment_895.proofs.OneAnswer.{one}
use Rattle.adjustment_895.proofs.laws.one_answer.Goals as goal

pub returns : goal.returns
returns c = λ text answer other seal seal' is also. one text answer other seal seal' is also
