use Rattle.dsd_end.proofs.OneOutcome.{next_once, one_turn}
use Rattle.dsd_end.proofs.turn_laws.polls_have_one_outcome.Goals as goal

pub returns : goal.returns
returns c = record {
  turn = λ chooser header old new other text load load' t u. one_turn header chooser old text new other load load' t u;
  poll = next_once;
}
