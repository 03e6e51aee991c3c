use Rattle.dsd_end.proofs.PollsRun.{polls_run}
use Rattle.dsd_end.proofs.turn_laws.polls_make_a_run.Goals as goal

pub returns : goal.returns
returns c = λ chooser header entries polls done is legal along. polls_run chooser header entries polls done is legal along
