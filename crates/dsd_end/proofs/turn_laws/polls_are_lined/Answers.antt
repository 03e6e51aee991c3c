use Rattle.dsd_end.proofs.LinedPolls.{polls_are_lined}
use Rattle.dsd_end.proofs.turn_laws.polls_are_lined.Goals as goal

pub returns : goal.returns
returns c = λ chooser header entries polls done a begun. polls_are_lined chooser header entries polls done a begun
