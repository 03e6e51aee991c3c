use Rattle.clean_sessions.proofs.DeedsInTurn.{legal_turns}
use Rattle.clean_sessions.proofs.course_laws.deeds_take_turns.Goals as goal

pub returns : goal.returns
returns c = legal_turns
