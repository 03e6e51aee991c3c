use Rattle.clean_sessions.proofs.SessionsTaken.{whole_session}
use Rattle.clean_sessions.proofs.turn_laws.turns_end_complete.Goals as goal

pub returns : goal.returns
returns c = whole_session
