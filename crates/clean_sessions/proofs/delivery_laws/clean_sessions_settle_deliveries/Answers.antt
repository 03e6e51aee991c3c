use Rattle.clean_sessions.proofs.SessionsSettled.{session_settled}
use Rattle.clean_sessions.proofs.delivery_laws.clean_sessions_settle_deliveries.Goals as goal

pub returns : goal.returns
returns c = session_settled
