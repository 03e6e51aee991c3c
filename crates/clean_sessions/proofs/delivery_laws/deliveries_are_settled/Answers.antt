use Rattle.clean_sessions.proofs.DeliveriesSettled.{session_settles}
use Rattle.clean_sessions.proofs.delivery_laws.deliveries_are_settled.Goals as goal

pub returns : goal.returns
returns c = session_settles
