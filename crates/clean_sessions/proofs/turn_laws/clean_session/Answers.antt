use Rattle.clean_sessions.proofs.SessionsBegun.{session_clean}
use Rattle.clean_sessions.proofs.turn_laws.clean_session.Goals as goal

pub returns : goal.returns
returns c = λ id other supplier receiver supplier_entries receiver_entries first more new is others session. session_clean id other is others supplier receiver supplier_entries receiver_entries first more new session
