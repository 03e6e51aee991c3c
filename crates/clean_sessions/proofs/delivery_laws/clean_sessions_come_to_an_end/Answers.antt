use Rattle.clean_sessions.proofs.SessionsEnd.{session_ends}
use Rattle.clean_sessions.proofs.delivery_laws.clean_sessions_come_to_an_end.Goals as goal

pub returns : goal.returns
returns c = λ id other supplier receiver supplier_entries receiver_entries is others lists bases also first more new session.
    session_ends id other is others supplier receiver supplier_entries receiver_entries lists bases also first more new session
