use Rattle.clean_sessions.proofs.SessionsBegun.{texts_begun}
use Rattle.clean_sessions.proofs.turn_laws.sessions_begin.Goals as goal

pub returns : goal.returns
returns c = λ id other supplier receiver supplier_entries receiver_entries new is others taken. texts_begun id other is others supplier receiver supplier_entries receiver_entries new taken
