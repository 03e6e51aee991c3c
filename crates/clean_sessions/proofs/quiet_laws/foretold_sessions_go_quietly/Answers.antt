use Rattle.clean_sessions.proofs.QuietSessions.{session_quietly}
use Rattle.clean_sessions.proofs.quiet_laws.foretold_sessions_go_quietly.Goals as goal

pub returns : goal.returns
returns c = λ id other supplier receiver supplier_entries receiver_entries is others few room frames. session_quietly id other is others supplier receiver supplier_entries receiver_entries few room frames
