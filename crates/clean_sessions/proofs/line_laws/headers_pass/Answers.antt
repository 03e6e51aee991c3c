use Rattle.clean_sessions.proofs.HeadersPassed.{headers_pass}
use Rattle.clean_sessions.proofs.line_laws.headers_pass.Goals as goal

pub returns : goal.returns
returns c = headers_pass
