use Rattle.clean_sessions.proofs.TurnsPassed.{passes, still_pair}
use Rattle.clean_sessions.proofs.line_laws.turns_pass.Goals as goal

pub returns : goal.returns
returns c = record { whole = λ owner hearer text pair. passes owner hearer pair text; again = still_pair }
