use Rattle.clean_sessions.proofs.HallsWalked.{turn_taken}
use Rattle.clean_sessions.proofs.turn_laws.clean_turns_go_on.Goals as goal

pub returns : goal.returns
returns c = λ owner hearer text old new begins taken. turn_taken owner hearer text old begins new taken
