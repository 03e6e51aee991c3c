use Rattle.clean_sessions.proofs.TurnsEnding.{turns_end}
use Rattle.clean_sessions.proofs.delivery_laws.own_turns_come_to_an_end.Goals as goal

pub returns : goal.returns
returns c = turns_end
