use Rattle.clean_sessions.proofs.PollsCounted.{few, within_bound}
use Rattle.clean_sessions.proofs.poll_laws.turns_are_few.Goals as goal

pub returns : goal.returns
returns c = record { few = few; bound = within_bound }
