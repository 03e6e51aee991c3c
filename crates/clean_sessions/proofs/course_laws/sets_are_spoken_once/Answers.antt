use Rattle.clean_sessions.proofs.SpokenOnce.{nothing_spoken, once}
use Rattle.clean_sessions.proofs.course_laws.sets_are_spoken_once.Goals as goal

pub returns : goal.returns
returns c = record { empty = nothing_spoken; once = once }
