use Rattle.clean_sessions.proofs.TurnsRunOut.{less_left}
use Rattle.clean_sessions.proofs.course_laws.turns_run_out.Goals as goal

pub returns : goal.returns
returns c = less_left
