use Rattle.clean_sessions.proofs.CoursesDone.{ends, ends_at_once}
use Rattle.clean_sessions.proofs.course_laws.courses_are_done.Goals as goal

pub returns : goal.returns
returns c = record { ends = ends; at_once = ends_at_once }
