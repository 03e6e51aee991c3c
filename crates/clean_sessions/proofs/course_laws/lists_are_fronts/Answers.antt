use Rattle.clean_sessions.proofs.OneCourse.{fronts}
use Rattle.clean_sessions.proofs.course_laws.lists_are_fronts.Goals as goal

pub returns : goal.returns
returns c = fronts
