use Rattle.clean_sessions.proofs.DeedsOfBoth.{one_course}
use Rattle.clean_sessions.proofs.course_laws.lists_have_one_course.Goals as goal

pub returns : goal.returns
returns c = one_course
