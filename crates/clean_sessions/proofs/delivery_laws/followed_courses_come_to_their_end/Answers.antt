use Rattle.clean_sessions.proofs.CoursesFollowed.{blocks_end, course_ends}
use Rattle.clean_sessions.proofs.delivery_laws.followed_courses_come_to_their_end.Goals as goal

pub returns : goal.returns
returns c = record {
  whole = course_ends;
  blocks = λ course number turns near far meet t follow weight. blocks_end course number turns near far meet t follow weight;
}
