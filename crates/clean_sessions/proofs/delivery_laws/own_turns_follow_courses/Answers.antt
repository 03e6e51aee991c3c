use Rattle.clean_sessions.proofs.DeliveryTurns.{between_next, turn_taken}
use Rattle.clean_sessions.proofs.OwnSets.{signs_sets}
use Rattle.clean_sessions.proofs.delivery_laws.own_turns_follow_courses.Goals as goal

pub returns : goal.returns
returns c = record {
  between = λ header chooser old partner new sets text load bases between turned. between_next header chooser (signs_sets header.role chooser bases) old partner new sets text load between turned;
  turn = λ header chooser old partner new sets text load bases between turned course number f.
      turn_taken header chooser (signs_sets header.role chooser bases) old partner new sets text load between turned course number f;
}
