use Rattle.clean_sessions.proofs.DraftsHeld.{has_answered}
use Rattle.clean_sessions.proofs.OwnSets.{signs_sets}
use Rattle.clean_sessions.proofs.delivery_laws.own_turns_answer_deliveries.Goals as goal

pub returns : goal.returns
returns c = λ header chooser old partner new sets text load bases between turned. has_answered header chooser (signs_sets header.role chooser bases) old partner new sets text load between turned
