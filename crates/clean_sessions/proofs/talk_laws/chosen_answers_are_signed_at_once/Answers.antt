use Rattle.clean_sessions.proofs.AnswersSigned.{turn_answers}
use Rattle.clean_sessions.proofs.talk_laws.chosen_answers_are_signed_at_once.Goals as goal

pub returns : goal.returns
returns c = turn_answers
