use Rattle.clean_sessions.proofs.AnswersAlike.{alike, answer_chosen}
use Rattle.clean_sessions.proofs.talk_laws.answers_ignore_checks.Goals as goal

pub returns : goal.returns
returns c = record { chosen = λ role chooser before number text chooses. answer_chosen role chooser before number text chooses; alike = alike }
