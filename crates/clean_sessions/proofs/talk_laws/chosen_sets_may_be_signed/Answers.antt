use Rattle.clean_sessions.proofs.ChosenSigned.{chosen_signed}
use Rattle.clean_sessions.proofs.DraftsSigned.{draft_signed}
use Rattle.clean_sessions.proofs.talk_laws.chosen_sets_may_be_signed.Goals as goal

pub returns : goal.returns
returns c = record { answer = chosen_signed; draft = draft_signed }
