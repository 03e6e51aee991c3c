use Rattle.clean_sessions.proofs.LowerControls.{answer_written_too, base_written_too}
use Rattle.clean_sessions.proofs.talk_laws.lower_controls_can_be_written.Goals as goal

pub returns : goal.returns
returns c = record { answer = answer_written_too; base = base_written_too }
