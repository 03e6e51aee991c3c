use Rattle.handheld_core.proofs.Chosen.{chooses_soundly}
use Rattle.handheld_core.proofs.choosing.DraftsDecider.choose.Goals as goal

pub returns-in-Some-Some-clause-sound : goal.returns-in-Some-Some-clause-sound
returns-in-Some-Some-clause-sound c = chooses_soundly c.args.self.now c.len.ensures.drafts

pub returns-in_default-clause-sound : goal.returns-in_default-clause-sound
returns-in_default-clause-sound c = chooses_soundly c.args.self.now c.len.ensures.drafts
