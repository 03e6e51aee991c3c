use Rattle.receiver_core.proofs.Chosen.{chooses_soundly}
use Rattle.receiver_core.proofs.choosing.CountsDecider.choose.Goals as goal

pub returns-in_default-clause-sound : goal.returns-in_default-clause-sound
returns-in_default-clause-sound c = chooses_soundly c.args.self.now c.len.ensures.counts

pub returns-in_err-changes-clause-sound : goal.returns-in_err-changes-clause-sound
returns-in_err-changes-clause-sound c = chooses_soundly c.args.self.now c.len.ensures.counts

pub returns-clause-sound : goal.returns-clause-sound
returns-clause-sound c = chooses_soundly c.args.self.now c.len.ensures.counts
