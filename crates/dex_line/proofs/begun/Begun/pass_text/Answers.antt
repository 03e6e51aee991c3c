use Rattle.dex_line.proofs.Many.{sound_begun}
use Rattle.dex_line.proofs.begun.Begun.pass_text.Goals as goal

pub returns-clause-begun : goal.returns-clause-begun
returns-clause-begun c = sound_begun _ _ _ c.take_text.ensures.sound
