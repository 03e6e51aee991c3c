use Rattle.std.proofs.Common.{subst}
use Rattle.transaction_set.specs.SoundLines.{AreSoundLines}
use Rattle.handheld_core.specs.DraftRows.{Rows}
use Rattle.handheld_core.proofs.Rowed.{lines_sound}
use Rattle.handheld_core.proofs.rows.DraftRows.into_parts.Goals as goal

pub returns-clause-sound : goal.returns-clause-sound
returns-clause-sound c = subst (λ (rows : Rows). AreSoundLines rows.lines) c.self.view_is (lines_sound (record { extras = c.self.inside.extras; lines = c.self.inside.lines }) c.self.invariant)
