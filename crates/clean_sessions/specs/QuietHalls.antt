-- Halls from which a session goes on without a fault: what an end hears is no noise, and its journal has room.
use Rattle.std.specs.Prelude.{◌≡◌, ◌⊎◌, ◌<◌, ◌+◌, ℕ, zero, suc, true, false, [], ◌∷◌, length, ⊤}
use Rattle.dex_line.specs.FrameShapes.{FrameShape}
use Rattle.dex_line.specs.FrameSpelling.{spelling}
use Rattle.dsd_end.specs.FullTurns.{FrameFull}
use Rattle.dsd_end.specs.Standings.{has_ended}
use Rattle.dsd_end.specs.declared.fault.TheConstants.{NOISE_BYTES}
use Rattle.clean_sessions.specs.Halls.{CleanStep, Hall}

-- This frame is on its way to an end that runs. With it the end has heard fewer bytes than are noise, and its journal has room in the own turn that may come with it.
pub record HearsQuietly (hall : Hall) (frame : FrameShape) : Type 0 where
  pub flight : hall.flight ≡ frame ∷ []
  pub runs : has_ended hall.near.standing.line ≡ false
  pub quiet : hall.near.standing.heard + length (spelling frame) < NOISE_BYTES
  pub place : (bytes : ℕ) → FrameFull hall.near.chooser hall.near.standing frame bytes → ⊥

-- both sessions are over
pub record HaveEnded (hall : Hall) : Type 0 where
  pub near : has_ended hall.near.standing.line ≡ true
  pub far : has_ended hall.far.standing.line ≡ true

-- So it is for this many frames, of which each is delivered: they are heard quietly, up to the end of both sessions.
abbrev pub GoesQuietly : ℕ → Hall → Type 0
GoesQuietly zero hall = ⊤
GoesQuietly (suc frames) hall = (HaveEnded hall ⊎ ((frame : FrameShape) × HearsQuietly hall frame)) × ((next : Hall) → CleanStep hall next → GoesQuietly frames next)
