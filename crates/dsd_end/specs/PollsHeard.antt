-- What the polls of an end heard, and what the line hears of it.
use Rattle.std.specs.Prelude.{ℕ, List, [], ◌∷◌, ◌++◌, map, Option, Some, None}
use Rattle.dex_line.specs.FrameShapes.{FrameShape}
use Rattle.dex_line.specs.Hearing.{hear_all, hearing}
use Rattle.dex_line.specs.Scanning.{quieted}
use Rattle.dex_handshake.specs.LineRun.{Heard, HeardFrame, HeardQuiet, HeardUnplugged}
use Rattle.dsd_station.specs.declared.call.Reception.{Reception}
use Rattle.dsd_station.specs.declared.call.Reception.TheVariants.{Piece, Silence, Cut}

abbrev pub frames_heard : List FrameShape → List Heard
frames_heard frames = map (λ (frame : FrameShape). HeardFrame frame) frames

-- what had begun is Bad, and then comes a Quiet
abbrev pub silence_heard : Option FrameShape → List Heard
silence_heard None = HeardQuiet ∷ []
silence_heard (Some frame) = HeardFrame frame ∷ HeardQuiet ∷ []

-- the frames, Quiets and Unplugged of some polls, where these bytes have begun
abbrev pub heard_in : List ℕ → List (Option Reception) → List Heard
heard_in begun [] = []
heard_in begun (None ∷ polls) = heard_in begun polls
heard_in begun (Some (Piece bytes) ∷ polls) =
    frames_heard (hear_all (hearing begun []) bytes).shapes ++ heard_in (hear_all (hearing begun []) bytes).begun polls
heard_in begun (Some Silence ∷ polls) = silence_heard (quieted begun) ++ heard_in [] polls
heard_in begun (Some Cut ∷ polls) = HeardUnplugged ∷ heard_in [] polls

-- what the listens of some polls heard
abbrev pub receptions_of : List (Option Reception) → List Reception
receptions_of [] = []
receptions_of (None ∷ polls) = receptions_of polls
receptions_of (Some heard ∷ polls) = heard ∷ receptions_of polls
