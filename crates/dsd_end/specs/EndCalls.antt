-- The calls that an end makes once it is open.
use Rattle.std.specs.Prelude.{◌≡◌, List, [], ◌∷◌, ◌++◌, ⊤}
use Rattle.dex_line.specs.FrameShapes.{FrameShape}
use Rattle.dex_line.specs.FrameSpelling.{IsSpoken, spelling}
use Rattle.dsd_station.specs.Told.{Told}
use Rattle.dsd_station.specs.declared.call.Call.{Call}
use Rattle.dsd_station.specs.declared.call.Call.TheVariants.{Attach, Size, Read, Write, Sync, Listen, Speak, Restart}

-- It listens, and its journal writes and syncs. It speaks the spelling of one frame at a time. It attaches and restarts nothing, and reads nothing.
abbrev pub IsEndCall : Call → Type 0
IsEndCall (Attach journal port answer) = ⊥
IsEndCall (Size answer) = ⊥
IsEndCall (Read at room answer) = ⊥
IsEndCall (Write at bytes outcome) = ⊤
IsEndCall (Sync outcome) = ⊤
IsEndCall (Listen answer) = ⊤
IsEndCall (Speak bytes outcome) = (frame : FrameShape) × IsSpoken frame × (bytes ≡ spelling frame)
IsEndCall Restart = ⊥

abbrev pub AreEndCalls : List Call → Type 0
AreEndCalls [] = ⊤
AreEndCalls (call ∷ calls) = IsEndCall call × AreEndCalls calls

-- The record is the old one with such calls behind it.
pub record MakesCalls (old new : Told) : Type 0 where
  pub more : List Call
  pub calls : new.calls ≡ old.calls ++ more
  pub each : AreEndCalls more
