-- Polls in which an own turn comes that has something to do: only these take memory.
use Rattle.std.specs.Prelude.{◌≡◌, ◌⊎◌, ℕ, false, List, [], ◌∷◌, ◌++◌, Option, Some, None, Result, Ok, Err}
use Rattle.dex_line.specs.FrameShapes.{FrameShape}
use Rattle.dex_line.specs.Scanning.{quieted}
use Rattle.dex_handshake.specs.LineTable.{Common, Finished, hears}
use Rattle.dsd_record.specs.Choices.{Chooser}
use Rattle.dsd_station.specs.Told.{Told}
use Rattle.dsd_station.specs.declared.call.Reception.{Reception}
use Rattle.dsd_station.specs.declared.call.Reception.TheVariants.{Piece, Silence, Cut}
use Rattle.own_turn.specs.IdleTurns.{IsIdle}
use Rattle.dsd_end.specs.PollStep.{Along, Done, HearsFrame, scanned, stepped}
use Rattle.dsd_end.specs.Standings.{Standing, with_begun}
use Rattle.dsd_end.specs.declared.fault.EndFault.{EndFault}
use Rattle.dsd_end.specs.declared.fault.EndFault.TheVariants as ends

-- the own turn of this standing has something to do
abbrev pub TurnBusy : Chooser → Standing → Type 0
TurnBusy chooser standing =
    (own : Common) × (text : List ℕ) × (standing.line ≡ Finished own text) × (IsIdle standing.header chooser standing.desk text → ⊥)

-- so has the one that comes with a frame
abbrev pub FrameBusy : Chooser → Standing → FrameShape → Type 0
FrameBusy chooser standing frame = TurnBusy chooser (stepped standing (hears standing.line frame)).standing

-- the one that comes with one of these frames, behind those before it
abbrev pub FramesBusy : Chooser → Standing → List FrameShape → Type 0
FramesBusy chooser standing [] = ⊥
FramesBusy chooser standing (frame ∷ frames) =
    FrameBusy chooser standing frame ⊎ ((one : Done) × (HearsFrame chooser standing frame one × FramesBusy chooser one.standing frames))

abbrev pub BytesBusy : Chooser → Standing → List ℕ → Type 0
BytesBusy chooser standing bytes = FramesBusy chooser (with_begun standing []) (scanned standing bytes).shapes

abbrev pub BrokenBusy : Chooser → Standing → Option FrameShape → Type 0
BrokenBusy chooser standing None = ⊥
BrokenBusy chooser standing (Some frame) = FrameBusy chooser standing frame

abbrev pub HearsBusy : Chooser → Standing → Reception → Type 0
HearsBusy chooser standing (Piece bytes) = BytesBusy chooser standing bytes
HearsBusy chooser standing Silence = BrokenBusy chooser (with_begun standing []) (quieted standing.begun)
HearsBusy chooser standing Cut = ⊥

-- the one that comes with what this poll heard
pub record PollBusy (tells : Type 0) (chooser : Chooser) (standing : Standing) (before after : Told) : Type 0 where
  pub heard : Reception
  pub busy : HearsBusy chooser standing heard
  pub begun : standing.first ≡ false
  pub listened : tells → after.heard ≡ before.heard ++ heard ∷ []

-- what is said of a call that finds no memory
abbrev pub IfEndNoMemory : {T : Type 0} → Result T EndFault → Type 0 → Type 0
IfEndNoMemory (Ok value) P = Unit {0}
IfEndNoMemory (Err ends.Station) P = Unit {0}
IfEndNoMemory (Err (ends.Full n)) P = Unit {0}
IfEndNoMemory (Err (ends.Noise n)) P = Unit {0}
IfEndNoMemory (Err ends.Failed) P = Unit {0}
IfEndNoMemory (Err ends.Memory) P = P

-- the one that comes with what was heard behind some polls
pub record RunBusy (chooser : Chooser) (old : Standing) : Type 0 where
  pub polls : List (Option Reception)
  pub done : Done
  pub along : Along chooser old polls done
  pub heard : Reception
  pub busy : HearsBusy chooser done.standing heard
