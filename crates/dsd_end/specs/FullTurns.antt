-- Where the journal has no room for the entry that an own turn adds next.
use Rattle.std.specs.Prelude.{◌≡◌, ◌⊎◌, ℕ, false, List, [], ◌∷◌, ◌++◌, Option, Some, None, Result, Ok, Err}
use Rattle.dex_line.specs.FrameShapes.{FrameShape}
use Rattle.dex_line.specs.Scanning.{quieted}
use Rattle.dex_handshake.specs.LineTable.{Common, Finished, hears}
use Rattle.dsd_record.specs.Choices.{Chooser}
use Rattle.dsd_station.specs.Told.{Told}
use Rattle.dsd_station.specs.declared.call.Reception.{Reception}
use Rattle.dsd_station.specs.declared.call.Reception.TheVariants.{Piece, Silence, Cut}
use Rattle.dsd_journal.specs.declared.entry.Entry.{Entry}
use Rattle.own_turn.specs.Desks.{IsTooLong}
use Rattle.own_turn.specs.NextEntry.{TurnAddsNext}
use Rattle.dsd_end.specs.PollStep.{Along, Done, HearsFrame, scanned, stepped}
use Rattle.dsd_end.specs.Standings.{Standing, with_begun}
use Rattle.dsd_end.specs.declared.fault.EndFault.{EndFault}
use Rattle.dsd_end.specs.declared.fault.EndFault.TheVariants as ends

-- in the own turn of this standing: with the entry that it adds next the journal would have so many bytes, which are too many
abbrev pub TurnFull : Chooser → Standing → ℕ → Type 0
TurnFull chooser standing n =
    (own : Common) × (text : List ℕ) × (standing.line ≡ Finished own text)
    × ((entries : List Entry) × IsTooLong (TurnAddsNext standing.header.role chooser text standing.desk) entries n)

-- in the one that comes with a frame
abbrev pub FrameFull : Chooser → Standing → FrameShape → ℕ → Type 0
FrameFull chooser standing frame n = TurnFull chooser (stepped standing (hears standing.line frame)).standing n

-- in the one that comes with one of these frames, behind those before it
abbrev pub FramesFull : Chooser → Standing → List FrameShape → ℕ → Type 0
FramesFull chooser standing [] n = ⊥
FramesFull chooser standing (frame ∷ frames) n =
    FrameFull chooser standing frame n ⊎ ((one : Done) × (HearsFrame chooser standing frame one × FramesFull chooser one.standing frames n))

abbrev pub BytesFull : Chooser → Standing → List ℕ → ℕ → Type 0
BytesFull chooser standing bytes n = FramesFull chooser (with_begun standing []) (scanned standing bytes).shapes n

abbrev pub BrokenFull : Chooser → Standing → Option FrameShape → ℕ → Type 0
BrokenFull chooser standing None n = ⊥
BrokenFull chooser standing (Some frame) n = FrameFull chooser standing frame n

abbrev pub HearsFull : Chooser → Standing → Reception → ℕ → Type 0
HearsFull chooser standing (Piece bytes) n = BytesFull chooser standing bytes n
HearsFull chooser standing Silence n = BrokenFull chooser (with_begun standing []) (quieted standing.begun) n
HearsFull chooser standing Cut n = ⊥

-- in an own turn that comes with what this poll heard
pub record PollFull (tells : Type 0) (chooser : Chooser) (standing : Standing) (before after : Told) (n : ℕ) : Type 0 where
  pub heard : Reception
  pub full : HearsFull chooser standing heard n
  pub begun : standing.first ≡ false
  pub listened : tells → after.heard ≡ before.heard ++ heard ∷ []

-- what is said of the length that a call answers in `Full`
abbrev pub IfEndFull : {T : Type 0} → Result T EndFault → (ℕ → Type 0) → Type 0
IfEndFull (Ok value) P = Unit {0}
IfEndFull (Err ends.Station) P = Unit {0}
IfEndFull (Err (ends.Full n)) P = P n
IfEndFull (Err (ends.Noise n)) P = Unit {0}
IfEndFull (Err ends.Failed) P = Unit {0}
IfEndFull (Err ends.Memory) P = Unit {0}

-- in an own turn that comes with what was heard behind some polls
pub record RunFull (chooser : Chooser) (old : Standing) (n : ℕ) : Type 0 where
  pub polls : List (Option Reception)
  pub done : Done
  pub along : Along chooser old polls done
  pub heard : Reception
  pub full : HearsFull chooser done.standing heard n
