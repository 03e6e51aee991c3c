-- A run of an end up to a moment between two calls of its station, and what a stop leaves of it.
use Rattle.std.specs.Prelude.{◌≡◌, ◌⊎◌, ℕ, false, List, [], ◌++◌, drop, Some, Result, IfOk, OnOk}
use Rattle.std.specs.List.{flat_map}
use Rattle.dex_line.specs.FrameShapes.{FrameShape, Bad}
use Rattle.dex_line.specs.FrameSpelling.{spelling}
use Rattle.dex_line.specs.Judging.{judge}
use Rattle.dsd_record.specs.Choices.{Chooser}
use Rattle.dsd_station.specs.Told.{Told, EachStop}
use Rattle.dsd_station.specs.declared.call.Reception.{Reception}
use Rattle.dsd_station.specs.declared.call.Reception.TheVariants.{Piece, Silence, Cut}
use Rattle.dsd_journal.specs.JournalImage.{Holds}
use Rattle.dsd_journal.specs.declared.entry.Entry.{Entry}
use Rattle.dsd_journal.specs.declared.header.Header.{Header}
use Rattle.delivery_book.specs.Signing.{Legal}
use Rattle.dsd_end.specs.Lives.{IsRunOf}
use Rattle.dsd_end.specs.PollStep.{Done}
use Rattle.dsd_end.specs.Runs.{bytes_heard}
use Rattle.dsd_end.specs.SoFar.{SoFar}
use Rattle.dsd_end.specs.Standings.{Standing, has_ended}

-- What a stop leaves: the image holds a list with which this is a run. It began over the first entries, and behind these bytes gone out.
pub record LeavesRun (header : Header) (chooser : Chooser) (first : List Entry) (before : List ℕ) (heard : List Reception) (image out : List ℕ) : Type 0 where
  pub last : List Entry
  pub holds : Holds header last image
  pub gone : List ℕ
  pub split : out ≡ before ++ gone
  pub run : IsRunOf header.role chooser (record { before = first; heard = heard; gone = gone; after = last })

abbrev pub said_at : Standing → List FrameShape → Done
said_at standing said = record { standing = standing; said = said; loads = [] }

-- The run that began over the first entries, and behind these bytes gone out, has come to this standing. While the session goes on, what was
-- heard is what was answered, what has begun, and what is still to be pushed.
pub record ComesTo (chooser : Chooser) (first : List Entry) (before : List ℕ) (heard : List Reception) (left : List ℕ) (standing : Standing) (gone : List ℕ) : Type 0 where
  pub legal : Legal standing.header.role first
  pub said : List FrameShape
  pub split : gone ≡ before ++ flat_map spelling said
  pub past : List ℕ
  pub so_far : SoFar standing.header chooser first past (said_at standing said)
  pub behind : List ℕ
  pub bytes : bytes_heard heard ≡ past ++ behind
  pub going : has_ended standing.line ≡ false → behind ≡ standing.begun ++ left

-- The run that began over the first entries, when its station stood as at the beginning: each stop since leaves a run, and where no call of its
-- end has answered a fault it has come to this standing.
pub record Runs (chooser : Chooser) (first : List Entry) (beginning : Told) (standing : Standing) (now : Told) : Type 0 where
  pub heard : List Reception
  pub since : now.heard ≡ beginning.heard ++ heard
  pub stops : EachStop beginning now (LeavesRun standing.header chooser first beginning.now.gone heard)
  pub comes : standing.failed ≡ false → ComesTo chooser first beginning.now.gone heard [] standing now.now.gone

-- ---- Whatever run has come to the old standing, each stop from there on leaves a run

abbrev pub LeavesRuns : Chooser → Standing → Told → Told → Type 0
LeavesRuns chooser standing old new = (first : List Entry) (before : List ℕ) (heard : List Reception) (left : List ℕ)
    → ComesTo chooser first before heard left standing old.now.gone → EachStop old new (LeavesRun standing.header chooser first before heard)

-- the frame is what is heard of this piece: what it spells, or Bad where it has broken off
abbrev pub IsHeardAs : List ℕ → FrameShape → Type 0
IsHeardAs piece frame = (judge piece ≡ Some frame) ⊎ (frame ≡ Bad)

-- where a frame is heard
abbrev pub LeavesHearing : Chooser → Standing → FrameShape → Told → Told → Type 0
LeavesHearing chooser standing frame old new = (first : List Entry) (before : List ℕ) (heard : List Reception) (piece left : List ℕ) → IsHeardAs piece frame
    → ComesTo chooser first before heard (piece ++ left) standing old.now.gone → EachStop old new (LeavesRun standing.header chooser first before heard)

-- the bytes of what a listen heard
abbrev pub bytes_in : Reception → List ℕ
bytes_in (Piece bytes) = bytes
bytes_in Silence = []
bytes_in Cut = []

-- where bytes are pushed, of which a call took so many
abbrev pub LeavesTaking : Chooser → Standing → List ℕ → {E : Type 0} → Result ℕ E → Standing → Told → Told → Type 0
LeavesTaking chooser standing bytes result new_standing old new = (first : List Entry) (before : List ℕ) (heard : List Reception)
    → ComesTo chooser first before heard bytes standing old.now.gone
    → EachStop old new (LeavesRun standing.header chooser first before heard) × IfOk result (λ count. ComesTo chooser first before heard (drop count bytes) new_standing new.now.gone)

-- where all of these bytes are pushed
abbrev pub LeavesPushing : Chooser → Standing → List ℕ → {E : Type 0} → Result (Unit {0}) E → Standing → Told → Told → Type 0
LeavesPushing chooser standing bytes result new_standing old new = (first : List Entry) (before : List ℕ) (heard : List Reception)
    → ComesTo chooser first before heard bytes standing old.now.gone
    → EachStop old new (LeavesRun standing.header chooser first before heard) × OnOk result (ComesTo chooser first before heard [] new_standing new.now.gone)
