-- A desk as contracts see it, and what a turn at it comes to.
use Rattle.std.specs.Prelude.{◌≡◌, ◌<◌, ◌≤◌, ◌+◌, ℕ, Bool, List, [], length, Option, Some, None, Result, Ok, Err}
use Rattle.std.specs.List.{Contains}
use Rattle.dsd_station.specs.Causes.{Rose}
use Rattle.dsd_station.specs.Rows.{Makes}
use Rattle.dsd_station.specs.Told.{EachStop, Told}
use Rattle.dsd_record.specs.Choices.{Chooser}
use Rattle.dsd_journal.specs.Devices.{KeepsTalk}
use Rattle.dsd_journal.specs.JournalImage.{Holds, gate_place}
use Rattle.dsd_journal.specs.Steps.{flush_calls}
use Rattle.dsd_journal.specs.declared.entry.Entry.{Entry}
use Rattle.dsd_journal.specs.declared.header.Header.{Header}
use Rattle.dsd_journal.specs.declared.limits.TheConstants.{JOURNAL_BYTES}
use Rattle.delivery_book.specs.Books.{BookView}
use Rattle.own_turn.specs.DueSets.{Asked}
use Rattle.own_turn.specs.OwnTurn.{Desk}
use Rattle.own_turn.specs.TurnsGrow.{IsGrown}
use Rattle.own_turn.specs.declared.turn_fault.TurnFault.{TurnFault}
use Rattle.own_turn.specs.declared.turn_fault.TurnFault.TheVariants.{Full, Memory, Station}

-- Its book, what due sets ask of this session, and how many sets were refused and how many own turns had blocks in it.
pub record DeskView : Type 0 where
  pub book : BookView
  pub asked : List Asked
  pub refused : ℕ
  pub turns : ℕ

-- what own turns read and change of it
abbrev pub desk_of : DeskView → Desk
desk_of view = record { entries = view.book.known; asked = view.asked; refused = view.refused; turns = view.turns }

-- the text of a load; a turn that gives none says nothing
abbrev pub text_of : Option (List ℕ) → List ℕ
text_of None = []
text_of (Some text) = text

-- ---- faults

-- a turn fails only where the count of faults rose
abbrev pub FailsAtStation : {T : Type 0} → Result T TurnFault → ℕ → ℕ → Type 0
FailsAtStation (Ok load) before now = now ≡ before
FailsAtStation (Err Station) before now = (before ≤ now) × Rose before now
FailsAtStation (Err (Full n)) before now = now ≡ before
FailsAtStation (Err Memory) before now = now ≡ before

-- what is said of the length that a turn answers in `Full`
abbrev pub IfFull : {T : Type 0} → Result T TurnFault → (ℕ → Type 0) → Type 0
IfFull (Ok load) P = Unit {0}
IfFull (Err Station) P = Unit {0}
IfFull (Err (Full n)) P = P n
IfFull (Err Memory) P = Unit {0}

-- With the entry that is added next behind these the journal would have so many bytes, which are too many.
pub record IsTooLong (Next : List Entry → Entry → Type 0) (entries : List Entry) (n : ℕ) : Type 0 where
  pub entry : Entry
  pub next : Next entries entry
  pub size : n ≡ gate_place entries + 7 + length entry.payload
  pub long : JOURNAL_BYTES < n

-- ---- the station

-- The image holds a list to which these entries grow: each new one is chosen, or is one of these sets.
pub record GrowsTo (header : Header) (chooser : Chooser) (sets : List (List ℕ)) (entries : List Entry) (image : List ℕ) : Type 0 where
  pub last : List Entry
  pub holds : Holds header last image
  pub grown : IsGrown header.role chooser (Contains sets) entries last

-- the calls are those of one flush, or none
abbrev pub MakesFlush : List Entry → Told → Told → Type 0
MakesFlush entries old new = (added : List Entry) × ((went : Bool) × Makes (flush_calls (gate_place entries) added) went old new)

-- What a turn does to its station, whatever it answers: it says and hears nothing, its calls are those of one flush at most, and each stop since its
-- start leaves a list to which the entries grow.
pub record Stores (header : Header) (chooser : Chooser) (sets : List (List ℕ)) (entries : List Entry) (old new : Told) : Type 0 where
  pub keeps : KeepsTalk old new
  pub gone : new.now.gone ≡ old.now.gone
  pub syncs : new.syncs ≤ old.syncs + 2
  pub made : MakesFlush entries old new
  pub stops : EachStop old new (λ image out. GrowsTo header chooser sets entries image × (out ≡ old.now.gone))
