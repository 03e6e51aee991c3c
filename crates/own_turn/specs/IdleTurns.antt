-- An own turn with nothing to do, and what is said of one that finds no memory.
use Rattle.std.specs.Prelude.{◌≡◌, ℕ, ◌+◌, ◌<◌, ◌^◌, List, [], ◌∷◌, ⊤, Result, Ok, Err}
use Rattle.base_record_894.specs.BaseRecord.{BaseRecord}
use Rattle.dsd_record.specs.Choices.{Chooser}
use Rattle.dsd_journal.specs.declared.entry.Entry.{Entry}
use Rattle.dsd_journal.specs.declared.header.Header.{Header}
use Rattle.delivery_book.specs.Deeds.{deeds_of}
use Rattle.delivery_book.specs.Standing.{IsNew}
use Rattle.own_turn.specs.OwnTurn.{Desk, awaiting, gathered, sets_lent}
use Rattle.own_turn.specs.declared.turn_fault.TurnFault.{TurnFault}
use Rattle.own_turn.specs.declared.turn_fault.TurnFault.TheVariants.{Full, Memory, Station}

-- no draft is tried, since the delivery of each is known
abbrev pub AreKnown : List BaseRecord → List Entry → Type 0
AreKnown [] entries = ⊤
AreKnown (draft ∷ drafts) entries = (IsNew draft.number (deeds_of entries) → ⊥) × AreKnown drafts entries

-- The text lends no set, no delivery awaits this end, and no draft is tried. One more refused set could be counted.
pub record AddsNothing (chooser : Chooser) (desk : Desk) (text : List ℕ) : Type 0 where
  pub lends : sets_lent text ≡ []
  pub counts : desk.refused + 1 < 2 ^ 64
  pub awaits : awaiting desk.entries ≡ []
  pub drafts : AreKnown chooser.drafts desk.entries

-- And nothing is gathered.
pub record IsIdle (header : Header) (chooser : Chooser) (desk : Desk) (text : List ℕ) : Type 0 where
  pub adds : AddsNothing chooser desk text
  pub gathers : gathered header desk ≡ []

-- what is said of a turn that finds no memory
abbrev pub IfNoMemory : {T : Type 0} → Result T TurnFault → Type 0 → Type 0
IfNoMemory (Ok load) P = Unit {0}
IfNoMemory (Err Station) P = Unit {0}
IfNoMemory (Err (Full n)) P = Unit {0}
IfNoMemory (Err Memory) P = P
