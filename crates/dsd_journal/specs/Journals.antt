-- A journal as contracts see it, and what its station has of it.
use Rattle.std.specs.Prelude.{ℕ, ◌+◌, ◌⊎◌, Bool, false, List, [], ◌∷◌, ◌++◌}
use Rattle.dsd_station.specs.Told.{Told, IsSynced}
use Rattle.dsd_journal.specs.declared.entry.Entry.{Entry}
use Rattle.dsd_journal.specs.declared.header.Header.{Header}
use Rattle.dsd_journal.specs.JournalImage.{gate_place, Holds}

-- Its header and entries, those that are staged behind them, the length of the longest payload that an append has room for, and whether it
-- works.
pub record View : Type 0 where
  pub header : Header
  pub entries : List Entry
  pub staged : List Entry
  pub spare : ℕ
  pub works : Bool

-- The station's journal holds the entries, and each stop leaves it as it is.
pub record Rests (header : Header) (entries : List Entry) (told : Told) : Type 0 where
  pub holds : Holds header entries told.journal
  pub synced : IsSynced told

-- the entries before, or these and all that were added
abbrev pub WithOrWithout : Header → List Entry → List Entry → List ℕ → Type 0
WithOrWithout header entries added image = Holds header entries image ⊎ Holds header (entries ++ added) image

-- how many bytes the journal would have with all that is staged, and behind it an entry with a payload of n bytes
abbrev pub length_with : View → ℕ → ℕ
length_with journal n = gate_place (journal.entries ++ journal.staged) + 7 + n

-- these with one thing changed
abbrev pub with_spare : View → ℕ → View
with_spare journal spare = record journal { spare = spare }

-- with an entry more, for which the room is used up
abbrev pub with_entry : View → Entry → View
with_entry journal entry = record journal { entries = journal.entries ++ entry ∷ []; spare = 0 }

-- the same of an entry that is staged
abbrev pub with_staged : View → Entry → View
with_staged journal entry = record journal { staged = journal.staged ++ entry ∷ []; spare = 0 }

-- all that was staged stands among the entries
abbrev pub flushed : View → View
flushed journal = record journal { entries = journal.entries ++ journal.staged; staged = [] }

-- what was staged is given up
abbrev pub with_none_staged : View → View
with_none_staged journal = record journal { staged = [] }

-- what was staged and the room are given up, and it works no more
abbrev pub without_work : View → View
without_work journal = record journal { staged = []; spare = 0; works = false }
