-- The entries that are kept in memory, each with its place.
use Rattle.std.specs.Prelude.{ℕ, ◌+◌, List, [], ◌∷◌, length}
use Rattle.dsd_journal.specs.declared.entry.Entry.{Entry}
use Rattle.dsd_journal.specs.JournalImage.{body}

-- the places of the entries' kinds, where the first gate stands at this one
abbrev pub places_from : ℕ → List Entry → List ℕ
places_from gate [] = []
places_from gate (entry ∷ entries) = (gate + 1) ∷ places_from (gate + 1 + length (body entry)) entries

-- the entries, and for how many more there is room
pub record Shelf : Type 0 where
  pub list : List Entry
  pub room : ℕ
