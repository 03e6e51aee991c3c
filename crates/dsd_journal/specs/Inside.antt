-- What contracts see of the fields of entries and of a journal, and what holds of them.
use Rattle.std.specs.Prelude.{◌-◌, ◌<◌, ◌≡◌, min, vec_len, vec_capacity}
use Rattle.dsd_journal.specs.declared.limits.TheConstants.{HEADER_BYTES, JOURNAL_BYTES}
use Rattle.dsd_journal.specs.declared.entries.Entries.TheInside.{Inside as EntriesInside}
use Rattle.dsd_journal.specs.JournalImage.{gate_place, EachFits}
use Rattle.dsd_journal.specs.Kept.{Shelf, places_from}

abbrev pub shelf_of : EntriesInside → Shelf
shelf_of e = record { list = e.list.items; room = min (vec_capacity e.list - vec_len e.list) (vec_capacity e.places - vec_len e.places) }

pub record IsShelf (e : EntriesInside) : Type 0 where
  pub places : e.places.items ≡ places_from HEADER_BYTES e.list.items
  pub gate : e.gate ≡ gate_place e.list.items
  pub below : e.gate < JOURNAL_BYTES
  pub each : EachFits e.list.items
