-- What a set adds.
use Rattle.std.specs.Prelude.{◌≡◌, ℕ, List, length, Option}
use Rattle.dsd_record.specs.Version.{Version}
use Rattle.dsd_record.specs.declared.set_view.SetView.{SetView}
use Rattle.dsd_journal.specs.declared.entry.Entry.{Entry}
use Rattle.dsd_journal.specs.declared.entry.EntryKind.TheVariants.{Took}
use Rattle.delivery_book.specs.declared.change.Change.{Change}
use Rattle.delivery_book.specs.Deeds.{number_in}
use Rattle.delivery_book.specs.Index.{IsMade, Stand, accepts, stand_after}

-- The entry, behind so many others, with its delivery as it stands behind the set.
pub record IsAdded (place : ℕ) (old : Option Stand) (added : Entry) (set : SetView) (change : Change) : Type 0 where
  pub entry : change.entry ≡ added
  pub number : change.number ≡ number_in set
  pub seen : Version
  pub made : IsMade old set seen
  pub delivery : change.delivery ≡ stand_after added.kind place (accepts set) seen old

abbrev pub IsTaken : List Entry → Option Stand → List ℕ → SetView → Change → Type 0
IsTaken entries old text set change = IsAdded (length entries) old (record { kind = Took; payload = text }) set change
