-- What is printed of a journal, as plain values.
use Rattle.std.specs.Prelude.{◌≡◌, ℕ, if◌then◌else◌, List, Option}
use Rattle.std.specs.List.{filter_map}
use Rattle.std.specs.Option.{option_map}
use Rattle.adjustment_895.specs.Grammar.{has_none}
use Rattle.dsd_record.specs.ReadSets.{set_in}
use Rattle.dsd_record.specs.declared.set_view.SetView.{SetView}
use Rattle.dsd_record.specs.declared.set_view.SetView.TheVariants as sets
use Rattle.dsd_journal.specs.declared.entry.Entry.{Entry}
use Rattle.dsd_journal.specs.declared.entry.EntryKind.{EntryKind}
use Rattle.dsd_journal.specs.declared.header.Header.{Header}
use Rattle.delivery_book.specs.Deeds.{check_in, number_in}
use Rattle.dex_cli.specs.declared.entry_summary.EntryForm.{EntryForm}
use Rattle.dex_cli.specs.declared.entry_summary.EntryForm.TheVariants as forms
use Rattle.dex_cli.specs.declared.entry_summary.EntrySummary.{EntrySummary}
use Rattle.dex_cli.specs.declared.journal_summary.JournalSummary.{JournalSummary}

-- its control number, as it stands
abbrev pub control_in : SetView → List ℕ
control_in (sets.Base base seal) = seal.control
control_in (sets.Answer answer seal) = seal.control

-- an answer without lines accepts the proposal that it names
abbrev pub entry_form : SetView → EntryForm
entry_form (sets.Base base seal) = forms.Base
entry_form (sets.Answer answer seal) = if has_none answer.lines then forms.Acceptance answer.level answer.check else forms.Adjustment answer.level

abbrev pub told_of : EntryKind → SetView → EntrySummary
told_of kind set = record { kind = kind; control = control_in set; number = number_in set; form = entry_form set; check = check_in set }

-- of an entry whose text is a set
abbrev pub entry_told : Entry → Option EntrySummary
entry_told entry = option_map (told_of entry.kind) (set_in entry.payload)

-- this is printed of a journal with this header and these entries
pub record IsToldOf (header : Header) (entries : List Entry) (journal : JournalSummary) : Type 0 where
  pub header_is : journal.header ≡ header
  pub entries_are : journal.entries.items ≡ filter_map entry_told entries
