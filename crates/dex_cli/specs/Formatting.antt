-- What `format` does to its station.
use Rattle.std.specs.Prelude.{ℕ, ◌≡◌, ◌<◌, ◌⊎◌, List, [], length}
use Rattle.dsd_station.specs.Causes.{Rose}
use Rattle.dsd_station.specs.Disk.{Torn}
use Rattle.dsd_station.specs.Puts.{Goes}
use Rattle.dsd_station.specs.Told.{Told, IsSynced}
use Rattle.dsd_journal.specs.Devices.{Unfailed, Untouched}
use Rattle.dsd_journal.specs.Headers.{formatted}
use Rattle.dsd_journal.specs.JournalImage.{Holds}
use Rattle.dex_cli.specs.declared.format_words.NewJournal.{NewJournal}
use Rattle.dex_cli.specs.declared.verdict.Verdict.{Verdict}
use Rattle.dex_cli.specs.declared.verdict.Verdict.TheVariants as verdicts

-- Nothing was heard or spoken, the plan is as it was, and the record is the old one with calls behind it.
pub record IsSilent (before after : Told) : Type 0 where
  pub heard : after.heard ≡ before.heard
  pub gone : after.now.gone ≡ before.now.gone
  pub plan : after.plan ≡ before.plan
  pub goes : Goes before after

-- The station is attached to this journal, without a port.
pub record IsAttached (journal : List ℕ) (after : Told) : Type 0 where
  pub journal_name : after.journal_name ≡ journal
  pub port_name : after.port_name ≡ []

-- The station is attached to what it was.
pub record StaysAttached (before after : Told) : Type 0 where
  pub journal_name : after.journal_name ≡ before.journal_name
  pub port_name : after.port_name ≡ before.port_name

-- The journal was empty. Now it holds no entries, under the header of the words, and a stop from here on leaves just that.
pub record IsMade (new : NewJournal) (before after : Told) : Type 0 where
  pub silent : IsSilent before after
  pub attached : IsAttached new.journal after
  pub empty : before.journal ≡ []
  pub bytes : after.journal ≡ formatted new.header
  pub holds : Holds new.header [] after.journal
  pub synced : IsSynced after
  pub unfailed : Unfailed before after

-- The journal has so many bytes. It is as it was, and so is what stops may leave of it, also within the run.
pub record IsNotEmpty (new : NewJournal) (size : ℕ) (before after : Told) : Type 0 where
  pub silent : IsSilent before after
  pub attached : IsAttached new.journal after
  pub size_is : size ≡ length before.journal
  pub some : 0 < size
  pub untouched : Untouched before after
  pub unfailed : Unfailed before after

-- The station is attached. The journal is as it was, or it was empty and has at most 28 bytes, whichever they are.
pub record IsTorn (new : NewJournal) (before after : Told) : Type 0 where
  pub attached : IsAttached new.journal after
  pub journal : Untouched before after ⊎ ((before.journal ≡ []) × Torn 0 28 [] after.journal)

-- The station is attached to what it was, and nothing was touched.
pub record IsUnattached (before after : Told) : Type 0 where
  pub attached : StaysAttached before after
  pub untouched : Untouched before after

-- A call failed: the journal is attached and perhaps torn, or it is neither attached nor touched.
pub record IsFailed (new : NewJournal) (before after : Told) : Type 0 where
  pub silent : IsSilent before after
  pub left : IsTorn new before after ⊎ IsUnattached before after

-- what a station told before and after, and its count of faults before and after
pub record Served : Type 0 where
  pub before : Told
  pub after : Told
  pub faults : ℕ
  pub faults_after : ℕ

-- the same of a station as it was and is
abbrev pub served_of : {S : Type 0} → (S → Told) → (S → ℕ) → S → S → Served
served_of told faults old new = record { before = told old; after = told new; faults = faults old; faults_after = faults new }

-- What `format` comes to. Of content it says something where the station tells its content.
abbrev pub Formats : Type 0 → NewJournal → Served → Verdict → Type 0
Formats tells new served verdicts.StationFault = Rose served.faults served.faults_after × (tells → IsFailed new served.before served.after)
Formats tells new served verdicts.Formatted = tells → IsMade new served.before served.after
Formats tells new served (verdicts.NotEmpty size) = tells → IsNotEmpty new size served.before served.after
Formats tells new served _ = ⊥
