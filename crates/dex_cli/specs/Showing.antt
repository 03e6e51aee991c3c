-- What `show` does to its station, and what it comes to.
use Rattle.std.specs.Prelude.{ℕ, ◌≡◌, ◌⊎◌, List, [], ◌∷◌, ◌++◌}
use Rattle.dsd_values.specs.declared.role.Role.{Role}
use Rattle.dsd_station.specs.declared.call.Call.{Call}
use Rattle.dsd_station.specs.declared.call.Call.TheVariants.{Attach, Read, Sync}
use Rattle.dsd_station.specs.Causes.{Rose}
use Rattle.dsd_station.specs.Told.{Told, EachStop, IsSynced, LeavesAt}
use Rattle.dsd_journal.specs.declared.entry.Entry.{Entry}
use Rattle.dsd_journal.specs.declared.header.Header.{Header}
use Rattle.dsd_journal.specs.Devices.{Unfailed}
use Rattle.dsd_journal.specs.FirstBad.{IsRefused}
use Rattle.dsd_journal.specs.JournalImage.{Holds}
use Rattle.delivery_book.specs.BookImages.{IsIllegal}
use Rattle.delivery_book.specs.Signing.{Legal}
use Rattle.dex_cli.specs.Formatting.{IsAttached, IsSilent, Served, StaysAttached}
use Rattle.dex_cli.specs.JournalSummaries.{IsToldOf}
use Rattle.dex_cli.specs.declared.journal_summary.JournalSummary.{JournalSummary}
use Rattle.dex_cli.specs.declared.verdict.Verdict.{Verdict}
use Rattle.dex_cli.specs.declared.verdict.Verdict.TheVariants as verdicts

-- ---- the station

-- each of these calls attaches, syncs or reads
abbrev pub ArePassive : List Call → Type 0
ArePassive [] = Unit {0}
ArePassive (Attach journal port answer ∷ calls) = ArePassive calls
ArePassive (Sync outcome ∷ calls) = ArePassive calls
ArePassive (Read at room answer ∷ calls) = ArePassive calls
ArePassive (_ ∷ calls) = ⊥

-- The record is the old one with such calls behind it.
pub record IsPassive (before after : Told) : Type 0 where
  pub more : List Call
  pub calls : after.calls ≡ before.calls ++ more
  pub each : ArePassive more

-- Nothing was written, heard or spoken. The journal is as it was, and each stop since leaves what one before might have left, or that.
pub record LeavesAlone (before after : Told) : Type 0 where
  pub silent : IsSilent before after
  pub passive : IsPassive before after
  pub journal : after.journal ≡ before.journal
  pub stops : EachStop before after (λ image out. LeavesAt before.now image out ⊎ ((image ≡ before.journal) × (out ≡ before.now.gone)))

-- The same, and the station is attached to this journal, or the attachment failed.
pub record LooksAt (journal : List ℕ) (before after : Told) : Type 0 where
  pub alone : LeavesAlone before after
  pub names : IsAttached journal after ⊎ StaysAttached before after

-- The journal was read: no call has failed, and a stop leaves it as it is.
pub record IsRead (journal : List ℕ) (before after : Told) : Type 0 where
  pub attached : IsAttached journal after
  pub synced : IsSynced after
  pub unfailed : Unfailed before after

-- ---- the journal

-- This is told of entries that are legal for the end whose journal it is. They are those of the image, where the station tells it.
pub record IsShown (tells : Type 0) (image : List ℕ) (journal : JournalSummary) : Type 0 where
  pub header : Header
  pub entries : List Entry
  pub legal : Legal header.role entries
  pub told : IsToldOf header entries journal
  pub holds : tells → Holds header entries image

-- The image holds no journal, or its entries are not legal for the end whose journal it is.
abbrev pub IsNotAJournal : List ℕ → ℕ → Type 0
IsNotAJournal image place = IsRefused image place ⊎ ((role : Role) × IsIllegal role image place)

-- the verdict that tells of this journal
abbrev pub IsShownOf : Header → List Entry → Verdict → Type 0
IsShownOf header entries (verdicts.Shown journal) = IsToldOf header entries journal
IsShownOf header entries _ = ⊥

-- ---- what it comes to

-- What a `show` comes to. Of content it says something where the station tells its content.
abbrev pub Shows : Type 0 → List ℕ → Served → Verdict → Type 0
Shows tells journal served verdicts.StationFault = Rose served.faults served.faults_after
Shows tells journal served (verdicts.Shown shown) = IsShown tells served.before.journal shown × (tells → IsRead journal served.before served.after)
Shows tells journal served (verdicts.NotAJournal place) = tells → IsNotAJournal served.before.journal place × IsRead journal served.before served.after
Shows tells journal served _ = ⊥
