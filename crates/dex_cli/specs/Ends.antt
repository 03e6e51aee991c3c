-- What the job of an end does to its station, and what it comes to.
use Rattle.std.specs.Prelude.{◌≡◌, ◌⊎◌, ℕ, false, List, Ok, Err}
use Rattle.base_record_894.specs.BaseRecord.{BaseRecord}
use Rattle.dsd_values.specs.declared.role.Role.{Role}
use Rattle.dsd_values.specs.declared.role.Role.TheVariants.{Supplier, Receiver}
use Rattle.dsd_station.specs.Causes.{Rose}
use Rattle.dsd_station.specs.Effects.{Attaches}
use Rattle.dsd_station.specs.Told.{Told}
use Rattle.dsd_record.specs.Choices.{Chooser}
use Rattle.dsd_record.specs.declared.draft_fault.DraftFault.TheVariants as faults
use Rattle.dsd_record.specs.declared.draft_fault.DraftReason.{DraftReason}
use Rattle.dsd_journal.specs.declared.entry.Entry.{Entry}
use Rattle.dsd_journal.specs.declared.header.Header.{Header}
use Rattle.dsd_journal.specs.Devices.{Opens, since}
use Rattle.dsd_journal.specs.JournalImage.{Holds}
use Rattle.dsd_journal.specs.Journals.{Rests}
use Rattle.delivery_book.specs.BookImages.{IsBookRefused}
use Rattle.delivery_book.specs.Signing.{Legal}
use Rattle.dex_handshake.specs.LineTable.{Ended}
use Rattle.handheld_core.specs.Choosing.{supplier}
use Rattle.handheld_core.specs.DraftTexts.{Says as SaysDrafts}
use Rattle.handheld_core.specs.Reading.{drafts_of}
use Rattle.handheld_core.specs.declared.draft.Draft.{Draft}
use Rattle.receiver_core.specs.Choosing.{receiver}
use Rattle.receiver_core.specs.CountTexts.{Says as SaysCounts}
use Rattle.receiver_core.specs.Reading.{counts_of}
use Rattle.receiver_core.specs.declared.count.Count.{Count}
use Rattle.dsd_end.specs.EndFaults.{IsNoise}
use Rattle.dsd_end.specs.FullTurns.{RunFull}
use Rattle.dsd_end.specs.Polls.{HearsMore, PolledAlong, with_flags}
use Rattle.dsd_end.specs.RunSoFar.{Runs}
use Rattle.dsd_end.specs.Standings.{Standing, first_standing}
use Rattle.end_report.specs.Reports.{are_final, report_text}
use Rattle.end_report.specs.declared.ending.Ending.{Ending}
use Rattle.end_report.specs.declared.ending.Ending.TheVariants as endings
use Rattle.end_report.specs.declared.ending.LastRun.TheVariants as last_runs
use Rattle.dex_cli.specs.Formatting.{Served, StaysAttached}
use Rattle.dex_cli.specs.Showing.{LeavesAlone}
use Rattle.dex_cli.specs.declared.end_job.EndReport.{EndReport}
use Rattle.dex_cli.specs.declared.end_words.EndNames.{EndNames}
use Rattle.dex_cli.specs.declared.verdict.Verdict.{Verdict}
use Rattle.dex_cli.specs.declared.verdict.Verdict.TheVariants as verdicts

-- ---- the choices

-- The whole input says these choices: a supplier's drafts, or what a receiver counted.
abbrev pub SaysChoices : Role → List ℕ → Chooser → Type 0
SaysChoices Supplier input chooser = (drafts : List Draft) × SaysDrafts drafts input × (chooser ≡ supplier drafts)
SaysChoices Receiver input chooser = (counts : List Count) × SaysCounts counts input × (chooser ≡ receiver counts)

-- It says none, and is refused at this place for this reason.
abbrev pub SaysNoChoices : Role → List ℕ → ℕ → DraftReason → Type 0
SaysNoChoices Supplier input place reason = drafts_of input ≡ Err (faults.Refused place reason)
SaysNoChoices Receiver input place reason = counts_of input ≡ Err (faults.Refused place reason)

-- ---- the station

-- The station is attached to this journal and this port.
pub record IsPlugged (names : EndNames) (after : Told) : Type 0 where
  pub journal_name : after.journal_name ≡ names.journal
  pub port_name : after.port_name ≡ names.port

-- Nothing was written, heard or spoken. The station is attached to the journal and the port, or to what it was.
pub record IsIdle (names : EndNames) (before after : Told) : Type 0 where
  pub alone : LeavesAlone before after
  pub attached : IsPlugged names after ⊎ StaysAttached before after

-- An end that was opened: the header and the entries of its journal, and its station once it was attached, and once the journal was read.
pub record Opening : Type 0 where
  pub header : Header
  pub first : List Entry
  pub attached : Told
  pub opened : Told

-- The journal is this end's, and it holds these entries, which its signing rules allow. Before the journal was read nothing was written, heard or spoken.
pub record IsOpening (role : Role) (names : EndNames) (before : Told) (opening : Opening) : Type 0 where
  pub attaches : Attaches names.journal names.port (Ok tt) before opening.attached
  pub opens : Opens ⊥ opening.attached opening.opened
  pub own : opening.header.role ≡ role
  pub legal : Legal role opening.first
  pub holds : Holds opening.header opening.first before.journal

-- And from the end of the opening's sync on each stop leaves a run of these choices, over the entries that the journal held.
pub record IsRunning (role : Role) (chooser : Chooser) (names : EndNames) (opening : Opening) (standing : Standing) (before after : Told) : Type 0 where
  pub opening_is : IsOpening role names before opening
  pub plugged : IsPlugged names after
  pub hears : HearsMore opening.opened after
  pub runs : Runs chooser opening.first (since opening.attached) standing after

-- an end ran, whatever it came to
pub record HasRun (role : Role) (chooser : Chooser) (names : EndNames) (before after : Told) : Type 0 where
  pub opening : Opening
  pub standing : Standing
  pub running : IsRunning role chooser names opening standing before after

-- ---- what a session came to

-- The steps over what was heard led to this end; or to where so many bytes were heard that it was noise, while the session went on.
abbrev pub EndsSo : Ending → Type 0 → Chooser → Standing → Standing → Told → Told → Type 0
EndsSo (endings.Session end) tells chooser first last opened after = (last.line ≡ Ended end) × PolledAlong tells chooser first last opened after
EndsSo endings.Noise tells chooser first last opened after =
    ((count : ℕ) × IsNoise last count) × PolledAlong tells chooser first (with_flags last false false) opened after

-- This is printed of these entries and these drafts.
pub record IsReportOf (entries : List Entry) (drafts : List BaseRecord) (refused : ℕ) (ending : Ending) (report : EndReport) : Type 0 where
  pub text : report.text.items ≡ report_text entries drafts refused (last_runs.Ended ending)
  pub ending_is : report.ending ≡ ending
  pub settled : report.settled ≡ are_final entries drafts

-- the verdict that tells of this end
abbrev pub IsToldOfEnd : List Entry → List BaseRecord → ℕ → Ending → Verdict → Type 0
IsToldOfEnd entries drafts refused ending (verdicts.Ran report) = IsReportOf entries drafts refused ending report
IsToldOfEnd entries drafts refused ending _ = ⊥

-- It came to its end, or to noise, from the first standing to the last. This is printed of the entries that the last one has, which the journal holds then, and
-- which survive each stop.
pub record IsReported (tells : Type 0) (chooser : Chooser) (first last : Standing) (opened after : Told) (report : EndReport) : Type 0 where
  pub ends : EndsSo report.ending tells chooser first last opened after
  pub header : Header
  pub entries : List Entry
  pub own : entries ≡ last.desk.entries
  pub rests : tells → Rests header entries after
  pub report_is : IsReportOf entries chooser.drafts last.desk.refused report.ending report

-- What the polls of an end that was opened come to.
abbrev pub Polls : Type 0 → Chooser → Standing → Standing → Served → Verdict → Type 0
Polls tells chooser first last served verdicts.StationFault = Rose served.faults served.faults_after
Polls tells chooser first last served (verdicts.Ran report) = IsReported tells chooser first last served.before served.after report
Polls tells chooser first last served (verdicts.Full length) = RunFull chooser first length
Polls tells chooser first last served _ = ⊥

-- ---- what the job comes to

-- The end ran to the end of its session, or until what it heard was noise, and this is printed of it.
pub record IsRan (tells : Type 0) (role : Role) (chooser : Chooser) (names : EndNames) (before after : Told) (report : EndReport) : Type 0 where
  pub opening : Opening
  pub last : Standing
  pub running : tells → IsRunning role chooser names opening last before after
  pub reported : IsReported tells chooser (first_standing opening.header opening.first) last opening.opened after report

-- The end came to an own turn that adds an entry for which the journal has no room.
pub record IsFull (tells : Type 0) (role : Role) (chooser : Chooser) (names : EndNames) (before after : Told) (length : ℕ) : Type 0 where
  pub opening : Opening
  pub last : Standing
  pub running : tells → IsRunning role chooser names opening last before after
  pub full : RunFull chooser (first_standing opening.header opening.first) length

-- What the job comes to, once its choices are read. Of content it says something where the station tells its content.
abbrev pub Ends : Type 0 → Role → Chooser → EndNames → Served → Verdict → Type 0
Ends tells role chooser names served verdicts.StationFault =
    Rose served.faults served.faults_after × (tells → IsIdle names served.before served.after ⊎ HasRun role chooser names served.before served.after)
Ends tells role chooser names served (verdicts.NotAJournal place) = tells → IsBookRefused role served.before.journal place × IsIdle names served.before served.after
Ends tells role chooser names served (verdicts.Ran report) = IsRan tells role chooser names served.before served.after report
Ends tells role chooser names served (verdicts.Full length) = IsFull tells role chooser names served.before served.after length
Ends tells role chooser names served _ = ⊥
