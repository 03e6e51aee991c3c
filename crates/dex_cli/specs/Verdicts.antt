-- What a run may come to, by its words and what it read, and the statuses.
use Rattle.std.specs.Prelude.{◌≡◌, ◌⊎◌, ℕ, Bool, if◌then◌else◌, ◌+◌, ◌<◌, ◌≤◌, List, length, Option, Err}
use Rattle.std.specs.Io.KnownBytes.{Consumes, IsAtEnd}
use Rattle.std.specs.List.{list_any}
use Rattle.dsd_station.specs.Causes.{Rose, TakesUpTo}
use Rattle.dex_line.specs.Captured.{frames_in, is_refused}
use Rattle.transaction_set.specs.declared.set_fault.SetReason.TheVariants as set_reasons
use Rattle.dxs_envelope.specs.FirstFault.{told_of}
use Rattle.dsd_values.specs.declared.role.Role.{Role}
use Rattle.dsd_values.specs.declared.role.Role.TheVariants.{Supplier, Receiver}
use Rattle.dsd_record.specs.Choices.{Chooser}
use Rattle.dsd_record.specs.declared.draft_fault.DraftFault.TheVariants as faults
use Rattle.dsd_record.specs.declared.draft_fault.DraftReason.{DraftReason}
use Rattle.cable_world.specs.Reading.{script_of}
use Rattle.cable_world.specs.ScriptTexts.{Says as SaysScript}
use Rattle.cable_world.specs.declared.script.Script.{Script}
use Rattle.load_route.specs.Route.{route}
use Rattle.dex_handshake.specs.declared.session_end.SessionEnd.{SessionEnd}
use Rattle.dex_handshake.specs.declared.session_end.SessionEnd.TheVariants as sessions
use Rattle.end_report.specs.declared.ending.Ending.{Ending}
use Rattle.end_report.specs.declared.ending.Ending.TheVariants as session_endings
use Rattle.dsd_station.specs.Told.{Told}
use Rattle.dex_cli.specs.Ends.{Ends, HasRun, SaysChoices, SaysNoChoices}
use Rattle.dex_cli.specs.Summaries.{IsNoSet, IsSummary, IsSummedUp}
use Rattle.dex_cli.specs.Words.{Spells, IsOfNoJob}
use Rattle.dex_cli.specs.Formatting.{Served, Formats}
use Rattle.dex_cli.specs.Replaying.{IsReplayed, Worlds}
use Rattle.dex_cli.specs.Showing.{Shows}
use Rattle.dex_cli.specs.declared.job.TheConstants.{INPUT_BYTES}
use Rattle.dex_cli.specs.declared.end_words.EndNames.{EndNames}
use Rattle.dex_cli.specs.declared.refusal.Refusal.{Refusal}
use Rattle.dex_cli.specs.declared.refusal.Reason.TheVariants as reasons
use Rattle.dex_cli.specs.declared.text_summary.TextEnding.{TextEnding}
use Rattle.dex_cli.specs.declared.text_summary.TextEnding.TheVariants as endings
use Rattle.dex_cli.specs.declared.status.TheConstants.{DONE, OPEN, WORDS_REFUSED, INPUT_REFUSED, SOURCE_FAILED, STATION_FAILED, JOURNAL_REFUSED, SESSION_LOST, TOO_MUCH_HEARD, PARTNER_REFUSED, JOURNAL_FULL}
use Rattle.dex_cli.specs.declared.words.Job.{Job}
use Rattle.dex_cli.specs.declared.words.Job.TheVariants as jobs
use Rattle.dex_cli.specs.declared.words.CheckKind.{CheckKind}
use Rattle.dex_cli.specs.declared.words.CheckKind.TheVariants as checks
use Rattle.dex_cli.specs.declared.verdict.Verdict.{Verdict}
use Rattle.dex_cli.specs.declared.verdict.Verdict.TheVariants as verdicts

-- the source gave this input: all that it had, or its front up to the first byte past the limit
pub record IsInput (left after : Option (List ℕ)) (input : List ℕ) : Type 0 where
  pub taken : Consumes left after input
  pub few : length input ≤ INPUT_BYTES + 1
  pub whole : length input ≤ INPUT_BYTES → IsAtEnd after

-- longer than any input may be, and refused for that
pub record IsTooLong (input : List ℕ) (refusal : Refusal) : Type 0 where
  pub long : INPUT_BYTES < length input
  pub place_is : refusal.place ≡ INPUT_BYTES
  pub reason_is : refusal.reason ≡ reasons.Set set_reasons.Limit

-- What `check set` comes to.
abbrev pub ChecksSet : List ℕ → Verdict → Type 0
ChecksSet input (verdicts.Refused refusal) = IsTooLong input refusal ⊎ ((length input ≤ INPUT_BYTES) × IsNoSet input refusal.place refusal.reason)
ChecksSet input (verdicts.Set summary) = (length input ≤ INPUT_BYTES) × IsSummary input summary
ChecksSet input _ = ⊥

-- What `check text` comes to.
abbrev pub ChecksText : List ℕ → Verdict → Type 0
ChecksText input (verdicts.Refused refusal) = IsTooLong input refusal
ChecksText input (verdicts.Text text) = (length input ≤ INPUT_BYTES) × IsSummedUp (told_of input) text
ChecksText input _ = ⊥

-- What `check line` comes to: the frames are found when they are printed.
abbrev pub ChecksLine : List ℕ → Verdict → Type 0
ChecksLine input (verdicts.Refused refusal) = IsTooLong input refusal
ChecksLine input (verdicts.Line captured) = (length input ≤ INPUT_BYTES) × (captured.items ≡ input)
ChecksLine input _ = ⊥

-- What a check comes to.
abbrev pub Checks : CheckKind → List ℕ → Verdict → Type 0
Checks checks.Set input verdict = ChecksSet input verdict
Checks checks.Text input verdict = ChecksText input verdict
Checks checks.Line input verdict = ChecksLine input verdict

-- what was left in the source before and after, and its count of faults before and after
pub record Read : Type 0 where
  pub left : Option (List ℕ)
  pub after : Option (List ℕ)
  pub faults : ℕ
  pub faults_after : ℕ

-- the same of a source as it was and is
abbrev pub read_of : {S : Type 0} → (S → Option (List ℕ)) → (S → ℕ) → S → S → Read
read_of left faults old new = record { left = left old; after = left new; faults = faults old; faults_after = faults new }

-- The source failed, and gave no more than is asked for.
pub record IsUnread (read : Read) (verdict : Verdict) : Type 0 where
  pub verdict_is : verdict ≡ verdicts.SourceFault
  pub rose : Rose read.faults read.faults_after
  pub taken : TakesUpTo (INPUT_BYTES + 1) read.left read.after

-- The input was read, and this is the verdict on it.
pub record IsChecked (kind : CheckKind) (read : Read) (verdict : Verdict) : Type 0 where
  pub input : List ℕ
  pub read_is : IsInput read.left read.after input
  pub checks : Checks kind input verdict

-- The choices that an input says are refused.
abbrev pub IsNoChoice : Role → List ℕ → Refusal → Type 0
IsNoChoice role input refusal = (length input ≤ INPUT_BYTES) × ((reason : DraftReason) × (refusal.reason ≡ reasons.Draft reason) × SaysNoChoices role input refusal.place reason)

-- The input is refused, and the station was not used.
pub record IsRefusedInput (role : Role) (input : List ℕ) (served : Served) (verdict : Verdict) : Type 0 where
  pub refusal : Refusal
  pub verdict_is : verdict ≡ verdicts.Refused refusal
  pub refused : IsTooLong input refusal ⊎ IsNoChoice role input refusal
  pub unused : served.after ≡ served.before

-- The input says these choices, with which the end comes to this.
pub record IsServed (tells : Type 0) (role : Role) (names : EndNames) (input : List ℕ) (served : Served) (verdict : Verdict) : Type 0 where
  pub short : length input ≤ INPUT_BYTES
  pub chooser : Chooser
  pub says : SaysChoices role input chooser
  pub ends : Ends tells role chooser names served verdict

-- What the job of an end comes to by an input.
abbrev pub ServesInput : Type 0 → Role → EndNames → List ℕ → Served → Verdict → Type 0
ServesInput tells role names input served verdict = IsRefusedInput role input served verdict ⊎ IsServed tells role names input served verdict

-- The source failed, and the station was not used; or the input was read, and this is what the job of the end comes to by it.
abbrev pub ServesEnd : Type 0 → Role → EndNames → Read → Served → Verdict → Type 0
ServesEnd tells role names read served verdict = (IsUnread read verdict × (served.after ≡ served.before))
    ⊎ ((input : List ℕ) × IsInput read.left read.after input × ServesInput tells role names input served verdict)

-- The end ran by this input, whatever the job came to.
pub record RunsBy (role : Role) (names : EndNames) (input : List ℕ) (before after : Told) : Type 0 where
  pub short : length input ≤ INPUT_BYTES
  pub chooser : Chooser
  pub says : SaysChoices role input chooser
  pub run : HasRun role chooser names before after

-- The input was read, and the end ran by it.
abbrev pub HasServed : Role → EndNames → Read → Told → Told → Type 0
HasServed role names read before after = (input : List ℕ) × IsInput read.left read.after input × RunsBy role names input before after

-- The script that an input says is refused.
abbrev pub IsNoScript : List ℕ → Refusal → Type 0
IsNoScript input refusal = (length input ≤ INPUT_BYTES) × ((reason : DraftReason) × (refusal.reason ≡ reasons.Draft reason) × (script_of input ≡ Err (faults.Refused refusal.place reason)))

-- The input is refused, and the caller keeps the world that it had; or it says this script, which was played.
abbrev pub ReplaysInput : List ℕ → Worlds → Verdict → Type 0
ReplaysInput input worlds (verdicts.Refused refusal) = (IsTooLong input refusal ⊎ IsNoScript input refusal) × (worlds.after ≡ worlds.before)
ReplaysInput input worlds (verdicts.Replayed report) = (length input ≤ INPUT_BYTES) × ((script : Script) × SaysScript script input × IsReplayed script worlds report)
ReplaysInput input worlds _ = ⊥

-- The source failed, and the caller keeps the world that it had; or the input was read, and this is what the script comes to.
abbrev pub Replays : Read → Worlds → Verdict → Type 0
Replays read worlds verdict = (IsUnread read verdict × (worlds.after ≡ worlds.before)) ⊎ ((input : List ℕ) × IsInput read.left read.after input × ReplaysInput input worlds verdict)

-- What a `load` of so many deliveries comes to: their route was played.
abbrev pub Loads : ℕ → Worlds → Verdict → Type 0
Loads count worlds (verdicts.Loaded asked report) = (asked ≡ count) × IsReplayed (route count) worlds report
Loads count worlds _ = ⊥

-- What a job comes to, by what was read, what its station told, and the world that it left. A check, a `replay` and a `load` leave the station alone, and a `format`, a `show` and a `load` the source.
abbrev pub Does : Type 0 → Job → Read → Served → Worlds → Verdict → Type 0
Does tells (jobs.Check kind) read served worlds verdict = IsUnread read verdict ⊎ IsChecked kind read verdict
Does tells (jobs.Format new) read served worlds verdict = (read.after ≡ read.left) × Formats tells new served verdict
Does tells (jobs.Show journal) read served worlds verdict = (read.after ≡ read.left) × Shows tells journal served verdict
Does tells (jobs.Handheld names) read served worlds verdict = ServesEnd tells Supplier names read served verdict
Does tells (jobs.Receiver names) read served worlds verdict = ServesEnd tells Receiver names read served verdict
Does tells jobs.Replay read served worlds verdict = Replays read worlds verdict
Does tells (jobs.Load count) read served worlds verdict = (read.after ≡ read.left) × Loads count worlds verdict

-- The words are those of no job.
pub record IsNoJob (words : List (List ℕ)) (read : Read) (verdict : Verdict) : Type 0 where
  pub verdict_is : verdict ≡ verdicts.Words
  pub none : IsOfNoJob words
  pub unread : read.after ≡ read.left

-- The words are those of a job, and this is what it comes to.
pub record IsJobs (tells : Type 0) (words : List (List ℕ)) (read : Read) (served : Served) (worlds : Worlds) (verdict : Verdict) : Type 0 where
  pub job : Job
  pub spells : Spells job words
  pub does : Does tells job read served worlds verdict

-- What a run may come to.
abbrev pub MayCome : Type 0 → List (List ℕ) → Read → Served → Worlds → Verdict → Type 0
MayCome tells words read served worlds verdict = IsNoJob words read verdict ⊎ IsJobs tells words read served worlds verdict

-- what is printed is made for this verdict, and so takes memory; of each other verdict one line tells, always the same
abbrev pub IsComposed : Verdict → Type 0
IsComposed verdicts.Words = ⊥
IsComposed verdicts.SourceFault = ⊥
IsComposed verdicts.StationFault = ⊥
IsComposed verdicts.Formatted = ⊥
IsComposed _ = Unit {0}

-- a frame is damaged or bad
abbrev pub has_refused : List ℕ → Bool
has_refused bytes = list_any (λ frame. is_refused frame.1) (frames_in bytes)

abbrev pub status_of_line : List ℕ → ℕ
status_of_line captured = if has_refused captured then INPUT_REFUSED else DONE

abbrev pub status_at : TextEnding → ℕ
status_at endings.Whole = DONE
status_at (endings.Refused refusal) = INPUT_REFUSED

-- a session that is complete is done where all is final
abbrev pub status_of_session : SessionEnd → Bool → ℕ
status_of_session sessions.Complete settled = if settled then DONE else OPEN
status_of_session sessions.Silent settled = SESSION_LOST
status_of_session (sessions.TriesSpent block) settled = SESSION_LOST
status_of_session (sessions.PartnerRefused code) settled = PARTNER_REFUSED
status_of_session (sessions.WrongPartner id) settled = PARTNER_REFUSED
status_of_session sessions.TextLimit settled = TOO_MUCH_HEARD
status_of_session sessions.Unplugged settled = SESSION_LOST

abbrev pub status_of_end : Ending → Bool → ℕ
status_of_end (session_endings.Session end) settled = status_of_session end settled
status_of_end session_endings.Noise settled = TOO_MUCH_HEARD

-- a script that was played is done where all is final at both ends
abbrev pub status_of_world : Bool → ℕ
status_of_world all_final = if all_final then DONE else OPEN

abbrev pub status_of : Verdict → ℕ
status_of verdicts.Words = WORDS_REFUSED
status_of verdicts.SourceFault = SOURCE_FAILED
status_of verdicts.StationFault = STATION_FAILED
status_of (verdicts.Refused refusal) = INPUT_REFUSED
status_of (verdicts.Set summary) = DONE
status_of (verdicts.Text text) = status_at text.ending
status_of (verdicts.Line captured) = status_of_line captured.items
status_of verdicts.Formatted = DONE
status_of (verdicts.NotEmpty size) = JOURNAL_REFUSED
status_of (verdicts.Shown journal) = DONE
status_of (verdicts.NotAJournal place) = JOURNAL_REFUSED
status_of (verdicts.Ran report) = status_of_end report.ending report.settled
status_of (verdicts.Full length) = JOURNAL_FULL
status_of (verdicts.Replayed report) = status_of_world report.all_final
status_of (verdicts.Loaded count report) = status_of_world report.all_final
