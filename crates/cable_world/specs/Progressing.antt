-- How far one end of a world has come by its steps, and what stands at its seat by then.
use Rattle.std.specs.Prelude.{◌≡◌, ℕ, Bool, true, false, List, [], ◌∷◌, ◌++◌, Option, Some, None}
use Rattle.std.specs.Option.{option_map}
use Rattle.dsd_values.specs.declared.role.Role.{Role}
use Rattle.dsd_record.specs.Choices.{Chooser}
use Rattle.dsd_station.specs.declared.call.Call.{Call}
use Rattle.dsd_station.specs.declared.call.Reception.{Reception}
use Rattle.dsd_station.specs.Heard.{answers_in, said_in}
use Rattle.dsd_station.specs.Logged.{image_by}
use Rattle.dsd_station.specs.Replayed.{IsFine, State, state_of}
use Rattle.dsd_station.specs.Told.{Told}
use Rattle.dsd_journal.specs.declared.entry.Entry.{Entry}
use Rattle.dsd_journal.specs.declared.header.Header.{Header}
use Rattle.dsd_journal.specs.JournalImage.{Holds}
use Rattle.dsd_end.specs.RunSoFar.{Runs}
use Rattle.dsd_end.specs.Standings.{Standing}
use Rattle.cable_world.specs.Diligence.{Follows, refused_in}
use Rattle.cable_world.specs.Holding.{HoldsLast}
use Rattle.cable_world.specs.Leaving.{AreUnwriting, BeginsRun, LeavesNothing, LeavesRuns, recorded, state_behind}
use Rattle.cable_world.specs.Living.{begins_run, is_opening}
use Rattle.cable_world.specs.Noted.{Noted, kind_of, step_of}
use Rattle.cable_world.specs.Players.{PlayerView, chooser_by}
use Rattle.cable_world.specs.SeatSteps.{told_of}
use Rattle.cable_world.specs.Seats.{SeatView}
use Rattle.cable_world.specs.Steps.{same_role}

-- an image holds at most one list
abbrev pub OneList : Type 0
OneList = (image : List ℕ) (one other : Header) (entries others : List Entry) → Holds one entries image → Holds other others image → (one ≡ other) × (entries ≡ others)

-- one of both ends: its role, whose its journal is, and its choices
pub record OneEnd : Type 0 where
  pub role : Role
  pub header : Header
  pub chooser : Chooser

-- the run that goes on: the entries with which it began, and what was heard and has gone out in it
pub record OpenRun : Type 0 where
  pub first : List Entry
  pub heard : List Reception
  pub gone : List ℕ

abbrev pub begun_by : List Entry → List Call → OpenRun
begun_by first part = record { first = first; heard = answers_in part; gone = said_in part }

abbrev pub longer : List Call → OpenRun → OpenRun
longer part run = record { first = run.first; heard = run.heard ++ answers_in part; gone = run.gone ++ said_in part }

-- How far an end has come: what its station's record comes to, where its table stands since it was opened, and its last run.
pub record Progress : Type 0 where
  pub state : State
  pub standing : Option Standing
  pub run : Option OpenRun

-- ---- by steps

-- an opening that answered Ok begins a run
pub record BeginsAnew (its : OneEnd) (old : Progress) (one : Noted) (new : Progress) : Type 0 where
  pub first : List Entry
  pub begins : BeginsRun its.role its.header old.state (step_of one) first
  pub run : new.run ≡ Some (begun_by first one.part)

-- another one writes and speaks nothing, and belongs to the run before it
pub record OpensNot (old : Progress) (one : Noted) (new : Progress) : Type 0 where
  pub unwriting : AreUnwriting old.state (recorded (step_of one))
  pub silent : said_in one.part ≡ []
  pub run : new.run ≡ option_map (longer one.part) old.run

-- Behind a poll each image that may be left holds a list with which the run so far is one.
pub record RunsFurther (its : OneEnd) (old : Progress) (one : Noted) (new : Progress) : Type 0 where
  pub run : OpenRun
  pub was : old.run ≡ Some run
  pub fine : IsFine new.state
  pub leaves : LeavesRuns its.role its.header run.first (run.heard ++ answers_in one.part) (run.gone ++ said_in one.part) new.state
  pub now : new.run ≡ Some (longer one.part run)

abbrev pub RunsBy : Bool → Bool → OneEnd → Progress → Noted → Progress → Type 0
RunsBy true opening its old one new = BeginsAnew its old one new
RunsBy false true its old one new = OpensNot old one new
RunsBy false false its old one new = RunsFurther its old one new

-- what a step of the end does
pub record ComesBehind (its : OneEnd) (old : Progress) (one : Noted) (new : Progress) : Type 0 where
  pub state : new.state ≡ state_behind old.state (step_of one)
  pub follows : Follows its.chooser its.header new.state.journal one.answer one.part old.standing new.standing
  pub runs : RunsBy (begins_run (step_of one)) (is_opening (kind_of one.answer)) its old one new

abbrev pub ComesIf : Bool → OneEnd → Progress → Noted → Progress → Type 0
ComesIf true its old one new = ComesBehind its old one new
ComesIf false its old one new = new ≡ old

-- by all of these steps, of which the other end's do nothing
abbrev pub ComesTo : OneEnd → Progress → List Noted → Progress → Type 0
ComesTo its old [] new = new ≡ old
ComesTo its old (one ∷ noted) new = (next : Progress) × ComesIf (same_role its.role one.role) its old one next × ComesTo its next noted new

-- ---- at a seat

-- This end runs at a station with these calls: the run is its own.
pub record IsPlaying (its : OneEnd) (standing : Option Standing) (run : Option OpenRun) (calls : List Call) (player : PlayerView) : Type 0 where
  pub chooser : chooser_by player.choices ≡ its.chooser
  pub header : player.standing.header ≡ its.header
  pub stands : standing ≡ Some player.standing
  pub open_run : OpenRun
  pub run_is : run ≡ Some open_run
  pub beginning : Told
  pub heard : (state_of calls).heard ≡ beginning.heard ++ open_run.heard
  pub gone : (state_of calls).now.gone ≡ beginning.now.gone ++ open_run.gone
  pub runs : Runs its.chooser open_run.first beginning player.standing (told_of calls)

-- what each image holds that may be left now: before the first run no entries
abbrev pub LeavesSo : OneEnd → Option OpenRun → State → Type 0
LeavesSo its None state = LeavesNothing its.header state
LeavesSo its (Some run) state = LeavesRuns its.role its.header run.first run.heard run.gone state

-- So the end of this seat stands, where it has come to this standing and this run.
pub record StandsSo (its : OneEnd) (standing : Option Standing) (run : Option OpenRun) (seat : SeatView) : Type 0 where
  pub fine : IsFine (state_of seat.log.calls)
  pub refused : refused_in standing ≡ seat.refused
  pub leaves : LeavesSo its run (state_of seat.log.calls)
  pub holds : HoldsLast its.header standing (image_by seat.log)
  pub plays : (player : PlayerView) → seat.player ≡ Some player → IsPlaying its standing run seat.log.calls player

abbrev pub progress_at : SeatView → Option Standing → Option OpenRun → Progress
progress_at seat standing run = record { state = state_of seat.log.calls; standing = standing; run = run }

-- However far the end of the old seat has come, by these steps it comes as far as the new seat has it.
abbrev pub ComesOn : OneEnd → SeatView → List Noted → SeatView → Type 0
ComesOn its old made new =
    (standing : Option Standing) (run : Option OpenRun) → StandsSo its standing run old
    → (last : Option Standing) × (later : Option OpenRun) × ComesTo its (progress_at old standing run) made (progress_at new last later) × StandsSo its last later new
