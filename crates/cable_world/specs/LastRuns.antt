-- How the last run of an end came out, as the steps show it.
use Rattle.std.specs.Prelude.{Bool, true, false, if◌then◌else◌, List, [], ◌∷◌}
use Rattle.std.specs.List.{list_any}
use Rattle.dsd_values.specs.declared.role.Role.{Role}
use Rattle.dsd_station.specs.declared.call.Call.{Call}
use Rattle.dsd_station.specs.declared.call.Call.TheVariants.{Attach, Size, Read, Write, Sync, Listen, Speak, Restart}
use Rattle.dsd_station.specs.declared.call.Outcome.{Outcome}
use Rattle.dsd_station.specs.declared.call.Outcome.TheVariants.{Done, Failing, Stopped}
use Rattle.dsd_end.specs.declared.fault.EndFault.{EndFault}
use Rattle.dsd_end.specs.declared.fault.EndFault.TheVariants as ends
use Rattle.end_report.specs.declared.ending.Ending.TheVariants as endings
use Rattle.end_report.specs.declared.ending.LastRun.{LastRun}
use Rattle.end_report.specs.declared.ending.LastRun.TheVariants as runs
use Rattle.cable_world.specs.Noted.{Noted}
use Rattle.cable_world.specs.Steps.{same_role}
use Rattle.cable_world.specs.declared.answer.Answer.{Answer}
use Rattle.cable_world.specs.declared.answer.Answer.TheVariants as answers

-- ---- a stop

abbrev pub is_stop : Outcome → Bool
is_stop Done = false
is_stop Failing = false
is_stop (Stopped pick) = true

abbrev pub has_stopped : Call → Bool
has_stopped (Attach journal port answer) = false
has_stopped (Size answer) = false
has_stopped (Read at room answer) = false
has_stopped (Write at bytes outcome) = is_stop outcome
has_stopped (Sync outcome) = is_stop outcome
has_stopped (Listen answer) = false
has_stopped (Speak bytes outcome) = is_stop outcome
has_stopped Restart = false

-- a stop fell in these calls
abbrev pub has_stop : List Call → Bool
has_stop calls = list_any has_stopped calls

-- ---- an answer

abbrev pub last_by_fault : EndFault → LastRun
last_by_fault (ends.Noise count) = runs.Ended endings.Noise
last_by_fault (ends.Full length) = runs.Full
last_by_fault ends.Station = runs.StationFault
last_by_fault ends.Failed = runs.StationFault
last_by_fault ends.Memory = runs.StationFault

-- where no stop fell
abbrev pub last_by : Answer → LastRun
last_by answers.Opened = runs.Running
last_by (answers.NotOpened fault) = runs.StationFault
last_by answers.Running = runs.Running
last_by (answers.Ended end) = runs.Ended (endings.Session end)
last_by (answers.Broken fault) = last_by_fault fault

-- ---- the last run

abbrev pub is_stopped : LastRun → Bool
is_stopped runs.Never = false
is_stopped runs.Stopped = true
is_stopped runs.StationFault = false
is_stopped runs.Full = false
is_stopped runs.Running = false
is_stopped (runs.Ended ending) = false

-- A stop fell earlier in the run to which this answer belongs. An opening begins another, also where it fails.
abbrev pub was_stopped : LastRun → Answer → Bool
was_stopped before answers.Opened = false
was_stopped before (answers.NotOpened fault) = false
was_stopped before answers.Running = is_stopped before
was_stopped before (answers.Ended end) = is_stopped before
was_stopped before (answers.Broken fault) = is_stopped before

-- behind a step of its end that answered so with these calls, where its last run had come out so before
abbrev pub last_behind : LastRun → Answer → List Call → LastRun
last_behind before answer part = if was_stopped before answer then runs.Stopped else (if has_stop part then runs.Stopped else last_by answer)

-- behind these steps
abbrev pub last_from : Role → LastRun → List Noted → LastRun
last_from role before [] = before
last_from role before (one ∷ noted) = last_from role (if same_role role one.role then last_behind before one.answer one.part else before) noted

abbrev pub last_run_of : Role → List Noted → LastRun
last_run_of role noted = last_from role runs.Never noted
