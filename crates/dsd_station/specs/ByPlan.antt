-- The answer that the plan and the record before it give.
use Rattle.std.specs.Prelude.{ℕ, ◌+◌, ◌-◌, ◌≡◌, ◌==◌, min, List, [], ◌∷◌, ◌++◌, length, drop, Bool, true, false, if◌then◌else◌, Option, Some, None, is_some, Result, Ok, Err}
use Rattle.dsd_station.specs.declared.failed.Failed.{Failed}
use Rattle.dsd_station.specs.declared.arming.ArmedFail.{ArmedFail}
use Rattle.dsd_station.specs.declared.arming.ArmedStop.{ArmedStop}
use Rattle.dsd_station.specs.declared.feeding.Fed.{Fed}
use Rattle.dsd_station.specs.declared.call.Pick.{Pick}
use Rattle.dsd_station.specs.declared.call.Outcome.{Outcome}
use Rattle.dsd_station.specs.declared.call.Outcome.TheVariants.{Done, Failing, Stopped}
use Rattle.dsd_station.specs.declared.call.Call.{Call}
use Rattle.dsd_station.specs.declared.call.Call.TheVariants.{Attach, Size, Read, Write, Sync, Listen, Speak, Restart}
use Rattle.dsd_station.specs.Planned.{Plan, Due, heard_of, left_due, fed_at}
use Rattle.dsd_station.specs.Replayed.{state_of}

-- an arming counts the calls that write, sync or speak
abbrev pub is_counted : Call → Bool
is_counted (Attach journal port answer) = false
is_counted (Size answer) = false
is_counted (Read at room answer) = false
is_counted (Write at bytes outcome) = true
is_counted (Sync outcome) = true
is_counted (Listen answer) = false
is_counted (Speak bytes outcome) = true
is_counted Restart = false

abbrev pub counted_in : List Call → ℕ
counted_in [] = 0
counted_in (call ∷ calls) = (if is_counted call then 1 else 0) + counted_in calls

-- how many counted calls off the armed one is, the next one being 1; it has fallen, or never falls, at 0
abbrev pub still_off : ℕ → ℕ → List Call → ℕ
still_off number at calls = number - counted_in (drop at calls)

abbrev pub fail_off : Option ArmedFail → List Call → ℕ
fail_off None calls = 0
fail_off (Some armed) calls = still_off armed.number armed.at calls

abbrev pub stop_off : Option ArmedStop → List Call → ℕ
stop_off None calls = 0
stop_off (Some armed) calls = still_off armed.number armed.at calls

-- the pick of the stop that falls in the next counted call
abbrev pub stop_at : Option ArmedStop → List Call → Option Pick
stop_at None calls = None
stop_at (Some armed) calls = if still_off armed.number armed.at calls == 1 then Some armed.pick else None

-- A station that has stopped fails. A stop goes before a failure.
abbrev pub outcome_from : Bool → Option Pick → Bool → Outcome
outcome_from true stop fails = Failing
outcome_from false (Some pick) fails = Stopped pick
outcome_from false None true = Failing
outcome_from false None false = Done

-- how the next counted call goes
abbrev pub outcome_by : Plan → List Call → Outcome
outcome_by plan calls = outcome_from (is_some (state_of calls).left) (stop_at plan.stop calls) (fail_off plan.failure calls == 1)

-- what is due after a call of what was due before it
abbrev pub due_after : Call → List Due → List Due
due_after (Attach journal port answer) dues = dues
due_after (Size answer) dues = dues
due_after (Read at room answer) dues = dues
due_after (Write at bytes outcome) dues = dues
due_after (Sync outcome) dues = dues
due_after (Listen (Ok answer)) dues = left_due dues
due_after (Listen (Err failed)) dues = dues
due_after (Speak bytes outcome) dues = dues
due_after Restart dues = dues

-- what is due after these calls, the first of them made at this length of the record
abbrev pub due_from : List Fed → ℕ → List Call → List Due → List Due
due_from fed at [] dues = dues ++ fed_at fed at
due_from fed at (call ∷ calls) dues = due_from fed (at + 1) calls (due_after call (dues ++ fed_at fed at))

abbrev pub due_by : List Fed → List Call → List Due
due_by fed calls = due_from fed 0 calls []

-- this answer, unless the station has stopped
abbrev pub unless_stopped : {T : Type 0} → List Call → T → Result T Failed
unless_stopped calls answer = if is_some (state_of calls).left then Err (record {}) else Ok answer

-- the call with the answer that the plan and the record before it give
abbrev pub answered : Plan → List Call → Call → Call
answered plan calls (Attach journal port answer) = Attach journal port (unless_stopped calls tt)
answered plan calls (Size answer) = Size (unless_stopped calls (length (state_of calls).journal))
answered plan calls (Read at room answer) = Read at room (unless_stopped calls (min room (length (state_of calls).journal - at)))
answered plan calls (Write at bytes outcome) = Write at bytes (outcome_by plan calls)
answered plan calls (Sync outcome) = Sync (outcome_by plan calls)
answered plan calls (Listen answer) = Listen (unless_stopped calls (heard_of (due_by plan.fed calls)))
answered plan calls (Speak bytes outcome) = Speak bytes (outcome_by plan calls)
answered plan calls Restart = Restart

-- each of these calls, which come behind a record, has that answer
abbrev pub EachAnswered : Plan → List Call → List Call → Type 0
EachAnswered plan before [] = Unit {0}
EachAnswered plan before (call ∷ calls) = (call ≡ answered plan before call) × EachAnswered plan (before ++ call ∷ []) calls
