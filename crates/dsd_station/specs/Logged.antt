-- What a station in memory is seen as.
use Rattle.std.specs.Prelude.{ℕ, ◌-◌, ◌^◌, ◌≤◌, ◌≡◌, ◌⊎◌, min, List, [], ◌∷◌, ◌++◌, length, take, drop, Bool, true, false, if◌then◌else◌, Result, Err}
use Rattle.dsd_station.specs.declared.failed.Failed.{Failed}
use Rattle.dsd_station.specs.declared.call.Call.{Call}
use Rattle.dsd_station.specs.Causes.{Rose}
use Rattle.dsd_station.specs.Failures.{has_failed, failed_in}
use Rattle.dsd_station.specs.Feeds.{counted}
use Rattle.dsd_station.specs.Heard.{answers_in, said_in}
use Rattle.dsd_station.specs.Planned.{Plan, no_plan}
use Rattle.dsd_station.specs.Told.{Told}
use Rattle.dsd_station.specs.Replayed.{state_of, told_from, image_or, IsFine}
use Rattle.dsd_station.specs.ByPlan.{EachAnswered}

-- its record, its plan, how many of its calls failed, and whether one failed for want of memory
pub record Log : Type 0 where
  pub calls : List Call
  pub plan : Plan
  pub faults : ℕ
  pub starved : Bool

-- a new station
abbrev pub new_log : Log
new_log = record { calls = []; plan = no_plan; faults = 0; starved = false }

-- what it tells
abbrev pub told_by : Log → Told
told_by log = told_from (state_of log.calls) log.calls log.plan

abbrev pub image_by : Log → List ℕ
image_by log = image_or (state_of log.calls).left (state_of log.calls).journal

-- with one call more in the record
abbrev pub played : Log → Call → Log
played log call = record { calls = log.calls ++ call ∷ []; plan = log.plan; faults = if has_failed call then counted log.faults else log.faults; starved = log.starved }

-- after a call that failed for want of memory, which did nothing
abbrev pub starving : Log → Log
starving log = record { calls = log.calls; plan = log.plan; faults = counted log.faults; starved = true }

-- The call went so and answered this, or it failed for want of memory.
abbrev pub Plays : {T : Type 0} → Call → Result T Failed → Result T Failed → Log → Log → Type 0
Plays call answer result old new = ((new ≡ played old call) × (result ≡ answer)) ⊎ ((new ≡ starving old) × (result ≡ Err (record {})))

-- What holds of each station in memory. Each answer since the plan last changed is the one that the plan and the record before it
-- give. The faults are those of the record, and where one was for want of memory there is at least one more. Each image that a stop
-- left was one that it may leave. What was heard and what went out are the record's.
pub record IsPlayed (log : Log) : Type 0 where
  pub since : log.plan.since ≤ length log.calls
  pub answers : EachAnswered log.plan (take log.plan.since log.calls) (drop log.plan.since log.calls)
  pub faults : log.starved ≡ false → log.faults ≡ min (failed_in log.calls) (2 ^ 64 - 1)
  pub wanted : log.starved ≡ true → Rose (failed_in log.calls) log.faults
  pub fine : IsFine (state_of log.calls)
  pub heard : (state_of log.calls).heard ≡ answers_in log.calls
  pub said : (state_of log.calls).now.gone ≡ said_in log.calls

-- with a plan that begins at this moment
abbrev pub planned : Log → Plan → Log
planned log plan = record { calls = log.calls; plan = record { fed = plan.fed; failure = plan.failure; stop = plan.stop; since = length log.calls }; faults = log.faults; starved = log.starved }
