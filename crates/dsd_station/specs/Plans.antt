-- How the plan of a station in memory changes.
use Rattle.std.specs.Prelude.{ℕ, ◌==◌, [], ◌∷◌, ◌++◌, length, Some, None, if◌then◌else◌}
use Rattle.dsd_station.specs.declared.call.Pick.{Pick}
use Rattle.dsd_station.specs.declared.call.Call.TheVariants.{Restart}
use Rattle.dsd_station.specs.declared.feeding.Given.{Given}
use Rattle.dsd_station.specs.ByPlan.{fail_off, stop_off}
use Rattle.dsd_station.specs.Logged.{Log, played, planned}

-- this was fed
abbrev pub with_fed : Log → Given → Log
with_fed log given =
    planned log (record { fed = log.plan.fed ++ (record { given = given; at = length log.calls }) ∷ []; failure = log.plan.failure; stop = log.plan.stop; since = log.plan.since })

-- a failure was armed at the call of this number from here
abbrev pub with_failure : Log → ℕ → Log
with_failure log number =
    planned log (record { fed = log.plan.fed; failure = Some (record { number = number; at = length log.calls }); stop = log.plan.stop; since = log.plan.since })

abbrev pub with_stop : Log → ℕ → Pick → Log
with_stop log number pick =
    planned log (record { fed = log.plan.fed; failure = log.plan.failure; stop = Some (record { number = number; pick = pick; at = length log.calls }); since = log.plan.since })

-- what is armed and has not fallen was taken away
abbrev pub disarmed : Log → Log
disarmed log =
    planned log (record {
      fed = log.plan.fed;
      failure = if fail_off log.plan.failure log.calls == 0 then log.plan.failure else None;
      stop = if stop_off log.plan.stop log.calls == 0 then log.plan.stop else None;
      since = log.plan.since;
    })

-- The station works again, and what was fed is dropped.
abbrev pub after_restart : Log → Log
after_restart log = planned (played log Restart) (record { fed = []; failure = log.plan.failure; stop = log.plan.stop; since = log.plan.since })
