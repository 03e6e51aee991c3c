-- Which calls of a station failed, and how many.
use Rattle.std.specs.Prelude.{ℕ, ◌+◌, List, [], ◌∷◌, Bool, true, false, if◌then◌else◌, Result, Ok, Err}
use Rattle.dsd_station.specs.declared.failed.Failed.{Failed}
use Rattle.dsd_station.specs.declared.call.Outcome.{Outcome}
use Rattle.dsd_station.specs.declared.call.Outcome.TheVariants.{Done, Failing, Stopped}
use Rattle.dsd_station.specs.declared.call.Call.{Call}
use Rattle.dsd_station.specs.declared.call.Call.TheVariants.{Attach, Size, Read, Write, Sync, Listen, Speak, Restart}

abbrev pub is_failing : Outcome → Bool
is_failing Done = false
is_failing Failing = true
is_failing (Stopped pick) = true

abbrev pub is_refused : {T : Type 0} → Result T Failed → Bool
is_refused (Ok answer) = false
is_refused (Err failed) = true

abbrev pub has_failed : Call → Bool
has_failed (Attach journal port answer) = is_refused answer
has_failed (Size answer) = is_refused answer
has_failed (Read at room answer) = is_refused answer
has_failed (Write at bytes outcome) = is_failing outcome
has_failed (Sync outcome) = is_failing outcome
has_failed (Listen answer) = is_refused answer
has_failed (Speak bytes outcome) = is_failing outcome
has_failed Restart = false

abbrev pub failed_in : List Call → ℕ
failed_in [] = 0
failed_in (call ∷ calls) = (if has_failed call then 1 else 0) + failed_in calls
