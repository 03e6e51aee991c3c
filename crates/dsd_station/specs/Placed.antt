-- What the fields of a station in memory have to do with its record and its plan.
use Rattle.std.specs.Prelude.{ℕ, ◌≤◌, ◌≡◌, List, [], ◌∷◌, length, Option, Some, None}
use Rattle.dsd_station.specs.declared.arming.ArmedFail.{ArmedFail}
use Rattle.dsd_station.specs.declared.arming.ArmedStop.{ArmedStop}
use Rattle.dsd_station.specs.declared.feeding.Fed.{Fed}
use Rattle.dsd_station.specs.declared.memory_station.MemoryStation.TheInside.{Inside}
use Rattle.dsd_station.specs.ByPlan.{due_by, fail_off, stop_off}
use Rattle.dsd_station.specs.Cursors.{due_at, IsIn}
use Rattle.dsd_station.specs.Logged.{Log, IsPlayed}

-- each was fed when the record was no longer than this
abbrev pub EachFedBy : ℕ → List Fed → Type 0
EachFedBy size [] = Unit {0}
EachFedBy size (one ∷ fed) = (one.at ≤ size) × EachFedBy size fed

abbrev pub FailArmedBy : ℕ → Option ArmedFail → Type 0
FailArmedBy size None = Unit {0}
FailArmedBy size (Some armed) = armed.at ≤ size

abbrev pub StopArmedBy : ℕ → Option ArmedStop → Type 0
StopArmedBy size None = Unit {0}
StopArmedBy size (Some armed) = armed.at ≤ size

-- what the fields tell
abbrev pub log_of : Inside → Log
log_of m = record { calls = m.tape; plan = record { fed = m.fed.items; failure = m.failure; stop = m.stop; since = m.since }; faults = m.faults; starved = m.starved }

pub record IsPlaced (m : Inside) : Type 0 where
  pub due : due_at m.fed.items m.cursor ≡ due_by m.fed.items m.tape
  pub inside : IsIn m.fed.items m.cursor
  pub fed : EachFedBy (length m.tape) m.fed.items
  pub failure : m.fail_in ≡ fail_off m.failure m.tape
  pub failure_at : FailArmedBy (length m.tape) m.failure
  pub stop : m.stop_in ≡ stop_off m.stop m.tape
  pub stop_at : StopArmedBy (length m.tape) m.stop
  pub played : IsPlayed (log_of m)
