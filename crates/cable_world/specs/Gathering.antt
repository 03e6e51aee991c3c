-- Which bytes of a call have all gone out.
use Rattle.std.specs.Prelude.{ℕ, ◌==◌, Bool, true, false}
use Rattle.dsd_station.specs.declared.call.Outcome.{Outcome}
use Rattle.dsd_station.specs.declared.call.Outcome.TheVariants.{Done, Failing, Stopped}
use Rattle.dsd_station.specs.Replayed.{taken}

-- of a `speak` of so many bytes that went so
abbrev pub goes_whole : Outcome → ℕ → Bool
goes_whole Done n = true
goes_whole Failing n = false
goes_whole (Stopped pick) n = taken pick n == n
