-- What due sets ask of a session, as it is kept: under the number of each delivery.
use Rattle.std.specs.Prelude.{ℕ, List, map}
use Rattle.own_turn.specs.DueSets.{Asked}
use Rattle.own_turn.specs.declared.asked.Asking.{Asking}

abbrev pub asked_as : List ℕ → Asking → Asked
asked_as number asking = record { number = number; times = asking.times; since = asking.since; met = asking.met; accepts = asking.accepts }

abbrev pub asked_in : List (List ℕ × Asking) → List Asked
asked_in entries = map (λ (entry : List ℕ × Asking). asked_as entry.0 entry.1) entries
