-- What a record says was heard, and what it says went out.
use Rattle.std.specs.Prelude.{ℕ, List, [], ◌∷◌, ◌++◌, length, take, Ok, Err}
use Rattle.dsd_station.specs.declared.call.Outcome.TheVariants.{Done, Failing, Stopped}
use Rattle.dsd_station.specs.declared.call.Reception.{Reception}
use Rattle.dsd_station.specs.declared.call.Call.{Call}
use Rattle.dsd_station.specs.declared.call.Call.TheVariants.{Attach, Size, Read, Write, Sync, Listen, Speak, Restart}
use Rattle.dsd_station.specs.Replayed.{taken}

-- the answers of one call
abbrev pub heard_by : Call → List Reception
heard_by (Attach journal port answer) = []
heard_by (Size answer) = []
heard_by (Read at room answer) = []
heard_by (Write at bytes outcome) = []
heard_by (Sync outcome) = []
heard_by (Listen (Ok answer)) = answer ∷ []
heard_by (Listen (Err failed)) = []
heard_by (Speak bytes outcome) = []
heard_by Restart = []

-- the bytes that one call sent
abbrev pub said_by : Call → List ℕ
said_by (Attach journal port answer) = []
said_by (Size answer) = []
said_by (Read at room answer) = []
said_by (Write at bytes outcome) = []
said_by (Sync outcome) = []
said_by (Listen answer) = []
said_by (Speak bytes Done) = bytes
said_by (Speak bytes Failing) = []
said_by (Speak bytes (Stopped pick)) = take (taken pick (length bytes)) bytes
said_by Restart = []

abbrev pub answers_in : List Call → List Reception
answers_in [] = []
answers_in (call ∷ calls) = heard_by call ++ answers_in calls

abbrev pub said_in : List Call → List ℕ
said_in [] = []
said_in (call ∷ calls) = said_by call ++ said_in calls
