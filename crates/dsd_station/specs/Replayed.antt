-- What a record of calls comes to, over a new station in memory.
use Rattle.std.specs.Prelude.{ℕ, ◌+◌, ◌-◌, ◌/◌, ◌≡◌, List, [], ◌∷◌, ◌++◌, length, take, replicate, Option, Some, None, Ok, Err}
use Rattle.dsd_station.specs.declared.call.Pick.{Pick}
use Rattle.dsd_station.specs.declared.call.Pick.TheVariants.{Keep, Drop, Half}
use Rattle.dsd_station.specs.declared.call.Outcome.TheVariants.{Done, Failing, Stopped}
use Rattle.dsd_station.specs.declared.call.Reception.{Reception}
use Rattle.dsd_station.specs.declared.call.Call.{Call}
use Rattle.dsd_station.specs.declared.call.Call.TheVariants.{Attach, Size, Read, Write, Sync, Listen, Speak, Restart}
use Rattle.dsd_station.specs.Disk.{overwritten, MayLeave}
use Rattle.dsd_station.specs.Planned.{Plan}
use Rattle.dsd_station.specs.Told.{Told, Moment}
use Rattle.dsd_station.specs.Effects.{written, synced, sent, sending}

-- how many of n bytes a pick takes
abbrev pub taken : Pick → ℕ → ℕ
taken Keep n = n
taken Drop n = 0
taken Half n = n / 2

-- The bytes with the first n of these put over them from a place on. Where all of these would pass the end, the rest are zeros there.
abbrev pub applied : ℕ → ℕ → List ℕ → List ℕ → List ℕ
applied n at bytes old = overwritten (old ++ replicate (at + length bytes - length old) 0) at (take n bytes)

-- what a stop leaves of sure bytes and these writes, by one pick for each, the first of them first
abbrev pub picked : Pick → List ℕ → List (ℕ × List ℕ) → List ℕ
picked pick sure [] = sure
picked pick sure (write ∷ writes) = picked pick (applied (taken pick (length write.1)) write.0 write.1 sure) writes

-- What a record comes to. Pending are the writes that went well since the last sync that did, and left is the image that a stop left,
-- until a restart.
pub record State : Type 0 where
  pub journal_name : List ℕ
  pub port_name : List ℕ
  pub journal : List ℕ
  pub heard : List Reception
  pub past : List Moment
  pub now : Moment
  pub syncs : ℕ
  pub pending : List (ℕ × List ℕ)
  pub left : Option (List ℕ)

-- a new station
abbrev pub fresh : State
fresh = record { journal_name = []; port_name = []; journal = []; heard = []; past = []; now = record { sure = []; writes = []; gone = [] }; syncs = 0; pending = []; left = None }

-- one moment later
abbrev pub later : State → Moment → State
later s now = record s { past = s.past ++ s.now ∷ []; now = now }

-- after a call that sent bytes, the last moment being this one
abbrev pub spoke : State → List ℕ → Moment → State
spoke s bytes now = record s { past = s.past ++ s.now ∷ sending s.now bytes; now = now }

abbrev pub restarted : State → Option (List ℕ) → State
restarted s None = s
restarted s (Some image) = record (later s (record { sure = image; writes = []; gone = s.now.gone })) { journal = image; pending = []; left = None }

-- what one call comes to
abbrev pub step : State → Call → State
step s (Attach journal port (Ok done)) = record (later s s.now) { journal_name = journal; port_name = port }
step s (Attach journal port (Err failed)) = later s s.now
step s (Size answer) = later s s.now
step s (Read at room answer) = later s s.now
step s (Write at bytes Done) = record (later s (written s.now at bytes)) { journal = overwritten s.journal at bytes; pending = s.pending ++ (at, bytes) ∷ [] }
step s (Write at bytes Failing) = later s (written s.now at bytes)
step s (Write at bytes (Stopped pick)) = record (later s (written s.now at bytes)) { left = Some (picked pick s.now.sure (s.pending ++ (at, bytes) ∷ [])) }
step s (Sync Done) = record (later s (synced s.now s.journal)) { syncs = s.syncs + 1; pending = [] }
step s (Sync Failing) = record (later s s.now) { syncs = s.syncs + 1 }
step s (Sync (Stopped pick)) = record (later s s.now) { syncs = s.syncs + 1; left = Some (picked pick s.now.sure s.pending) }
step s (Listen (Ok answer)) = record (later s s.now) { heard = s.heard ++ answer ∷ [] }
step s (Listen (Err failed)) = later s s.now
step s (Speak bytes Done) = spoke s bytes (sent s.now bytes)
step s (Speak bytes Failing) = later s s.now
step s (Speak bytes (Stopped pick)) = record (spoke s bytes (sent s.now (take (taken pick (length bytes)) bytes))) { left = Some (picked pick s.now.sure s.pending) }
step s Restart = restarted s s.left

-- what these calls come to, the first of them first
abbrev pub replay : State → List Call → State
replay s [] = s
replay s (call ∷ calls) = replay (step s call) calls

abbrev pub state_of : List Call → State
state_of calls = replay fresh calls

-- what is told of a state, with its record and a plan
abbrev pub told_from : State → List Call → Plan → Told
told_from s calls plan = record {
  journal_name = s.journal_name;
  port_name = s.port_name;
  journal = s.journal;
  heard = s.heard;
  past = s.past;
  now = s.now;
  syncs = s.syncs;
  calls = calls;
  plan = plan;
}

-- the image that a stop left until the restart, and else the journal as a read gives it
abbrev pub image_or : Option (List ℕ) → List ℕ → List ℕ
image_or None journal = journal
image_or (Some image) journal = image

-- What a stop leaves by any pick, or left, is an image that the station allows just then. All of these have the journal's length.
pub record IsFine (s : State) : Type 0 where
  pub keeps : picked Keep s.now.sure s.pending ≡ s.journal
  pub may : (pick : Pick) → MayLeave s.now.sure s.now.writes (picked pick s.now.sure s.pending)
  pub long : (pick : Pick) → length (picked pick s.now.sure s.pending) ≡ length s.journal
  pub left : (image : List ℕ) → s.left ≡ Some image → MayLeave s.now.sure s.now.writes image
