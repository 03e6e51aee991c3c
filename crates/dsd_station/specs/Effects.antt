-- What each call of a station does to what it tells.
use Rattle.std.specs.Prelude.{ℕ, ◌+◌, ◌<◌, ◌≤◌, ◌≡◌, ◌⊎◌, List, [], ◌∷◌, ◌++◌, length, take, drop, map, false, Result, Ok, Err, OnOk, OnErr, IfOk}
use Rattle.dsd_station.specs.declared.failed.Failed.{Failed}
use Rattle.dsd_station.specs.declared.station.Heard.{Heard}
use Rattle.dsd_station.specs.declared.station.Heard.TheVariants.{Bytes, Quiet, Unplugged}
use Rattle.dsd_station.specs.declared.call.Reception.{Reception}
use Rattle.dsd_station.specs.declared.call.Reception.TheVariants.{Piece, Silence, Cut}
use Rattle.dsd_station.specs.declared.call.Outcome.{Outcome}
use Rattle.dsd_station.specs.declared.call.Outcome.TheVariants.{Done, Failing, Stopped}
use Rattle.dsd_station.specs.declared.call.Call.{Call}
use Rattle.dsd_station.specs.declared.call.Call.TheVariants.{Attach, Write, Sync, Listen, Speak}
use Rattle.dsd_station.specs.Disk.{overwritten, Torn}
use Rattle.dsd_station.specs.Failures.{has_failed}
use Rattle.dsd_station.specs.Told.{Told, Moment}

-- All but the clock and the record is as here.
pub record Same (wanted new : Told) : Type 0 where
  pub journal_name : new.journal_name ≡ wanted.journal_name
  pub port_name : new.port_name ≡ wanted.port_name
  pub journal : new.journal ≡ wanted.journal
  pub heard : new.heard ≡ wanted.heard
  pub syncs : new.syncs ≡ wanted.syncs
  pub plan : new.plan ≡ wanted.plan

-- these with one meaning changed
abbrev pub with_names : Told → List ℕ → List ℕ → Told
with_names t journal port = record t { journal_name = journal; port_name = port }

abbrev pub with_journal : Told → List ℕ → Told
with_journal t journal = record t { journal = journal }

abbrev pub with_heard : Told → List Reception → Told
with_heard t heard = record t { heard = heard }

abbrev pub with_syncs : Told → ℕ → Told
with_syncs t syncs = record t { syncs = syncs }

-- The clock moved on through these moments to the last one.
pub record Passes (old new : Told) (during : List Moment) (last : Moment) : Type 0 where
  pub past : new.past ≡ old.past ++ old.now ∷ during
  pub now : new.now ≡ last

-- The clock stood.
pub record Stays (old new : Told) : Type 0 where
  pub past : new.past ≡ old.past
  pub now : new.now ≡ old.now

-- The record is the old one, or has this call at its end.
abbrev pub Adds : Call → Told → Told → Type 0
Adds call old new = (new.calls ≡ old.calls) ⊎ (new.calls ≡ old.calls ++ call ∷ [])

-- what a call that went so answers
abbrev pub answer_of : Outcome → Result (Unit {0}) Failed
answer_of Done = Ok tt
answer_of Failing = Err (record {})
answer_of (Stopped pick) = Err (record {})

-- the same of a call that may stop, which says of the record how it went
abbrev pub AddsAs : (Outcome → Call) → Result (Unit {0}) Failed → Told → Told → Type 0
AddsAs call result old new = (new.calls ≡ old.calls) ⊎ ((outcome : Outcome) × (result ≡ answer_of outcome) × (new.calls ≡ old.calls ++ call outcome ∷ []))

-- this moment with a write more, which is not synced
abbrev pub written : Moment → ℕ → List ℕ → Moment
written m at bytes = record { sure = m.sure; writes = m.writes ++ (at, bytes) ∷ []; gone = m.gone }

-- this moment with all of a journal made sure of
abbrev pub synced : Moment → List ℕ → Moment
synced m journal = record { sure = journal; writes = []; gone = m.gone }

-- this moment with more bytes gone out
abbrev pub sent : Moment → List ℕ → Moment
sent m bytes = record { sure = m.sure; writes = m.writes; gone = m.gone ++ bytes }

-- each first part of a list, from the empty one to all of it
abbrev pub prefixes : List ℕ → List (List ℕ)
prefixes [] = [] ∷ []
prefixes (x ∷ xs) = [] ∷ map (λ (p : List ℕ). x ∷ p) (prefixes xs)

-- the moments within a call that sends these bytes: at each, some first part of them has gone out
abbrev pub sending : Moment → List ℕ → List Moment
sending m bytes = map (sent m) (prefixes bytes)

-- An attachment sets the two names, and one that fails changes nothing. One that went well moved the clock.
pub record Attaches (its_journal its_port : List ℕ) (result : Result (Unit {0}) Failed) (old new : Told) : Type 0 where
  pub ok : OnOk result (Same (with_names old its_journal its_port) new)
  pub err : OnErr result (Same old new)
  pub time : Passes old new [] old.now ⊎ Stays old new
  pub moves : OnOk result (Passes old new [] old.now)
  pub calls : Adds (Attach its_journal its_port result) old new

-- A call that asks for the journal's length or for bytes of it changes nothing, also where it fails. One that went well moved the
-- clock.
pub record Reads (call : Call) (old new : Told) : Type 0 where
  pub same : Same old new
  pub time : Passes old new [] old.now ⊎ Stays old new
  pub moves : has_failed call ≡ false → Passes old new [] old.now
  pub calls : Adds call old new

-- n bytes of the journal from the place on stand at the front of the buffer, and what was behind stays. There is at least one, where
-- the buffer is not empty and the place is below the journal's size.
pub record ReadsFront (at n : ℕ) (journal before into : List ℕ) : Type 0 where
  pub front : into ≡ take n (drop at journal) ++ drop n before
  pub within : n ≤ length (drop at journal)
  pub some : at < length journal → 0 < length before → 0 < n

-- A write puts its bytes at its place. One that fails may have changed bytes of its range and past the old end. Its range counts as
-- written and not synced, unless it did nothing at all.
pub record Writes (at : ℕ) (bytes : List ℕ) (result : Result (Unit {0}) Failed) (old new : Told) : Type 0 where
  pub same : Same (with_journal old new.journal) new
  pub ok : OnOk result ((new.journal ≡ overwritten old.journal at bytes) × Passes old new [] (written old.now at bytes))
  pub torn : Torn at (length bytes) old.journal new.journal
  pub time : Passes old new [] (written old.now at bytes) ⊎ (Stays old new × (new.journal ≡ old.journal))
  pub calls : AddsAs (λ (outcome : Outcome). Write at bytes outcome) result old new

-- After a sync a stop leaves what a read gives. One that fails changes nothing that a read gives, and makes nothing sure.
pub record Syncs (result : Result (Unit {0}) Failed) (old new : Told) : Type 0 where
  pub ok : OnOk result (Same (with_syncs old (old.syncs + 1)) new × Passes old new [] (synced old.now old.journal))
  pub err : OnErr result (Same (with_syncs old new.syncs) new × (Passes old new [] old.now ⊎ Stays old new))
  pub count : (old.syncs ≤ new.syncs) × (new.syncs ≤ old.syncs + 1)
  pub calls : AddsAs (λ (outcome : Outcome). Sync outcome) result old new

-- what an answer says was heard, of the buffer behind it
abbrev pub heard_in : List ℕ → Heard → Reception
heard_in into (Bytes n) = Piece (take n into)
heard_in into Quiet = Silence
heard_in into Unplugged = Cut

-- the same of an answer that may be a failure
abbrev pub listened : List ℕ → Result Heard Failed → Result Reception Failed
listened into (Ok heard) = Ok (heard_in into heard)
listened into (Err failed) = Err failed

-- how many bytes of the buffer an answer speaks of
abbrev pub count_in : Heard → ℕ
count_in (Bytes n) = n
count_in Quiet = 0
count_in Unplugged = 0

-- the buffer is as it was but for the bytes that the answer speaks of
abbrev pub LeavesRest : Result Heard Failed → List ℕ → List ℕ → Type 0
LeavesRest (Ok heard) before into = drop (count_in heard) into ≡ drop (count_in heard) before
LeavesRest (Err failed) before into = into ≡ before

-- a piece has 1 to 64 bytes
abbrev pub IsPiece : Heard → Type 0
IsPiece (Bytes n) = (0 < n) × (n ≤ 64)
IsPiece Quiet = Unit {0}
IsPiece Unplugged = Unit {0}

-- A `listen` adds its answer to the list, and one that fails changes nothing. One that went well moved the clock.
pub record Listens (into : List ℕ) (result : Result Heard Failed) (old new : Told) : Type 0 where
  pub ok : IfOk result (λ heard. Same (with_heard old (old.heard ++ heard_in into heard ∷ [])) new)
  pub err : OnErr result (Same old new)
  pub time : Passes old new [] old.now ⊎ Stays old new
  pub moves : OnOk result (Passes old new [] old.now)
  pub calls : Adds (Listen (listened into result)) old new

-- A `speak` sends all its bytes, and one that fails some first part of them. At each moment within it some first part has gone out.
pub record Speaks (bytes : List ℕ) (result : Result (Unit {0}) Failed) (old new : Told) : Type 0 where
  pub same : Same old new
  pub ok : OnOk result (Passes old new (sending old.now bytes) (sent old.now bytes))
  pub err : OnErr result (((n : ℕ) × (n ≤ length bytes) × Passes old new (sending old.now bytes) (sent old.now (take n bytes))) ⊎ (Passes old new [] old.now ⊎ Stays old new))
  pub calls : AddsAs (λ (outcome : Outcome). Speak bytes outcome) result old new
