-- What the calls of a journal do to what its station tells.
use Rattle.std.specs.Prelude.{ℕ, ◌+◌, ◌<◌, ◌≤◌, ◌≡◌, ◌⊎◌, List, [], ◌∷◌, ◌++◌, length, Bool, false, Result, Ok, Err, OnOk, is_ok}
use Rattle.dsd_station.specs.declared.call.Call.{Call}
use Rattle.dsd_station.specs.declared.call.Call.TheVariants.{Size, Read, Sync}
use Rattle.dsd_station.specs.declared.call.Outcome.{Outcome}
use Rattle.dsd_station.specs.declared.failed.Failed.{Failed}
use Rattle.dsd_station.specs.Disk.{Torn}
use Rattle.dsd_station.specs.Failures.{failed_in}
use Rattle.dsd_station.specs.Puts.{Goes}
use Rattle.dsd_station.specs.Rows.{IsKept, IsRow, Makes, put_calls}
use Rattle.dsd_station.specs.Told.{Told, Moment, Allows, EachAllows, EachStop, IsSynced, LeavesAt}
use Rattle.dsd_journal.specs.declared.limits.TheConstants.{FORMATTED_BYTES}
use Rattle.dsd_journal.specs.declared.opening.OpenFault.{OpenFault}
use Rattle.dsd_journal.specs.declared.opening.OpenFault.TheVariants.{Station as NoStation}
use Rattle.dsd_journal.specs.declared.formatting.FormatFault.{FormatFault}
use Rattle.dsd_journal.specs.declared.formatting.FormatFault.TheVariants.{NotEmpty, Station}
use Rattle.dsd_journal.specs.declared.entry.Entry.{Entry}
use Rattle.dsd_journal.specs.declared.header.Header.{Header}
use Rattle.dsd_journal.specs.Headers.{formatted, IsHeader}
use Rattle.dsd_journal.specs.JournalImage.{Holds}
use Rattle.dsd_journal.specs.Journals.{WithOrWithout}

-- Whatever a call answers: the two names, the answers of `listen` and the plan are as they were, no count of syncs falls, and the record
-- is the old one with calls behind it. Of the bytes gone it says nothing.
pub record KeepsTalk (old new : Told) : Type 0 where
  pub journal_name : new.journal_name ≡ old.journal_name
  pub port_name : new.port_name ≡ old.port_name
  pub heard : new.heard ≡ old.heard
  pub plan : new.plan ≡ old.plan
  pub syncs : old.syncs ≤ new.syncs
  pub goes : Goes old new

-- The record is the old one with calls behind it, none of which has failed.
pub record Unfailed (old new : Told) : Type 0 where
  pub more : List Call
  pub calls : new.calls ≡ old.calls ++ more
  pub each : failed_in more ≡ 0

-- The journal and what stops may leave of it are as they were, also within the call.
pub record Untouched (old new : Told) : Type 0 where
  pub journal : new.journal ≡ old.journal
  pub now : new.now ≡ old.now
  pub stops : EachStop old new (LeavesAt old.now)

-- the call answered that the station failed
abbrev pub IsStationFault : {T : Type 0} → Result T OpenFault → Type 0
IsStationFault (Ok value) = ⊥
IsStationFault (Err fault) = fault ≡ NoStation

abbrev pub AreReads : List Call → Type 0
AreReads [] = Unit {0}
AreReads (Read at room answer ∷ calls) = AreReads calls
AreReads (_ ∷ calls) = ⊥

-- The record is the old one with reads behind it.
pub record ReadsOnly (old new : Told) : Type 0 where
  pub reads : List Call
  pub calls : new.calls ≡ old.calls ++ reads
  pub each : AreReads reads

-- A call that only looks at the journal changes nothing but the clock and the record. No call of the record has failed, unless this one has.
pub record Looks (failed : Type 0) (old new : Told) : Type 0 where
  pub keeps : KeepsTalk old new
  pub syncs : new.syncs ≡ old.syncs
  pub untouched : Untouched old new
  pub only : ReadsOnly old new
  pub unfailed : failed ⊎ Unfailed old new

-- The first moment since the old one is the end of a sync. Each stop from then on leaves the journal as a read gives it, and nothing
-- else. Of the station: after a sync a stop leaves what a read gives.
pub record SinceSync (old new : Told) : Type 0 where
  pub syncs : new.syncs ≡ old.syncs + 1
  pub during : List Moment
  pub past : new.past ≡ old.past ++ old.now ∷ during
  pub each : EachAllows during (λ image out. (image ≡ old.journal) × (out ≡ old.now.gone))
  pub now : Allows new.now (λ image out. (image ≡ old.journal) × (out ≡ old.now.gone))

-- The record has a sync behind it, and where that went well reads alone.
pub record SyncsAndReads (old new : Told) : Type 0 where
  pub went : Bool
  pub first : List Call
  pub reads : List Call
  pub calls : new.calls ≡ old.calls ++ (first ++ reads)
  pub sync : IsRow ((λ (outcome : Outcome). Sync outcome) ∷ []) went first
  pub each : AreReads reads
  pub ends : went ≡ false → reads ≡ []

-- An opening writes nothing. Each stop since its start leaves what one at its start might have left, or the journal as a read gives it.
-- From the end of its sync on it is the latter. Where that sync failed the opening has failed, and the journal is untouched.
pub record Opens (failed : Type 0) (old new : Told) : Type 0 where
  pub keeps : KeepsTalk old new
  pub gone : new.now.gone ≡ old.now.gone
  pub calls : SyncsAndReads old new
  pub journal : new.journal ≡ old.journal
  pub syncs : new.syncs ≤ old.syncs + 1
  pub stops : EachStop old new (λ image out. LeavesAt old.now image out ⊎ ((image ≡ old.journal) × (out ≡ old.now.gone)))
  pub later : (failed × Untouched old new) ⊎ SinceSync old new

-- What a write of a header and a sync do to an empty journal. After a failure a first part of it may be written, or other bytes.
pub record WritesHeader (header : Header) (result : Result (Unit {0}) Failed) (old new : Told) : Type 0 where
  pub keeps : KeepsTalk old new
  pub gone : new.now.gone ≡ old.now.gone
  pub syncs : new.syncs ≤ old.syncs + 1
  pub made : Makes (put_calls 0 (formatted header)) (is_ok result) old new
  pub ok : OnOk result ((new.journal ≡ formatted header) × IsHeader header × IsSynced new × Unfailed old new)
  pub torn : Torn 0 FORMATTED_BYTES [] new.journal

-- The record has the question for the size behind it. Where that is 0, and only there, a write of the header and a sync follow.
pub record AsksAndPuts (header : Header) (went : Bool) (old new : Told) : Type 0 where
  pub size : Result ℕ Failed
  pub first : List Call
  pub made : List Call
  pub calls : new.calls ≡ old.calls ++ (first ++ made)
  pub asked : IsKept (Size size) first []
  pub puts : ((size ≡ Ok 0) × IsRow (put_calls 0 (formatted header)) went made) ⊎ ((size ≡ Ok 0 → ⊥) × (made ≡ []))

-- A format writes over an empty journal alone.
pub record Formats (header : Header) (result : Result (Unit {0}) FormatFault) (old new : Told) : Type 0 where
  pub keeps : KeepsTalk old new
  pub gone : new.now.gone ≡ old.now.gone
  pub syncs : new.syncs ≤ old.syncs + 1
  pub calls : AsksAndPuts header (is_ok result) old new
  pub ok : OnOk result ((old.journal ≡ []) × (new.journal ≡ formatted header) × Holds header [] new.journal × IsSynced new)
  pub not_empty : (size : ℕ) → result ≡ Err (NotEmpty size) → (size ≡ length old.journal) × (0 < size) × Untouched old new
  pub station : result ≡ Err Station → Untouched old new ⊎ ((old.journal ≡ []) × Torn 0 FORMATTED_BYTES [] new.journal)
  pub unfailed : (result ≡ Err Station) ⊎ Unfailed old new

-- A call that adds these entries behind others: each stop since its start leaves the entries before, or these and all the new ones.
pub record Appends (header : Header) (entries added : List Entry) (old new : Told) : Type 0 where
  pub keeps : KeepsTalk old new
  pub gone : new.now.gone ≡ old.now.gone
  pub syncs : new.syncs ≤ old.syncs + 2
  pub stops : EachStop old new (λ image out. WithOrWithout header entries added image × (out ≡ old.now.gone))

-- what is told at the moment behind this one, from which on `SinceSync` speaks
abbrev pub since : Told → Told
since told = record told { past = told.past ++ told.now ∷ [] }
