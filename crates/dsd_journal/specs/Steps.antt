-- The four device calls of a flush: bytes behind a closed gate, made sure of, and then the open gate, made sure of.
use Rattle.std.specs.Prelude.{ℕ, ◌+◌, ◌≤◌, ◌≡◌, ◌⊎◌, List, [], ◌∷◌, ◌++◌, length, Result, OnOk, is_ok}
use Rattle.dsd_station.specs.declared.failed.Failed.{Failed}
use Rattle.dsd_station.specs.declared.call.Call.{Call}
use Rattle.dsd_station.specs.declared.call.Outcome.{Outcome}
use Rattle.dsd_station.specs.Disk.{overwritten, Torn}
use Rattle.dsd_station.specs.Rows.{Makes, put_calls}
use Rattle.dsd_station.specs.Told.{Told, IsSynced, EachStop}
use Rattle.dsd_journal.specs.declared.entry.Entry.{Entry}
use Rattle.dsd_journal.specs.declared.header.Header.{Header}
use Rattle.dsd_journal.specs.Devices.{Appends, KeepsTalk, Unfailed}
use Rattle.dsd_journal.specs.JournalImage.{open_gate, gate_place, body, spelled}
use Rattle.dsd_journal.specs.Journals.{Rests}

-- The bytes of a batch: the entries with open gates between them, and a closed one behind them.
abbrev pub batch_of : List Entry → List ℕ
batch_of [] = []
batch_of (first ∷ more) = body first ++ (spelled more ++ 0 ∷ [])

-- The image with these entries written behind the closed gate at this place, and then the gate opened. This project's profile.
abbrev pub with_batch : ℕ → List Entry → List ℕ → List ℕ
with_batch gate [] image = image
with_batch gate (first ∷ more) image = overwritten (overwritten image (gate + 1) (batch_of (first ∷ more))) gate (open_gate ∷ [])

-- the calls that put bytes behind the gate at this place, and open it
abbrev pub gate_calls : ℕ → List ℕ → List (Outcome → Call)
gate_calls gate bytes = put_calls (gate + 1) bytes ++ put_calls gate (open_gate ∷ [])

-- the calls of a flush of these entries: none where there are none
abbrev pub flush_calls : ℕ → List Entry → List (Outcome → Call)
flush_calls gate [] = []
flush_calls gate (first ∷ more) = gate_calls gate (batch_of (first ∷ more))

-- a stop leaves the bytes torn behind the gate, or the gate torn before them
abbrev pub TornInTwo : ℕ → List ℕ → List ℕ → List ℕ → Type 0
TornInTwo gate bytes old image = Torn (gate + 1) (length bytes) old image ⊎ Torn gate 1 (overwritten old (gate + 1) bytes) image

pub record Opened (gate : ℕ) (bytes : List ℕ) (result : Result (Unit {0}) Failed) (old new : Told) : Type 0 where
  pub keeps : KeepsTalk old new
  pub gone : new.now.gone ≡ old.now.gone
  pub syncs : new.syncs ≤ old.syncs + 2
  pub made : Makes (gate_calls gate bytes) (is_ok result) old new
  pub stops : EachStop old new (λ image out. TornInTwo gate bytes old.journal image × (out ≡ old.now.gone))
  pub ok : OnOk result ((new.journal ≡ overwritten (overwritten old.journal (gate + 1) bytes) gate (open_gate ∷ [])) × IsSynced new)

-- A flush of these entries, and whether it went well: then they stand behind the others in the bytes of a batch, each stop leaves them, and
-- none of its calls failed.
pub record Flushes {T E : Type 0} (header : Header) (entries added : List Entry) (result : Result T E) (old new : Told) : Type 0 where
  pub appends : Appends header entries added old new
  pub made : Makes (flush_calls (gate_place entries) added) (is_ok result) old new
  pub bytes : OnOk result (new.journal ≡ with_batch (gate_place entries) added old.journal)
  pub rests : OnOk result (Rests header (entries ++ added) new)
  pub unfailed : OnOk result (Unfailed old new)
