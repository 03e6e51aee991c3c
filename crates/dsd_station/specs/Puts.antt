-- A write and a sync behind it, over a journal of which all is sure.
use Rattle.std.specs.Prelude.{ℕ, ◌+◌, ◌≤◌, ◌≡◌, List, ◌++◌, length, Result, OnOk, is_ok}
use Rattle.dsd_station.specs.declared.failed.Failed.{Failed}
use Rattle.dsd_station.specs.declared.call.Call.{Call}
use Rattle.dsd_station.specs.Disk.{overwritten, Torn}
use Rattle.dsd_station.specs.Rows.{Makes, put_calls}
use Rattle.dsd_station.specs.Told.{Told, EachStop, IsSynced}

-- The record is the old one with calls behind it.
pub record Goes (old new : Told) : Type 0 where
  pub more : List Call
  pub calls : new.calls ≡ old.calls ++ more

-- The two names, the answers of `listen`, the bytes gone and the plan are as they were. The record has the write behind it, and where
-- that went well the sync. Each stop since the start leaves a journal that differs in the range alone, with the bytes gone as they were.
-- After an Ok the bytes stand there, and a stop leaves what a read gives.
pub record Puts (at : ℕ) (bytes : List ℕ) (result : Result (Unit {0}) Failed) (old new : Told) : Type 0 where
  pub journal_name : new.journal_name ≡ old.journal_name
  pub port_name : new.port_name ≡ old.port_name
  pub heard : new.heard ≡ old.heard
  pub gone : new.now.gone ≡ old.now.gone
  pub plan : new.plan ≡ old.plan
  pub syncs : (old.syncs ≤ new.syncs) × (new.syncs ≤ old.syncs + 1)
  pub made : Makes (put_calls at bytes) (is_ok result) old new
  pub stops : EachStop old new (λ image out. Torn at (length bytes) old.journal image × (out ≡ old.now.gone))
  pub ok : OnOk result ((new.journal ≡ overwritten old.journal at bytes) × IsSynced new)
