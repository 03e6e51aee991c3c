-- What steps of an end do to what its station tells.
use Rattle.std.specs.Prelude.{◌≡◌, ℕ, ◌+◌, ◌*◌, ◌≤◌, Bool, true, List, ◌++◌, length}
use Rattle.dsd_station.specs.Told.{Told, EachStop, IsSynced}
use Rattle.dsd_journal.specs.Devices.{KeepsTalk}
use Rattle.dsd_journal.specs.Journals.{Rests}
use Rattle.dsd_end.specs.EndCalls.{MakesCalls}
use Rattle.dsd_end.specs.PollStep.{Done, bytes_of}
use Rattle.dsd_end.specs.Standings.{Standing}

-- a front of these bytes has gone out
abbrev pub HasSent : List ℕ → List ℕ → List ℕ → Type 0
HasSent bytes gone out = (front : List ℕ) × (back : List ℕ) × (bytes ≡ front ++ back) × (out ≡ gone ++ front)

-- Bytes go out, as frames, over a journal of which all is sure: each stop leaves the journal, with a front of the bytes gone out.
pub record Says (bytes : List ℕ) (went : Bool) (old new : Told) : Type 0 where
  pub keeps : KeepsTalk old new
  pub made : MakesCalls old new
  pub syncs : new.syncs ≡ old.syncs
  pub journal : new.journal ≡ old.journal
  pub stops : EachStop old new (λ image out. (image ≡ old.journal) × HasSent bytes old.now.gone out)
  pub ok : went ≡ true → (new.now.gone ≡ old.now.gone ++ bytes) × IsSynced new

-- These bytes have gone out, and the journal holds the entries of this standing. There were at most two syncs for each own turn.
pub record HasDone (done : Done) (standing : Standing) (old new : Told) : Type 0 where
  pub gone : new.now.gone ≡ old.now.gone ++ bytes_of done
  pub syncs : new.syncs ≤ old.syncs + 2 * length done.loads
  pub rests : Rests standing.header standing.desk.entries new

-- An end goes by a step to this standing, and so does what its station tells.
pub record StepsTo (tells : Type 0) (Step : Done → Type 0) (standing : Standing) (old new : Told) : Type 0 where
  pub done : Done
  pub step : Step done
  pub comes : done.standing ≡ standing
  pub told : tells → HasDone done standing old new
