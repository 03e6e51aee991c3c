-- What the polls of an end do to what its station tells.
use Rattle.std.specs.Prelude.{◌≡◌, ◌+◌, ◌*◌, ◌<◌, ◌≤◌, Bool, true, false, List, [], ◌∷◌, ◌++◌, length, Option, Some, None, Result, Ok, Err}
use Rattle.dsd_record.specs.Choices.{Chooser}
use Rattle.dsd_station.specs.Puts.{Goes}
use Rattle.dsd_station.specs.Told.{Told}
use Rattle.dsd_station.specs.declared.call.Reception.{Reception}
use Rattle.dsd_station.specs.declared.call.Reception.TheVariants.{Piece, Silence, Cut}
use Rattle.dsd_end.specs.Patience.{patience}
use Rattle.dsd_end.specs.PollStep.{Along, Done, Next, bytes_of}
use Rattle.dsd_end.specs.PollsHeard.{receptions_of}
use Rattle.dsd_end.specs.Standings.{Standing}

-- Whatever a call answers: this was heard besides. The two names and the plan are as they were, no count of syncs falls, and the record is the
-- old one with calls behind it.
pub record KeepsHearing (more : List Reception) (old new : Told) : Type 0 where
  pub journal_name : new.journal_name ≡ old.journal_name
  pub port_name : new.port_name ≡ old.port_name
  pub heard : new.heard ≡ old.heard ++ more
  pub plan : new.plan ≡ old.plan
  pub syncs : old.syncs ≤ new.syncs
  pub goes : Goes old new

-- at most one thing was heard
pub record HearsOnce (old new : Told) : Type 0 where
  pub more : List Reception
  pub once : length more ≤ 1
  pub keeps : KeepsHearing more old new

pub record HearsMore (old new : Told) : Type 0 where
  pub more : List Reception
  pub keeps : KeepsHearing more old new

-- what was heard, if something was, has some byte where it is a piece
abbrev pub IsSomething : Option Reception → Type 0
IsSomething None = Unit {0}
IsSomething (Some (Piece bytes)) = 0 < length bytes
IsSomething (Some Silence) = Unit {0}
IsSomething (Some Cut) = Unit {0}

-- This was heard, and the bytes of what was done have gone out. There were at most two syncs for each own turn.
pub record HearsAndSays (heard : List Reception) (done : Done) (old new : Told) : Type 0 where
  pub listened : new.heard ≡ old.heard ++ heard
  pub gone : new.now.gone ≡ old.now.gone ++ bytes_of done
  pub syncs : new.syncs ≤ old.syncs + 2 * length done.loads

-- A poll that answers no fault is one step with what it heard.
pub record Polled (tells : Type 0) (chooser : Chooser) (old new : Standing) (before after : Told) : Type 0 where
  pub heard : Option Reception
  pub something : IsSomething heard
  pub done : Done
  pub next : Next chooser old heard done
  pub comes : done.standing ≡ new
  pub told : tells → HearsAndSays (receptions_of (heard ∷ [])) done before after

-- So are some polls, one after another, no more than there is patience for.
pub record PolledAlong (tells : Type 0) (chooser : Chooser) (old new : Standing) (before after : Told) : Type 0 where
  pub polls : List (Option Reception)
  pub most : length polls ≤ patience old
  pub done : Done
  pub along : Along chooser old polls done
  pub comes : done.standing ≡ new
  pub told : tells → HearsAndSays (receptions_of polls) done before after

abbrev pub failed_by : {T E : Type 0} → Result T E → Bool
failed_by (Ok value) = false
failed_by (Err fault) = true

-- with the supplier's first poll still to come or not, and a fault answered or not
abbrev pub with_flags : Standing → Bool → Bool → Standing
with_flags standing first failed = record standing { first = first; failed = failed }
