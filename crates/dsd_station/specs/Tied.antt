-- What the fields of a tape have to do with its record.
use Rattle.std.specs.Prelude.{ℕ, Bool, ◌≡◌, List, Some, None, if◌then◌else◌}
use Rattle.dsd_station.specs.Replayed.{State, state_of}
use Rattle.dsd_station.specs.declared.tape.Tape.TheInside.{Inside}

pub record IsTiedTo (state : State) (its_journal its_sure : List ℕ) (its_pending : List (ℕ × List ℕ)) (its_spoken : List ℕ) (stopped : Bool) (image : List ℕ) : Type 0 where
  pub journal : its_journal ≡ state.journal
  pub sure : its_sure ≡ state.now.sure
  pub pending : its_pending ≡ state.pending
  pub spoken : its_spoken ≡ state.now.gone
  pub left : state.left ≡ (if stopped then Some image else None)

abbrev pub IsTied : Inside → Type 0
IsTied t = IsTiedTo (state_of t.calls.items) t.journal.items t.sure.items t.pending.items t.spoken.items t.stopped t.image.items
