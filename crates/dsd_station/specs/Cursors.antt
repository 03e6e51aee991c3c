-- What is due from a place in what was fed.
use Rattle.std.specs.Prelude.{ℕ, ◌+◌, ◌<◌, ◌≤◌, ◌≡◌, nat_lt, if◌then◌else◌, List, [], ◌∷◌, ◌++◌, length, drop}
use Rattle.dsd_station.specs.declared.feeding.Fed.{Fed}
use Rattle.dsd_station.specs.declared.feeding.Given.{Given}
use Rattle.dsd_station.specs.declared.feeding.Given.TheVariants.{Bytes, Quiet, Unplugged}
use Rattle.dsd_station.specs.declared.port.Cursor.{Cursor}
use Rattle.dsd_station.specs.declared.call.Reception.{Reception}
use Rattle.dsd_station.specs.declared.call.Reception.TheVariants.{Silence, Cut}
use Rattle.dsd_station.specs.Planned.{Due, dues_of}

abbrev pub due_of : List Fed → List Due
due_of [] = []
due_of (one ∷ fed) = dues_of one.given ++ due_of fed

-- the same without the first of what the first piece gives
abbrev pub due_behind : ℕ → List Fed → List Due
due_behind offset [] = []
due_behind offset (one ∷ fed) = drop offset (dues_of one.given) ++ due_of fed

-- what is due behind the pieces before the head, and so much of the head
abbrev pub due_at : List Fed → Cursor → List Due
due_at fed cursor = due_behind cursor.offset (drop cursor.head fed)

abbrev pub IsInPiece : ℕ → List Fed → Type 0
IsInPiece offset [] = offset ≡ 0
IsInPiece offset (one ∷ fed) = offset ≤ length (dues_of one.given)

pub record IsIn (fed : List Fed) (cursor : Cursor) : Type 0 where
  pub head : cursor.head ≤ length fed
  pub piece : IsInPiece cursor.offset (drop cursor.head fed)

-- so much of a piece is gone, and what comes next of it is no byte
abbrev pub IsMark : Given → ℕ → Type 0
IsMark (Bytes bytes) offset = ⊥
IsMark (Quiet times) offset = offset < times
IsMark Unplugged offset = offset ≡ 0

-- no byte is next
abbrev pub NoByteNext : ℕ → List Fed → Type 0
NoByteNext offset [] = Unit {0}
NoByteNext offset (one ∷ fed) = IsMark one.given offset

-- what a piece that gives no byte next gives
abbrev pub mark_of : Given → Reception
mark_of (Bytes bytes) = Silence
mark_of (Quiet times) = Silence
mark_of Unplugged = Cut

-- so many bytes of the rest of the head further
abbrev pub advanced : Cursor → ℕ → ℕ → Cursor
advanced at taken rest = if nat_lt taken rest then record { head = at.head; offset = at.offset + taken } else record { head = at.head + 1; offset = 0 }
