-- What a station was told beforehand, and what its port is due to give.
use Rattle.std.specs.Prelude.{ℕ, List, [], ◌∷◌, ◌++◌, length, take, drop, map, replicate, ◌==◌, if◌then◌else◌, Option, None}
use Rattle.dsd_station.specs.declared.feeding.Fed.{Fed}
use Rattle.dsd_station.specs.declared.feeding.Given.{Given}
use Rattle.dsd_station.specs.declared.feeding.Given.TheVariants.{Bytes, Quiet, Unplugged}
use Rattle.dsd_station.specs.declared.arming.ArmedFail.{ArmedFail}
use Rattle.dsd_station.specs.declared.arming.ArmedStop.{ArmedStop}
use Rattle.dsd_station.specs.declared.call.Reception.{Reception}
use Rattle.dsd_station.specs.declared.call.Reception.TheVariants.{Piece, Silence, Cut}

-- What was fed since the last restart, heard or not, in order; the last arming of each kind that was not disarmed; and the length
-- of the record when it was last fed, armed, disarmed or restarted.
pub record Plan : Type 0 where
  pub fed : List Fed
  pub failure : Option ArmedFail
  pub stop : Option ArmedStop
  pub since : ℕ

-- the plan of a new station, and of one that this project's calls know nothing of
abbrev pub no_plan : Plan
no_plan = record { fed = []; failure = None; stop = None; since = 0 }

-- One thing that the port is due to give: a byte, one time that nothing comes, or that the cable is unplugged.
pub data Due : Type 0 where
  DueByte : (byte : ℕ) → Due
  DueQuiet : Due
  DueCut : Due

abbrev pub dues_of : Given → List Due
dues_of (Bytes bytes) = map DueByte bytes
dues_of (Quiet times) = replicate times DueQuiet
dues_of Unplugged = DueCut ∷ []

-- the bytes that stand before the first thing that is no byte
abbrev pub leading : List Due → List ℕ
leading [] = []
leading (DueByte byte ∷ dues) = byte ∷ leading dues
leading (DueQuiet ∷ dues) = []
leading (DueCut ∷ dues) = []

-- What one `listen` answers: up to 64 of these bytes, or what stands before any byte. With nothing due nothing comes.
abbrev pub heard_of : List Due → Reception
heard_of [] = Silence
heard_of (DueByte byte ∷ dues) = Piece (take 64 (leading (DueByte byte ∷ dues)))
heard_of (DueQuiet ∷ dues) = Silence
heard_of (DueCut ∷ dues) = Cut

-- what is still due after that
abbrev pub left_due : List Due → List Due
left_due [] = []
left_due (DueByte byte ∷ dues) = drop (length (take 64 (leading (DueByte byte ∷ dues)))) (DueByte byte ∷ dues)
left_due (DueQuiet ∷ dues) = dues
left_due (DueCut ∷ dues) = dues

-- all that was fed while the record had this length
abbrev pub fed_at : List Fed → ℕ → List Due
fed_at [] at = []
fed_at (one ∷ fed) at = (if one.at == at then dues_of one.given else []) ++ fed_at fed at
