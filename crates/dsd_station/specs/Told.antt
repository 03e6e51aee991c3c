-- What a station tells, as plain data, and the stops that it allows.
use Rattle.std.specs.Prelude.{ℕ, ◌≡◌, ◌⊎◌, List, [], ◌∷◌, ◌++◌, length, drop}
use Rattle.dsd_station.specs.declared.call.Reception.{Reception}
use Rattle.dsd_station.specs.declared.call.Call.{Call}
use Rattle.dsd_station.specs.Disk.{MayLeave}
use Rattle.dsd_station.specs.Planned.{Plan, no_plan}

-- One moment: the bytes that the last sync made sure of, the writes since in their order, and all bytes gone out.
pub record Moment : Type 0 where
  pub sure : List ℕ
  pub writes : List (ℕ × List ℕ)
  pub gone : List ℕ

-- All that a station tells: the names of its last attachment, the journal as a read gives it, the answers of its `listen`s, its
-- moments (those before this one with the newest last, and this one), how many syncs there were, its record and its plan.
pub record Told : Type 0 where
  pub journal_name : List ℕ
  pub port_name : List ℕ
  pub journal : List ℕ
  pub heard : List Reception
  pub past : List Moment
  pub now : Moment
  pub syncs : ℕ
  pub calls : List Call
  pub plan : Plan

-- what is said where nothing is told
abbrev pub nothing_told : Told
nothing_told =
    record { journal_name = []; port_name = []; journal = []; heard = []; past = []; now = record { sure = []; writes = []; gone = [] }; syncs = 0; calls = []; plan = no_plan }

-- the clock: the number of this moment
abbrev pub clock : Told → ℕ
clock told = length told.past

-- A stop at this moment may leave this image, with these bytes gone out.
pub record LeavesAt (moment : Moment) (image out : List ℕ) : Type 0 where
  pub image_of : MayLeave moment.sure moment.writes image
  pub gone_of : out ≡ moment.gone

-- the same at one of these moments
abbrev pub LeavesIn : List Moment → List ℕ → List ℕ → Type 0
LeavesIn [] image out = ⊥
LeavesIn (moment ∷ moments) image out = LeavesAt moment image out ⊎ LeavesIn moments image out

-- A stop at some moment from this number on may leave this image, with these bytes gone out.
abbrev pub Leaves : Told → ℕ → List ℕ → List ℕ → Type 0
Leaves told from image out = LeavesIn (drop from told.past) image out ⊎ LeavesAt told.now image out

-- Each pair that a stop at this moment may leave has P.
abbrev pub Allows : Moment → (List ℕ → List ℕ → Type 0) → Type 0
Allows moment P = (image out : List ℕ) → LeavesAt moment image out → P image out

abbrev pub EachAllows : List Moment → (List ℕ → List ℕ → Type 0) → Type 0
EachAllows [] P = Unit {0}
EachAllows (moment ∷ moments) P = Allows moment P × EachAllows moments P

-- Each pair that a stop at a moment after those of old may leave has P.
pub record EachStop (old new : Told) (P : List ℕ → List ℕ → Type 0) : Type 0 where
  pub during : List Moment
  pub past : new.past ≡ old.past ++ during
  pub each : EachAllows during P
  pub now : Allows new.now P

-- A stop at this moment leaves the journal as a read gives it, and nothing else.
pub record IsSynced (told : Told) : Type 0 where
  pub sure : told.now.sure ≡ told.journal
  pub writes : told.now.writes ≡ []

-- The journal as a read gives it is one of the images that a stop at this moment may leave.
abbrev pub ReadMayStay : Told → Type 0
ReadMayStay told = MayLeave told.now.sure told.now.writes told.journal
