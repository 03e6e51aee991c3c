-- Captured bytes of one direction, as frames with their places: every frame with the place of its first byte, up to the
-- first that is damaged or bad. A frame that has begun at the end of the bytes is bad.
use Rattle.std.specs.Prelude.{◌≡◌, ◌≢◌, ℕ, ◌+◌, ◌≤◌, Bool, true, false, if◌then◌else◌, List, [], ◌∷◌, ◌++◌, length, drop, Option, Some, None}
use Rattle.std.specs.List.{flat_map, list_any}
use Rattle.dex_line.specs.FrameShapes.{FrameShape, Enq, Ack0, Ack1, Nak, Eot, Header, Block, Damaged, Bad}
use Rattle.dex_line.specs.FrameSpelling.{spelling, Spelled}
use Rattle.dex_line.specs.Hearing.{Hearing, hear_all, nothing_heard}
use Rattle.dex_line.specs.Scanning.{quieted}

-- ---- as a relation: the frames of the definition

-- the bytes begin with a spelling of the frame, and these are behind it
abbrev pub BeginsWith : FrameShape → List ℕ → List ℕ → Type 0
BeginsWith shape bytes after = (piece : List ℕ) × Spelled shape piece × (bytes ≡ piece ++ after)

-- the bytes begin with a spelling of no frame
abbrev pub BeginsNone : List ℕ → Type 0
BeginsNone bytes = (shape : FrameShape) (after : List ℕ) → BeginsWith shape bytes after → ⊥

-- the first frame of the bytes, and what is then to be read: nothing behind one that is refused
abbrev pub IsFirstFrame : FrameShape → List ℕ → List ℕ → Type 0
IsFirstFrame Damaged bytes left = ((after : List ℕ) × BeginsWith Damaged bytes after) × (left ≡ [])
IsFirstFrame Bad bytes left = BeginsNone bytes × (bytes ≢ []) × (left ≡ [])
IsFirstFrame shape bytes left = BeginsWith shape bytes left

-- the frames of bytes whose first one has this place
abbrev pub FramesIn : ℕ → List ℕ → List (ℕ × FrameShape) → Type 0
FramesIn place bytes [] = bytes ≡ []
FramesIn place bytes (frame ∷ more) =
    (frame.0 ≡ place) × (left : List ℕ) × IsFirstFrame frame.1 bytes left × FramesIn (place + length (spelling frame.1)) left more

-- ---- as a function: what a scanner answers

-- a frame that ends the reading
abbrev pub is_refused : FrameShape → Bool
is_refused Enq = false
is_refused Ack0 = false
is_refused Ack1 = false
is_refused Nak = false
is_refused Eot = false
is_refused (Header text) = false
is_refused (Block last text) = false
is_refused Damaged = true
is_refused Bad = true

-- what is to be read behind a frame
abbrev pub left_behind : FrameShape → List ℕ → List ℕ
left_behind shape after = if is_refused shape then [] else after

-- each frame with its place, up to the first that is refused
abbrev pub with_places : ℕ → List FrameShape → List (ℕ × FrameShape)
with_places place [] = []
with_places place (shape ∷ more) =
    (place, shape) ∷ (if is_refused shape then [] else with_places (place + length (spelling shape)) more)

-- the answers to the bytes, and to a silence behind them
abbrev pub and_quiet : List FrameShape → Option FrameShape → List FrameShape
and_quiet shapes None = shapes
and_quiet shapes (Some shape) = shapes ++ shape ∷ []

abbrev pub answers_to : Hearing → List FrameShape
answers_to heard = and_quiet heard.shapes (quieted heard.begun)

unfoldable pub frames_from : ℕ → List ℕ → List (ℕ × FrameShape)
frames_from place bytes = with_places place (answers_to (hear_all nothing_heard bytes))

abbrev pub frames_in : List ℕ → List (ℕ × FrameShape)
frames_in bytes = frames_from 0 bytes

-- the join of the spellings of the frames, and what is behind it: nothing, where no frame is refused
pub record IsCoveredBy (bytes : List ℕ) (frames : List (ℕ × FrameShape)) : Type 0 where
  pub rest : List ℕ
  pub joined : bytes ≡ flat_map (λ frame. spelling frame.1) frames ++ rest
  pub whole : list_any (λ frame. is_refused frame.1) frames ≡ false → rest ≡ []

-- ---- one step of the reading

-- the first frame of the bytes, and how many of them it takes
pub record IsFrameOfSize (shape : FrameShape) (bytes : List ℕ) (size : ℕ) : Type 0 where
  pub inside : size ≤ length bytes
  pub first : IsFirstFrame shape bytes (left_behind shape (drop size bytes))
  pub counts : is_refused shape ≡ false → size ≡ length (spelling shape)
