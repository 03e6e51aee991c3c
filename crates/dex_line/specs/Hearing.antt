-- What a stream of bytes is heard as.
use Rattle.std.specs.Prelude.{◌≡◌, ℕ, List, [], ◌∷◌, ◌++◌, Option, Some, None}
use Rattle.std.specs.List.{fold}
use Rattle.dex_line.specs.FrameShapes.{FrameShape}
use Rattle.dex_line.specs.FrameSpelling.{IsBegun, Answers, IsSpoken}
use Rattle.dex_line.specs.Judging.{judge}

-- ---- as a relation: the frames of the definition

-- a first piece that is answered, where nothing shorter was
pub record IsAnswered (shape : FrameShape) (piece : List ℕ) : Type 0 where
  pub front : List ℕ
  pub last : ℕ
  pub whole : piece ≡ front ++ last ∷ []
  pub begun : IsBegun front
  pub answer : Answers piece (Some shape)

-- the bytes are pieces, each answered by a frame, and then a proper front of a spelling
abbrev pub HeardAs : List ℕ → List FrameShape → List ℕ → Type 0
HeardAs bytes [] rest = (bytes ≡ rest) × IsBegun rest
HeardAs bytes (shape ∷ shapes) rest =
    (piece : List ℕ) × (after : List ℕ) × IsAnswered shape piece × (bytes ≡ piece ++ after) × HeardAs after shapes rest

-- ---- as a function: one push after another

-- the bytes since the last answer, and the answers so far
pub record Hearing : Type 0 where
  pub begun : List ℕ
  pub shapes : List FrameShape

abbrev pub hearing : List ℕ → List FrameShape → Hearing
hearing begun shapes = record { begun = begun; shapes = shapes }

abbrev pub after_answer : List FrameShape → List ℕ → Option FrameShape → Hearing
after_answer shapes bytes None = hearing bytes shapes
after_answer shapes bytes (Some shape) = hearing [] (shapes ++ shape ∷ [])

-- one push
abbrev pub hear : Hearing → ℕ → Hearing
hear heard b = after_answer heard.shapes (heard.begun ++ b ∷ []) (judge (heard.begun ++ b ∷ []))

-- one piece of the stream
abbrev pub hear_all : Hearing → List ℕ → Hearing
hear_all heard bytes = fold hear heard bytes

abbrev pub nothing_heard : Hearing
nothing_heard = hearing [] []

abbrev pub AreSpoken : List FrameShape → Type 0
AreSpoken [] = Unit {0}
AreSpoken (shape ∷ more) = IsSpoken shape × AreSpoken more
