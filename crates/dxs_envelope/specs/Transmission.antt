-- Which texts are a transmission, and of which sets: a header, any number of sets and a trailer, in every spelling that
-- is read (this project's profile).
use Rattle.std.specs.Prelude.{◌≡◌, ℕ, ◌+◌, ◌≤◌, true, List, [], ◌∷◌, ◌++◌, length, take, drop, map, All}
use Rattle.segments.specs.SegmentSpelling.{SpellsSegments}
use Rattle.segments.specs.SetUnits.{IsSet}
use Rattle.segments.specs.Views.{Seg, element_of}
use Rattle.dxs_envelope.specs.EnvelopeTable.{count_in, has_function, is_header, is_trailer}
use Rattle.dxs_envelope.specs.Views.{SetAt}

-- the segments of sets, one set after another
abbrev pub joined_sets : List (List Seg) → List Seg
joined_sets [] = []
joined_sets (set ∷ more) = set ++ joined_sets more

-- the segments of a transmission of these sets
pub record IsTransmission (sets : List (List Seg)) (segments : List Seg) : Type 0 where
  pub header : Seg
  pub trailer : Seg
  pub joined : segments ≡ header ∷ joined_sets sets ++ trailer ∷ []
  pub opened : is_header header ≡ true
  pub function : has_function header ≡ true
  pub each : All IsSet sets
  pub closed : is_trailer trailer ≡ true
  pub control : element_of trailer 1 ≡ element_of header 4
  pub count : count_in trailer ≡ length sets

-- the bytes of segments, one after another
abbrev pub bytes_of : List Seg → List ℕ
bytes_of [] = []
bytes_of (seg ∷ more) = seg.bytes ++ bytes_of more

-- where segments start
abbrev pub start_of : List Seg → ℕ
start_of [] = 0
start_of (seg ∷ more) = seg.start

-- a set by its segments
abbrev pub set_at : List Seg → SetAt
set_at segments = record { start = start_of segments; bytes = bytes_of segments }

-- the text is a transmission of these sets
pub record Envelope (sets : List SetAt) (text : List ℕ) : Type 0 where
  pub segments : List Seg
  pub parted : List (List Seg)
  pub spelled : SpellsSegments 0 segments text
  pub transmission : IsTransmission parted segments
  pub are : sets ≡ map set_at parted

-- the set stands in the text where it starts, behind whole segments, and is spelled there by the segments of one
pub record StandsIn (text : List ℕ) (set : SetAt) : Type 0 where
  pub before : List Seg
  pub behind : SpellsSegments 0 before (take set.start text)
  pub within : set.start + length set.bytes ≤ length text
  pub there : take (length set.bytes) (drop set.start text) ≡ set.bytes
  pub segments : List Seg
  pub spelled : SpellsSegments set.start segments set.bytes
  pub whole : IsSet segments
