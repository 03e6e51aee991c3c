-- Where the parts of a segment end.
use Rattle.std.specs.Prelude.{◌≡◌, ℕ, ◌+◌, ◌-◌, ◌==◌, if◌then◌else◌, slice_index, ◌^◌, ◌<◌, ◌≤◌, All, List, [], ◌∷◌, length, take, Ok}
use Rattle.std.specs.Int.{bit_at}
use Rattle.segments.specs.SegmentSpelling.{IsPart, Spells, SpellsSegment}
use Rattle.segments.specs.SegmentCut.{body_length, first_of, parts_of, seg_at}
use Rattle.segments.specs.declared.segment.TheConstants.{SEGMENT_BYTES}

-- the places of the separators behind parts that begin at this place, and last the place behind them all
abbrev pub ends_from : ℕ → List (List ℕ) → List ℕ
ends_from place [] = []
ends_from place (part ∷ more) = (place + length part) ∷ ends_from (place + length part + 1) more

-- where the part with this number starts: behind the separator before it
abbrev pub start_of : List ℕ → ℕ → ℕ
start_of ends number = if number == 0 then 0 else slice_index ends (number - 1) + 1

-- the lowest bit that is set
abbrev pub IsFirstBit : ℕ → ℕ → Type 0
IsFirstBit bits first = (bit_at bits first ≡ 1) × ((k : ℕ) → k < first → bit_at bits k ≡ 0)

-- these bytes are their parts, joined, and a terminator, within the limit
pub record IsSpelled (bytes : List ℕ) : Type 0 where
  pub spelled : Spells (parts_of bytes) bytes
  pub characters : All IsPart (parts_of bytes)
  pub short : length bytes ≤ SEGMENT_BYTES

-- a segment in its spelling at this place, and where its parts end
pub record KeepsSegment (start : ℕ) (bytes ends : List ℕ) : Type 0 where
  pub spelled : SpellsSegment (seg_at start bytes)
  pub parted : ends ≡ ends_from 0 (parts_of bytes)
  pub placed : start + length bytes < 2 ^ 64

-- so many bytes of these stand before the first that is outside, and there their parts end, as far as there is room
pub record IsBodyOf (bytes : List ℕ) (size : ℕ) (ends : List ℕ) : Type 0 where
  pub stops : size ≡ body_length bytes
  pub parted : ends ≡ take 32 (ends_from 0 (parts_of bytes))

-- the first so many bytes of what is left are the segment at its front, and its parts end there
pub record IsJudged (start : ℕ) (rest ends : List ℕ) (size : ℕ) : Type 0 where
  pub inside : size ≤ length rest
  pub kept : KeepsSegment start (take size rest) ends
  pub first : first_of start rest ≡ Ok (seg_at start (take size rest))
