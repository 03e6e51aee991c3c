-- Texts of sets in whole units of the line: what a block takes whole.
use Rattle.std.specs.Prelude.{◌≡◌, ℕ, ◌≤◌, false, true, ◌&&◌, if◌then◌else◌, List, [], ◌∷◌, ◌++◌, length, codes, All}
use Rattle.std.specs.List.{join_with_byte}
use Rattle.segments.specs.Views.{has_id}
use Rattle.segments.specs.SegmentSpelling.{SpellsSegments}
use Rattle.segments.specs.Views.{Seg}
use Rattle.segments.specs.declared.segment_write_fault.TheConstants.{SEGMENT_WRITTEN}

-- the segments of a set: an ST, any others, and the first SE behind it
pub record IsSet (segments : List Seg) : Type 0 where
  pub first : Seg
  pub inside : List Seg
  pub last : Seg
  pub joined : segments ≡ first ∷ inside ++ last ∷ []
  pub begins : has_id first (codes "ST") ≡ true
  pub goes_on : All (λ seg. has_id seg (codes "SE") ≡ false) inside
  pub ends : has_id last (codes "SE") ≡ true

-- the segment ends with CR LF
abbrev pub EndsInReturn : Seg → Type 0
EndsInReturn seg = seg.bytes ≡ join_with_byte 42 seg.parts ++ 13 ∷ 10 ∷ []

-- what a block of the line takes whole: a segment, but a G85 and the SE behind it together
abbrev pub units_of : List Seg → List (List ℕ)
units_of [] = []
units_of (seg ∷ []) = seg.bytes ∷ []
units_of (seg ∷ next ∷ more) =
    if has_id seg (codes "G85") && has_id next (codes "SE") then (seg.bytes ++ next.bytes) ∷ units_of more
    else seg.bytes ∷ units_of (next ∷ more)

-- the unit fits into a block
abbrev pub Fits : List ℕ → Type 0
Fits unit = length unit ≤ SEGMENT_WRITTEN

-- segments with CR LF, in units that fit
pub record AreUnits (segments : List Seg) : Type 0 where
  pub returns : All EndsInReturn segments
  pub fit : All Fits (units_of segments)

-- the text is such segments
pub record IsInUnits (text : List ℕ) : Type 0 where
  pub segments : List Seg
  pub spelled : SpellsSegments 0 segments text
  pub units : AreUnits segments

-- the text of a set from its ST through its only SE, in whole units that fit
pub record IsSetText (text : List ℕ) : Type 0 where
  pub segments : List Seg
  pub spelled : SpellsSegments 0 segments text
  pub set : IsSet segments
  pub units : AreUnits segments
