-- What is written of segments, and what a writer of them keeps. A segment is written in one spelling: its elements without the empty ones
-- at its end, CR LF, and 245 bytes with it at most (this project's profile).
use Rattle.std.specs.Prelude.{◌≡◌, ℕ, ◌+◌, ◌-◌, ◌<◌, ◌≤◌, List, [], ◌∷◌, ◌++◌, length, take, drop, Option, Some, None, Result, Ok, Err, All}
use Rattle.std.specs.List.{join_with_byte, slice_split}
use Rattle.segments.specs.Views.{Seg}
use Rattle.segments.specs.SegmentSpelling.{IsSegment, SpellsSegments, is_star}
use Rattle.segments.specs.declared.segment_write_fault.TheConstants.{SEGMENT_WRITTEN}
use Rattle.segments.specs.declared.segment_write_fault.SegmentWriteFault.{SegmentWriteFault}
use Rattle.segments.specs.declared.segment_write_fault.SegmentWriteFault.TheVariants.{LongSegment, Memory}

-- ---- the spelling

-- an element in front of others; an empty one counts only where others stand behind it
abbrev pub in_front : List ℕ → List (List ℕ) → List (List ℕ)
in_front [] [] = []
in_front [] (next ∷ more) = [] ∷ next ∷ more
in_front (byte ∷ part) more = (byte ∷ part) ∷ more

-- an id and elements without the empty ones at their end
abbrev pub without_empty_end : List (List ℕ) → List (List ℕ)
without_empty_end [] = []
without_empty_end (part ∷ more) = in_front part (without_empty_end more)

-- the text of a segment with this id and these elements, with CR LF
abbrev pub line_of : List (List ℕ) → List ℕ
line_of parts = join_with_byte 42 (without_empty_end parts) ++ 13 ∷ 10 ∷ []

-- the segment that is written of this id and these elements at this place
abbrev pub segment_of : ℕ → List (List ℕ) → Seg
segment_of place parts = record { start = place; bytes = line_of parts; parts = without_empty_end parts }

-- what is written as a segment: an id and at most 30 elements that take few enough bytes
pub record IsLine (parts : List (List ℕ)) : Type 0 where
  pub segment : IsSegment parts
  pub short : length (line_of parts) ≤ SEGMENT_WRITTEN

-- the lines, one after another
abbrev pub text_of : List (List (List ℕ)) → List ℕ
text_of [] = []
text_of (parts ∷ more) = line_of parts ++ text_of more

-- the segments that are written of them, from this place on
abbrev pub segments_of : ℕ → List (List (List ℕ)) → List Seg
segments_of place [] = []
segments_of place (parts ∷ more) = segment_of place parts ∷ segments_of (place + length (line_of parts)) more

-- a segment as it is written
pub record IsWritten (seg : Seg) : Type 0 where
  pub trimmed : without_empty_end seg.parts ≡ seg.parts
  pub spelled : seg.bytes ≡ join_with_byte 42 seg.parts ++ 13 ∷ 10 ∷ []
  pub short : length seg.bytes ≤ SEGMENT_WRITTEN

-- the text is some segments as they are written
pub record IsWrittenText (text : List ℕ) : Type 0 where
  pub segments : List Seg
  pub spelled : SpellsSegments 0 segments text
  pub written : All IsWritten segments

-- ---- what contracts see of a writer

pub record Written : Type 0 where
  -- the segments that are ended
  pub text : List ℕ
  -- the id and the elements of the one that is begun, where one is
  pub begun : Option (List (List ℕ))

-- the id and the elements of the segment that is begun
abbrev pub parts_of_begun : Option (List (List ℕ)) → List (List ℕ)
parts_of_begun (Some parts) = parts
parts_of_begun None = []

-- a segment with this id is begun
abbrev pub begun_with : List ℕ → Written → Written
begun_with id old = record { text = old.text; begun = Some (id ∷ []) }

-- the segment that is begun has one more element
abbrev pub given : List ℕ → Written → Written
given element old = record { text = old.text; begun = Some (parts_of_begun old.begun ++ element ∷ []) }

-- the segment that is begun is ended
abbrev pub ended : Written → Written
ended old = record { text = old.text ++ line_of (parts_of_begun old.begun); begun = None }

-- a line is refused with its length exactly where it is too long
abbrev pub Judges : {X : Type 0} → List ℕ → Result X SegmentWriteFault → Type 0
Judges line (Ok x) = length line ≤ SEGMENT_WRITTEN
Judges line (Err (LongSegment size)) = (SEGMENT_WRITTEN < length line) × (size ≡ length line)
Judges line (Err Memory) = length line ≤ SEGMENT_WRITTEN

-- whatever segments the text was, it is those and the one of these parts
abbrev pub Gains : List (List ℕ) → List ℕ → List ℕ → Type 0
Gains parts old new = (segments : List Seg) → SpellsSegments 0 segments old → SpellsSegments 0 (segments ++ segment_of (length old) parts ∷ []) new

-- ---- what a writer keeps

-- what stands behind the ended segments is the one that is begun
abbrev pub begun_in : List ℕ → Option (List (List ℕ))
begun_in [] = None
begun_in (byte ∷ more) = Some (slice_split is_star (byte ∷ more))

-- of a text, and where the segments that are ended end in it
abbrev pub written_in : List ℕ → ℕ → Written
written_in text place = record { text = take place text; begun = begun_in (drop place text) }

-- a segment that is begun, and where its last part that is not empty ends
pub record KeepsBegun (body : List ℕ) (filled : ℕ) : Type 0 where
  pub segment : IsSegment (slice_split is_star body)
  pub inside : filled ≤ length body
  pub front : take filled body ≡ join_with_byte 42 (without_empty_end (slice_split is_star body))

abbrev pub KeepsOpen : List ℕ → ℕ → Type 0
KeepsOpen [] filled = filled ≡ 0
KeepsOpen (byte ∷ more) filled = KeepsBegun (byte ∷ more) filled

-- a text, where the segments that are ended end in it, and where the last part that is not empty ends
pub record KeepsWriter (text : List ℕ) (place filled : ℕ) : Type 0 where
  pub inside : place ≤ length text
  pub ordered : place ≤ filled
  pub written : IsWrittenText (take place text)
  pub begun : KeepsOpen (drop place text) (filled - place)
