-- How the segments of a text are read, one after another, with the first fault that is met.
use Rattle.std.specs.Prelude.{ℕ, zero, suc, ◌+◌, Bool, not, ◌==◌, nat_lt, if◌then◌else◌, List, [], ◌∷◌, length, take, drop, Option, Some, None, Result, Ok, Err}
use Rattle.std.specs.List.{before_first, position_or_len, slice_split, slice_index_or}
use Rattle.segments.specs.Views.{Seg, Left}
use Rattle.segments.specs.SegmentSpelling.{is_inside, is_star, is_id}
use Rattle.segments.specs.declared.segment.TheConstants.{SEGMENT_BYTES, SEGMENT_ELEMENTS}
use Rattle.segments.specs.declared.segment_fault.SegmentFault.{SegmentFault}
use Rattle.segments.specs.declared.segment_fault.SegmentFault.TheVariants.{NoEnd, BadByte, BadId, TooLong, TooManyElements}

-- ---- the bytes, judged in order

-- neither an element character nor '*': here the segment ends, or is cut short
abbrev pub is_outside : ℕ → Bool
is_outside byte = not (is_inside byte)

-- how many bytes stand before the first that is outside
abbrev pub body_length : List ℕ → ℕ
body_length rest = position_or_len is_outside rest

-- so many bytes, where a segment may have them
abbrev pub limited : ℕ → ℕ → Result ℕ SegmentFault
limited start size = if nat_lt SEGMENT_BYTES size then Err (TooLong start) else Ok size

-- what follows a CR, before which so many bytes stand: the byte behind it decides
abbrev pub after_return : ℕ → ℕ → List ℕ → Result ℕ SegmentFault
after_return start size [] = Err (NoEnd start)
after_return start size (byte ∷ more) = if byte == 10 then limited start (size + 2) else Err (BadByte (start + size) 13)

-- what follows a body of so many bytes. A CR that is itself the 513th byte is one too many, whatever follows it
abbrev pub after_body : ℕ → ℕ → List ℕ → Result ℕ SegmentFault
after_body start size [] = Err (NoEnd start)
after_body start size (byte ∷ more) =
    if byte == 10 then limited start (size + 1)
    else (if byte == 13 then (if size == SEGMENT_BYTES then Err (TooLong start) else after_return start size more)
    else Err (BadByte (start + size) byte))

-- how many bytes the segment at the front takes, with its terminator
abbrev pub size_of : ℕ → List ℕ → Result ℕ SegmentFault
size_of start rest =
    if nat_lt SEGMENT_BYTES (body_length rest) then Err (TooLong start)
    else after_body start (body_length rest) (drop (body_length rest) rest)

-- ---- the parts

-- what stands before the terminator, cut at each '*'
unfoldable pub parts_of : List ℕ → List (List ℕ)
parts_of bytes = slice_split is_star (before_first is_outside bytes)

-- the id, and then the number of elements
abbrev pub with_parts : Seg → Result Seg SegmentFault
with_parts seg =
    if not (is_id (slice_index_or seg.parts 0 [])) then Err (BadId seg.start)
    else (if nat_lt (SEGMENT_ELEMENTS + 1) (length seg.parts) then Err (TooManyElements seg.start) else Ok seg)

-- the segment of these bytes
abbrev pub seg_at : ℕ → List ℕ → Seg
seg_at start bytes = record { start = start; bytes = bytes; parts = parts_of bytes }

-- the segment of the first bytes, where their number was found
abbrev pub with_size : ℕ → List ℕ → Result ℕ SegmentFault → Result Seg SegmentFault
with_size start rest (Err fault) = Err fault
with_size start rest (Ok size) = with_parts (seg_at start (take size rest))

-- the segment at the front of what is left
unfoldable pub first_of : ℕ → List ℕ → Result Seg SegmentFault
first_of start rest = with_size start rest (size_of start rest)

-- ---- one call of `next`

-- one segment, or the fault
abbrev pub some_of : Result Seg SegmentFault → Result (Option Seg) SegmentFault
some_of (Err fault) = Err fault
some_of (Ok seg) = Ok (Some seg)

-- the segment at the front, or none exactly where nothing is left
unfoldable pub next_of : Left → Result (Option Seg) SegmentFault
next_of left = if length left.rest == 0 then Ok None else some_of (first_of left.place left.rest)

-- what stands behind so many bytes
abbrev pub behind : Left → ℕ → Left
behind left size = record { rest = drop size left.rest; place = left.place + size }

-- what is left behind this answer
abbrev pub left_by : Left → Result (Option Seg) SegmentFault → Left
left_by left (Ok (Some seg)) = behind left (length seg.bytes)
left_by left (Ok None) = left
left_by left (Err fault) = left

-- a segment is passed over; after a fault and at the end the reader stays
unfoldable pub left_after : Left → Left
left_after left = left_by left (next_of left)

-- ---- a whole text

-- a reader at the front of a text
abbrev pub text_start : List ℕ → Left
text_start text = record { rest = text; place = 0 }

-- the segments that a text begins with, up to its end or to the first fault
pub record Cut : Type 0 where
  pub segments : List Seg
  pub fault : Option SegmentFault

-- one answer of `next`, and the cut of what is left then
abbrev pub onward : Result (Option Seg) SegmentFault → Cut → Cut
onward (Err fault) later = record { segments = []; fault = Some fault }
onward (Ok None) later = record { segments = []; fault = None }
onward (Ok (Some seg)) later = record { segments = seg ∷ later.segments; fault = later.fault }

-- the cut of what is left, by so many calls of `next` at most
unfoldable pub cut_in : ℕ → Left → Cut
cut_in zero left = record { segments = []; fault = None }
cut_in (suc calls) left = onward (next_of left) (cut_in calls (left_after left))

-- the cut of what is left: each segment takes a byte at least, so there are no more of them than bytes
unfoldable pub cut_left : Left → Cut
cut_left left = cut_in (length left.rest) left

-- the cut of a whole text
abbrev pub cut_of : List ℕ → Cut
cut_of text = cut_left (text_start text)
