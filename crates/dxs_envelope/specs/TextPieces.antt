-- What a stream of parts keeps of a text that comes in pieces, and what it tells.
use Rattle.std.specs.Prelude.{◌≡◌, ℕ, ◌-◌, ◌+◌, ◌<◌, ◌≤◌, List, [], ◌∷◌, ◌++◌, length, take, drop, Option, Some, None, Result, Ok, IfOk, IfErr}
use Rattle.segments.specs.Streaming.{Stream, after_piece, ahead, reached, stream_start}
use Rattle.segments.specs.Views.{Seg}
use Rattle.segments.specs.declared.segment_fault.SegmentFault.{SegmentFault}
use Rattle.dxs_envelope.specs.TextParts.{Course, PartAt, Parts, after_segment, answered, course_start, fault_at, found_at, kind_at, no_parts, parts_behind, parts_left, unless_refused}
use Rattle.dxs_envelope.specs.declared.fault.EnvelopeFault.{EnvelopeFault}
use Rattle.dxs_envelope.specs.declared.fault.EnvelopeReason.TheVariants as reasons
use Rattle.dxs_envelope.specs.declared.text_course.PartKind.{PartKind}
use Rattle.dxs_envelope.specs.declared.text_stream.Part.{Part}
use Rattle.dxs_envelope.specs.declared.text_stream.Part.TheVariants as parts
use Rattle.dxs_envelope.specs.declared.text_course.PartKind.TheVariants as kinds

-- ---- a part that is lent

abbrev pub part_seen : Part → PartAt
part_seen (parts.Header seg) = record { kind = kinds.Header; segment = seg }
part_seen (parts.InSet seg) = record { kind = kinds.InSet; segment = seg }
part_seen (parts.SetEnd seg) = record { kind = kinds.SetEnd; segment = seg }
part_seen (parts.Trailer seg) = record { kind = kinds.Trailer; segment = seg }

abbrev pub some_part_seen : Option Part → Option PartAt
some_part_seen None = None
some_part_seen (Some part) = Some (part_seen part)

-- ---- a stream

-- the course of the segments that have ended, the stream of segments, and the part that the last byte ended
pub record TextAt : Type 0 where
  pub course : Course
  pub segments : Stream
  pub told : Option PartAt

-- the segment that was told, as a part of this kind
abbrev pub part_of : Option PartKind → Option Seg → Option PartAt
part_of None seg = None
part_of (Some kind) None = None
part_of (Some kind) (Some seg) = Some (record { kind = kind; segment = seg })

abbrev pub text_at : Course → Stream → Option PartKind → TextAt
text_at course segments kind = record { course = course; segments = segments; told = part_of kind segments.told }

-- a stream that nothing was taken by
abbrev pub text_begun : TextAt
text_begun = text_at course_start stream_start None

-- a segment that cannot be read is a fault where it starts
abbrev pub failed : Course → Stream → SegmentFault → Course
failed course new fault = record { standing = course.standing; fault = Some (fault_at new.begun.place (reasons.Segment fault)) }

-- a part is told of a segment that is not refused
abbrev pub kind_unless : Option EnvelopeFault → PartKind → Option PartKind
kind_unless None kind = Some kind
kind_unless (Some fault) kind = None

abbrev pub told_by : Option Seg → Course → Stream → TextAt
told_by None course new = text_at course new None
told_by (Some seg) course new =
    text_at (after_segment course seg) new (kind_unless (after_segment course seg).fault (kind_at course.standing seg))

abbrev pub heard_by : Option SegmentFault → Course → Stream → TextAt
heard_by None course new = told_by new.told course new
heard_by (Some fault) course new = text_at (failed course new fault) new None

-- the part is lent no more
abbrev pub let_go : TextAt → TextAt
let_go text = record { course = text.course; segments = text.segments; told = None }

-- the stream behind the bytes of a piece up to the end of the segment that is begun, or to a fault
unfoldable pub after_bytes : TextAt → List ℕ → TextAt
after_bytes text piece =
    unless_refused text.course.fault (let_go text)
    (heard_by (after_piece text.segments piece).fault text.course (after_piece text.segments piece))

-- ---- what is still to be told

abbrev pub parts_or : Option EnvelopeFault → Parts → Parts
parts_or None parts = parts
parts_or (Some fault) parts = no_parts (Some fault)

-- what is told behind the parts that were told, where so much of the text is still to come
abbrev pub text_left : TextAt → List ℕ → Parts
text_left text more = parts_or text.course.fault (parts_left text.course.standing (ahead text.segments.begun more))

-- a part, where one was told, and then the rest
abbrev pub told_then : Option PartAt → Parts → Parts
told_then None later = later
told_then (Some part) later = parts_behind part later

-- so many bytes of a piece were taken: with the part that they ended the same is told, whatever comes behind the piece
pub record TakesText (old new : TextAt) (piece : List ℕ) (size : ℕ) : Type 0 where
  pub sound : old.course.fault ≡ None
  pub goes : new.course.fault ≡ None
  pub inside : size ≤ length piece
  pub some : 0 < length piece → 0 < size
  pub all : new.told ≡ None → size ≡ length piece
  pub reach : reached new.segments ≡ reached old.segments + size
  pub tells : (more : List ℕ) → text_left old (piece ++ more) ≡ told_then new.told (text_left new (drop size piece ++ more))

-- nothing more is told but this fault, whatever comes behind the piece
abbrev pub StopsText : TextAt → List ℕ → EnvelopeFault → Type 0
StopsText old piece fault = (more : List ℕ) → text_left old (piece ++ more) ≡ no_parts (Some fault)

-- ---- a whole text

-- a stream within a text: the parts that it has told, and the bytes that are still to come
pub record TextStreamed : Type 0 where
  pub parts : List PartAt
  pub text : TextAt
  pub more : List ℕ

abbrev pub unheard : List ℕ → TextStreamed
unheard text = record { parts = []; text = text_begun; more = text }

abbrev pub with_part : List PartAt → Option PartAt → List PartAt
with_part parts None = parts
with_part parts (Some part) = parts ++ part ∷ []

abbrev pub behind_bytes : TextStreamed → TextAt → TextStreamed
behind_bytes s new = record { parts = with_part s.parts new.told; text = new; more = drop (reached new.segments - reached s.text.segments) s.more }

-- calls one after another, each given so many of the bytes that are still to come
unfoldable pub each_taken : List ℕ → TextStreamed → TextStreamed
each_taken [] s = s
each_taken (size ∷ sizes) s = each_taken sizes (behind_bytes s (after_bytes s.text (take size s.more)))

-- ---- what the code keeps

pub record KeepsText (course : Course) (segments : Stream) : Type 0 where
  pub sound : course.fault ≡ None → segments.fault ≡ None
  pub few : found_at course.standing ≤ segments.begun.place

-- what the segment is that was told, where one was, or the reason against it
abbrev pub Judges : Option Seg → Course → Course → Result (Option PartKind) EnvelopeFault → Type 0
Judges None old new result = (new ≡ old) × (result ≡ Ok None)
Judges (Some seg) old new result =
    (new ≡ after_segment old seg) × (result ≡ answered new.fault (Some (kind_at old.standing seg)))
    × (found_at new.standing ≤ seg.start + length seg.bytes)

-- a call with this piece
pub record HearsText (old new : TextAt) (piece : List ℕ) (result : Result ℕ EnvelopeFault) : Type 0 where
  pub left : new ≡ after_bytes old piece
  pub answer : result ≡ answered new.course.fault (reached new.segments - reached old.segments)
  pub took : IfOk result (λ size. TakesText old new piece size)
  pub refused : IfErr result (λ fault. StopsText old piece fault)
