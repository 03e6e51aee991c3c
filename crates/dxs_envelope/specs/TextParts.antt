-- Which part of a transmission each segment is, and what is told of a text part by part.
use Rattle.std.specs.Prelude.{ℕ, ◌+◌, List, [], ◌∷◌, ◌++◌, length, codes, Option, Some, None, Result, Ok, Err, if◌then◌else◌}
use Rattle.segments.specs.SegmentCut.{cut_left, text_start}
use Rattle.segments.specs.Views.{Left, Seg, has_id}
use Rattle.segments.specs.declared.segment_fault.SegmentFault.{SegmentFault}
use Rattle.dxs_envelope.specs.FirstFault.{Standing, Front, Between, Inside, Behind, after, end_reason, longer, reason_at}
use Rattle.dxs_envelope.specs.Views.{SetAt}
use Rattle.dxs_envelope.specs.declared.fault.EnvelopeFault.{EnvelopeFault}
use Rattle.dxs_envelope.specs.declared.fault.EnvelopeReason.{EnvelopeReason}
use Rattle.dxs_envelope.specs.declared.fault.EnvelopeReason.TheVariants as reasons
use Rattle.dxs_envelope.specs.declared.text_course.CourseStage.{CourseStage}
use Rattle.dxs_envelope.specs.declared.text_course.CourseStage.TheVariants as stages
use Rattle.dxs_envelope.specs.declared.text_course.PartKind.{PartKind}
use Rattle.dxs_envelope.specs.declared.text_course.PartKind.TheVariants.{Header, InSet, SetEnd, Trailer}

-- ---- a part

-- a segment, and what it is in its transmission
pub record PartAt : Type 0 where
  pub kind : PartKind
  pub segment : Seg

-- what a segment is, where there is no reason against it
abbrev pub kind_at : Standing → Seg → PartKind
kind_at Front seg = Header
kind_at (Between control found) seg = if has_id seg (codes "ST") then InSet else Trailer
kind_at (Inside control found set) seg = if has_id seg (codes "SE") then SetEnd else InSet
kind_at Behind seg = Trailer

abbrev pub part_at : Standing → Seg → PartAt
part_at standing seg = record { kind = kind_at standing seg; segment = seg }

-- ---- a course

-- the standing without the bytes of the set that is begun, on which no reason and no part rests
abbrev pub bare : Standing → Standing
bare Front = Front
bare (Between control found) = Between control found
bare (Inside control found set) = Inside control found (record { start = 0; bytes = [] })
bare Behind = Behind

-- so many sets have ended
abbrev pub found_at : Standing → ℕ
found_at Front = 0
found_at (Between control found) = found
found_at (Inside control found set) = found
found_at Behind = 0

-- where a reading stands, and the fault that it has met
pub record Course : Type 0 where
  pub standing : Standing
  pub fault : Option EnvelopeFault

abbrev pub course_start : Course
course_start = record { standing = Front; fault = None }

abbrev pub fault_at : ℕ → EnvelopeReason → EnvelopeFault
fault_at place reason = record { place = place; reason = reason }

-- behind a segment against which there is this reason, or none
abbrev pub course_by : Option EnvelopeReason → Standing → Seg → Course
course_by None standing seg = record { standing = bare (after standing seg); fault = None }
course_by (Some reason) standing seg = record { standing = standing; fault = Some (fault_at seg.start reason) }

-- after a fault nothing changes
abbrev pub unless_refused : {A : Type 0} → Option EnvelopeFault → A → A → A
unless_refused None old new = new
unless_refused (Some fault) old new = old

unfoldable pub after_segment : Course → Seg → Course
after_segment course seg = unless_refused course.fault course (course_by (reason_at course.standing seg) course.standing seg)

-- the fault, or this answer
abbrev pub answered : {A : Type 0} → Option EnvelopeFault → A → Result A EnvelopeFault
answered None answer = Ok answer
answered (Some fault) answer = Err fault

-- the reason, where there is one, is found there
abbrev pub placed_reason : Option EnvelopeReason → ℕ → Option EnvelopeFault
placed_reason None place = None
placed_reason (Some reason) place = Some (fault_at place reason)

-- the fault where the text ends there: the one that was met, or that it ends too early
abbrev pub fault_or : Option EnvelopeFault → Option EnvelopeFault → Option EnvelopeFault
fault_or None later = later
fault_or (Some fault) later = Some fault

abbrev pub course_end : Course → ℕ → Option EnvelopeFault
course_end course place = fault_or course.fault (placed_reason (end_reason course.standing) place)

-- ---- what is told of a text

-- parts in their order, and then the right end, or where the text is no transmission and why
pub record Parts : Type 0 where
  pub parts : List PartAt
  pub fault : Option EnvelopeFault

abbrev pub no_parts : Option EnvelopeFault → Parts
no_parts fault = record { parts = []; fault = fault }

abbrev pub parts_behind : PartAt → Parts → Parts
parts_behind part later = record { parts = part ∷ later.parts; fault = later.fault }

-- the reason against a segment that starts there, or what is told from it on
abbrev pub parts_by : Option EnvelopeReason → ℕ → Parts → Parts
parts_by (Some reason) place later = no_parts (Some (fault_at place reason))
parts_by None place later = later

-- where no segment follows: none can be read there, or the text ends
abbrev pub parts_end : Option SegmentFault → Option EnvelopeReason → ℕ → Parts
parts_end (Some fault) reason place = no_parts (Some (fault_at place (reasons.Segment fault)))
parts_end None reason place = no_parts (placed_reason reason place)

-- of these segments, the first of which starts there, and of what stands behind them
unfoldable pub parts_from : Standing → ℕ → List Seg → Option SegmentFault → Parts
parts_from standing place [] fault = parts_end fault (end_reason standing) place
parts_from standing place (seg ∷ segs) fault =
    parts_by (reason_at standing seg) seg.start
    (parts_behind (part_at standing seg) (parts_from (after standing seg) (seg.start + length seg.bytes) segs fault))

-- of what is left of a text
abbrev pub parts_left : Standing → Left → Parts
parts_left standing left = parts_from standing left.place (cut_left left).segments (cut_left left).fault

-- of a whole text
abbrev pub parts_of : List ℕ → Parts
parts_of text = parts_left Front (text_start text)

-- ---- the sets of parts

-- the set that is begun, or a new one, with this segment too
abbrev pub with_segment : Option SetAt → Seg → SetAt
with_segment None seg = record { start = seg.start; bytes = seg.bytes }
with_segment (Some set) seg = longer set seg

-- the set that is begun behind a segment of this kind
abbrev pub begun_by : PartKind → Option SetAt → Seg → Option SetAt
begun_by Header begun seg = None
begun_by InSet begun seg = Some (with_segment begun seg)
begun_by SetEnd begun seg = None
begun_by Trailer begun seg = None

-- the set that the segment ends
abbrev pub closed_by : PartKind → Option SetAt → Seg → List SetAt
closed_by Header begun seg = []
closed_by InSet begun seg = []
closed_by SetEnd begun seg = with_segment begun seg ∷ []
closed_by Trailer begun seg = []

-- the sets that end in these parts, where this one is begun
unfoldable pub grouped : Option SetAt → List PartAt → List SetAt
grouped begun [] = []
grouped begun (part ∷ more) =
    closed_by part.kind begun part.segment ++ grouped (begun_by part.kind begun part.segment) more

-- ---- what the code keeps

abbrev pub standing_in : CourseStage → List ℕ → ℕ → Standing
standing_in stages.Front control found = Front
standing_in stages.Between control found = Between control found
standing_in stages.Inside control found = Inside control found (record { start = 0; bytes = [] })
standing_in stages.Behind control found = Behind
