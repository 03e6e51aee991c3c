-- What is told of a text: its sets in their order, up to the first segment that has a reason against it. At each segment
-- the reasons are asked in their order.
use Rattle.std.specs.Prelude.{ℕ, ◌+◌, Bool, ◌==◌, List, [], ◌∷◌, ◌++◌, length, codes, Option, Some, None, if◌then◌else◌}
use Rattle.std.specs.Str.{bytes_eq}
use Rattle.segments.specs.Elements.{◌or_else◌}
use Rattle.segments.specs.Views.{has_id}
use Rattle.segments.specs.SegmentCut.{cut_left, text_start}
use Rattle.segments.specs.Views.{Left, Seg, element_of}
use Rattle.segments.specs.declared.segment_fault.SegmentFault.{SegmentFault}
use Rattle.dxs_envelope.specs.EnvelopeTable.{count_in, has_function, is_header, is_trailer}
use Rattle.dxs_envelope.specs.Views.{SetAt, Told}
use Rattle.dxs_envelope.specs.declared.fault.EnvelopeFault.{EnvelopeFault}
use Rattle.dxs_envelope.specs.declared.fault.EnvelopeReason.{EnvelopeReason}
use Rattle.dxs_envelope.specs.declared.fault.EnvelopeReason.TheVariants.{NoHeader, NoTrailer, Count, Control, Function, Segment, Tail}

-- where a reading stands
pub data Standing : Type 0 where
  -- at the front of the text
  Front : Standing
  -- behind the header with this control number, and behind so many sets
  Between : List ℕ → ℕ → Standing
  -- besides, inside a set that starts there, behind these bytes of it
  Inside : List ℕ → ℕ → SetAt → Standing
  -- behind the trailer
  Behind : Standing

-- the reason, unless the test holds
abbrev pub unless : Bool → EnvelopeReason → Option EnvelopeReason
unless test reason = if test then None else Some reason

-- ---- the reasons against a segment

-- a header with the function of a direct exchange
abbrev pub header_reason : Seg → Option EnvelopeReason
header_reason seg = unless (is_header seg) NoHeader or_else unless (has_function seg) Function

-- a trailer that repeats the control number and says how many sets were found
abbrev pub trailer_reason : List ℕ → ℕ → Seg → Option EnvelopeReason
trailer_reason control found seg =
    unless (is_trailer seg) NoTrailer
    or_else unless (bytes_eq (element_of seg 1) control) Control
    or_else unless (count_in seg == found) (Count (count_in seg) found)

-- a set begins with ST, and any segments may stand in it
abbrev pub reason_at : Standing → Seg → Option EnvelopeReason
reason_at Front seg = header_reason seg
reason_at (Between control found) seg = if has_id seg (codes "ST") then None else trailer_reason control found seg
reason_at (Inside control found set) seg = None
reason_at Behind seg = Some Tail

-- the reason where the text ends there
abbrev pub end_reason : Standing → Option EnvelopeReason
end_reason Front = Some NoHeader
end_reason (Between control found) = Some NoTrailer
end_reason (Inside control found set) = Some NoTrailer
end_reason Behind = None

-- ---- behind a segment that has none

-- the set with this segment too
abbrev pub longer : SetAt → Seg → SetAt
longer set seg = record { start = set.start; bytes = set.bytes ++ seg.bytes }

-- ST begins a set, and the first SE behind it ends it
abbrev pub after : Standing → Seg → Standing
after Front seg = Between (element_of seg 4) 0
after (Between control found) seg =
    if has_id seg (codes "ST") then Inside control found (record { start = seg.start; bytes = seg.bytes }) else Behind
after (Inside control found set) seg =
    if has_id seg (codes "SE") then Between control (found + 1) else Inside control found (longer set seg)
after Behind seg = Behind

-- the set that the segment ends
abbrev pub ended_by : Standing → Seg → Option SetAt
ended_by Front seg = None
ended_by (Between control found) seg = None
ended_by (Inside control found set) seg = if has_id seg (codes "SE") then Some (longer set seg) else None
ended_by Behind seg = None

-- ---- what is told

-- nothing more, since the text is no transmission there
abbrev pub refused : EnvelopeFault → Told
refused fault = record { sets = []; fault = Some fault }

abbrev pub refused_at : ℕ → EnvelopeReason → Told
refused_at place reason = refused (record { place = place; reason = reason })

-- nothing more, since the transmission is whole
abbrev pub whole : Told
whole = record { sets = []; fault = None }

-- a set, and then the rest
abbrev pub told_behind : SetAt → Told → Told
told_behind set later = record { sets = set ∷ later.sets; fault = later.fault }

-- a set where one has ended, and then the rest
abbrev pub told_first : Option SetAt → Told → Told
told_first (Some set) later = told_behind set later
told_first None later = later

-- the reason against a segment that starts there, or what is told behind it
abbrev pub told_at : Option EnvelopeReason → ℕ → Told → Told
told_at (Some reason) place later = refused_at place reason
told_at None place later = later

-- where no segment follows: none can be read there, or the text ends
abbrev pub told_end : Option SegmentFault → Option EnvelopeReason → ℕ → Told
told_end (Some fault) reason place = refused_at place (Segment fault)
told_end None reason place = told_at reason place whole

-- of these segments, the first of which starts there, and of what stands behind them
unfoldable pub told_from : Standing → ℕ → List Seg → Option SegmentFault → Told
told_from standing place [] fault = told_end fault (end_reason standing) place
told_from standing place (seg ∷ segs) fault =
    told_at (reason_at standing seg) seg.start
    (told_first (ended_by standing seg) (told_from (after standing seg) (seg.start + length seg.bytes) segs fault))

-- of what is left of a text
abbrev pub told_left : Standing → Left → Told
told_left standing left = told_from standing left.place (cut_left left).segments (cut_left left).fault

-- of a whole text
abbrev pub told_of : List ℕ → Told
told_of text = told_left Front (text_start text)

-- where a text is no transmission, and why; none where it is one
abbrev pub first_fault : List ℕ → Option EnvelopeFault
first_fault text = (told_of text).fault
