-- What a stream of segments keeps of a text that comes in pieces, and what it tells.
use Rattle.std.specs.Prelude.{◌≡◌, ◌⊎◌, ℕ, ◌+◌, ◌-◌, ◌<◌, ◌≤◌, ◌^◌, ◌==◌, Bool, true, false, is_some, slice_index, if◌then◌else◌, List, [], ◌∷◌, ◌++◌, length, take, drop, Option, Some, None, Result, Ok, Err, MatchOption}
use Rattle.segments.specs.Elements.{◌or_else◌}
use Rattle.segments.specs.PartEnds.{KeepsSegment}
use Rattle.segments.specs.SegmentCut.{Cut, cut_left, left_after, next_of, seg_at, text_start}
use Rattle.segments.specs.Views.{Left, Seg}
use Rattle.segments.specs.declared.segment_fault.SegmentFault.{SegmentFault}
use Rattle.segments.specs.declared.segment_fault.SegmentFault.TheVariants.{NoEnd}

-- ---- a stream

-- the bytes behind the last segment that ended, and where they begin; the segment that the last byte ended; and the
-- fault that was answered, behind which no bytes are kept
pub record Stream : Type 0 where
  pub begun : Left
  pub told : Option Seg
  pub fault : Option SegmentFault

-- a stream that nothing was taken by
abbrev pub stream_start : Stream
stream_start = record { begun = text_start []; told = None; fault = None }

-- the place of the byte that comes next
abbrev pub reached : Stream → ℕ
reached stream = stream.begun.place + length stream.begun.rest

-- what is left of a text behind the last segment that ended, where so much of it is still to come
abbrev pub ahead : Left → List ℕ → Left
ahead begun more = record { rest = begun.rest ++ more; place = begun.place }

-- no segment and no fault yet: nothing is begun, or a segment that may still end
abbrev pub IsOpen : Left → Type 0
IsOpen begun = (next_of begun ≡ Ok None) ⊎ (next_of begun ≡ Err (NoEnd begun.place))

-- ---- one piece

-- a fault that stands whatever follows: a segment without an end may still get one
abbrev pub lasting : SegmentFault → Option SegmentFault
lasting (NoEnd start) = None
lasting fault = Some fault

-- what is begun is kept, but where such a fault stands
abbrev pub begun_or : Option SegmentFault → Left → Stream
begun_or None begun = record { begun = begun; told = None; fault = None }
begun_or (Some fault) begun = record { begun = record { rest = []; place = begun.place }; told = None; fault = Some fault }

-- the stream that has these bytes, by what a reader answers at their front
abbrev pub heard_as : Left → Result (Option Seg) SegmentFault → Stream
heard_as left (Ok (Some seg)) = record { begun = record { rest = []; place = left.place + length seg.bytes }; told = Some seg; fault = None }
heard_as left (Ok None) = begun_or None left
heard_as left (Err fault) = begun_or (lasting fault) left

-- the segment is lent no more
abbrev pub without_told : Stream → Stream
without_told stream = record { begun = stream.begun; told = None; fault = stream.fault }

-- after a fault nothing is taken
abbrev pub unless_failed : Option SegmentFault → Stream → Stream → Stream
unless_failed None old new = new
unless_failed (Some fault) old new = without_told old

-- the stream behind the bytes of a piece up to the end of the segment that is begun, or to a fault
unfoldable pub after_piece : Stream → List ℕ → Stream
after_piece stream piece = unless_failed stream.fault stream (heard_as (ahead stream.begun piece) (next_of (ahead stream.begun piece)))

-- the fault that the stream has now, or this
abbrev pub unless_fault : {A : Type 0} → Option SegmentFault → A → Result A SegmentFault
unless_fault None answer = Ok answer
unless_fault (Some fault) answer = Err fault

-- how many bytes were taken
abbrev pub taken_by : Stream → Stream → Result ℕ SegmentFault
taken_by old new = unless_fault new.fault (reached new - reached old)

-- whether the last byte ended a segment
abbrev pub ended_by : Stream → Result Bool SegmentFault
ended_by new = unless_fault new.fault (is_some new.told)

-- what is left of the text moves on: it is the same where no segment was told, and else stands behind it
abbrev pub MovesOn : Option Seg → Left → Left → Type 0
MovesOn told old new = MatchOption told (new ≡ old) (λ seg. (next_of old ≡ Ok (Some seg)) × (left_after old ≡ new))

-- so many bytes of a piece were taken: what a reader of the whole text answers next, whatever comes behind the piece
pub record Takes (old new : Stream) (piece : List ℕ) (size : ℕ) : Type 0 where
  pub sound : old.fault ≡ None
  pub goes : new.fault ≡ None
  pub inside : size ≤ length piece
  pub some : 0 < length piece → 0 < size
  pub all : new.told ≡ None → size ≡ length piece
  pub reach : reached new ≡ reached old + size
  pub moves : (more : List ℕ) → MovesOn new.told (ahead old.begun (piece ++ more)) (ahead new.begun (drop size piece ++ more))

-- this fault is the one that a reader of the whole text answers next, whatever comes behind the piece
abbrev pub Stops : Stream → List ℕ → SegmentFault → Type 0
Stops old piece fault = MatchOption old.fault ((more : List ℕ) → next_of (ahead old.begun (piece ++ more)) ≡ Err fault) (λ known. known ≡ fault)

-- ---- the end of the text

-- where the segment that is begun starts
abbrev pub begun_at : Left → Option ℕ
begun_at begun = if length begun.rest == 0 then None else Some begun.place

abbrev pub no_end : Option ℕ → Option SegmentFault
no_end None = None
no_end (Some start) = Some (NoEnd start)

-- the fault that stands where the text ends here
abbrev pub fault_at_end : Stream → Option SegmentFault
fault_at_end stream = stream.fault or_else no_end (begun_at stream.begun)

-- a reader of the text answers that it ends there, or this fault
abbrev pub EndsSo : {A : Type 0} → Result A SegmentFault → Left → Type 0
EndsSo (Ok over) begun = next_of begun ≡ Ok None
EndsSo (Err fault) begun = next_of begun ≡ Err fault

-- ---- a text

-- byte after byte, up to the one that ends a segment or is a fault
abbrev pub pushed_on : Option Seg → Option SegmentFault → Stream → Stream → Stream
pushed_on None None new later = later
pushed_on (Some seg) fault new later = new
pushed_on None (Some fault) new later = new

unfoldable pub push_each : Stream → List ℕ → Stream
push_each stream [] = stream
push_each stream (byte ∷ more) =
    let new = after_piece stream (byte ∷ []) in
    pushed_on new.told new.fault new (push_each new more)

-- a stream within a text: the segments that it has told, and the bytes that are still to come
pub record Streamed : Type 0 where
  pub segments : List Seg
  pub stream : Stream
  pub more : List ℕ

abbrev pub unread : List ℕ → Streamed
unread text = record { segments = []; stream = stream_start; more = text }

abbrev pub with_told : List Seg → Option Seg → List Seg
with_told segments None = segments
with_told segments (Some seg) = segments ++ seg ∷ []

abbrev pub behind_call : Streamed → Stream → Streamed
behind_call s new = record { segments = with_told s.segments new.told; stream = new; more = drop (reached new - reached s.stream) s.more }

-- one call, that is given so many of the bytes that are still to come
abbrev pub one_call : ℕ → Streamed → Streamed
one_call size s = behind_call s (after_piece s.stream (take size s.more))

-- calls one after another
unfoldable pub each_call : List ℕ → Streamed → Streamed
each_call [] s = s
each_call (size ∷ sizes) s = each_call sizes (one_call size s)

-- behind a fault nothing more is told
abbrev pub cut_or : Option SegmentFault → Cut → Cut
cut_or None cut = cut
cut_or (Some fault) cut = record { segments = []; fault = Some fault }

-- what is still to be told
abbrev pub cut_ahead : Streamed → Cut
cut_ahead s = cut_or s.stream.fault (cut_left (ahead s.stream.begun s.more))

-- ---- what the code keeps

-- the bytes that are held are a segment that was told, or are begun
abbrev pub stream_of : ℕ → List ℕ → Bool → Option SegmentFault → Stream
stream_of place held true fault = record { begun = record { rest = []; place = place + length held }; told = Some (seg_at place held); fault = fault }
stream_of place held false fault = record { begun = record { rest = held; place = place }; told = None; fault = fault }

abbrev pub HoldsPart : Bool → ℕ → List ℕ → List ℕ → Type 0
HoldsPart true place held ends = KeepsSegment place held ends
HoldsPart false place held ends = IsOpen (record { rest = held; place = place })

pub record KeepsStream (place : ℕ) (held ends : List ℕ) (whole : Bool) : Type 0 where
  pub placed : place + length held < 2 ^ 64
  pub part : HoldsPart whole place held ends

-- what a piece makes of the bytes that were begun: they end in it, they go on, or a fault stands there
abbrev pub JudgesOn : ℕ → List ℕ → List ℕ → List ℕ → List ℕ → Result Bool SegmentFault → Type 0
JudgesOn place old piece new ends (Ok true) = KeepsSegment place new ends × (next_of (record { rest = old ++ piece; place = place }) ≡ Ok (Some (seg_at place new))) × (length old ≤ length new)
JudgesOn place old piece new ends (Ok false) = IsOpen (record { rest = new; place = place }) × (new ≡ old ++ piece)
JudgesOn place old piece new ends (Err fault) = (next_of (record { rest = old ++ piece; place = place }) ≡ Err fault) × (lasting fault ≡ Some fault) × (new ≡ [])

-- so many bytes of a piece, and no more only where no more are needed: there is no room for more, or an LF is among them
pub record Decides (piece front : List ℕ) (room : ℕ) : Type 0 where
  pub front_of : piece ≡ front ++ drop (length front) piece
  pub within : length front ≤ room
  pub enough : (front ≡ piece) ⊎ (length front ≡ room) ⊎ ((k : ℕ) × (k < length front) × (slice_index front k ≡ 10))
