-- One piece of a text, taken by a stream of parts.
use Rattle.std.proofs.Common.{◌≡◌, ℕ, ◌+◌, ◌-◌, ◌≤◌, List, [], ◌++◌, length, drop, Result, Ok, Err, Option, Some, None, refl, sym, ◌∙◌, ap, subst, arith}
use Rattle.std.specs.Prelude.{IfSome, MatchOption}
use Rattle.segments.specs.SegmentCut.{left_after, next_of}
use Rattle.segments.specs.Streaming.{MovesOn, Stops, Stream, Takes, after_piece, ahead, begun_or, heard_as, lasting, reached, unless_fault}
use Rattle.segments.specs.Views.{Left, Seg}
use Rattle.segments.specs.declared.segment_fault.SegmentFault.{SegmentFault}
use Rattle.segments.proofs.Spelled.{next_front}
use Rattle.segments.proofs.Streams.{after_heard as stream_heard}
use Rattle.dxs_envelope.specs.FirstFault.{after, reason_at}
use Rattle.dxs_envelope.specs.TextParts.{Course, PartAt, after_segment, answered, bare, fault_at, found_at, kind_at, no_parts, part_at, parts_behind, parts_by, parts_left, unless_refused}
use Rattle.dxs_envelope.specs.TextPieces.{HearsText, Judges, TextAt, after_bytes, heard_by, kind_unless, let_go, part_of, parts_or, text_at, text_left, told_by, told_then}
use Rattle.dxs_envelope.specs.declared.fault.EnvelopeFault.{EnvelopeFault}
use Rattle.dxs_envelope.specs.declared.fault.EnvelopeReason.{EnvelopeReason}
use Rattle.dxs_envelope.specs.declared.fault.EnvelopeReason.TheVariants as reasons
use Rattle.dxs_envelope.specs.declared.text_course.PartKind.{PartKind}
use Rattle.dxs_envelope.proofs.Courses.{after_right, after_wrong}
use Rattle.dxs_envelope.proofs.Parting.{left_bare, parts_fault, parts_segment}

-- ---- what is left

pub left_sound : (text : TextAt) (more : List ℕ) → text.course.fault ≡ None → text_left text more ≡ parts_left text.course.standing (ahead text.segments.begun more)
left_sound text more e = ap (λ (f : Option EnvelopeFault). parts_or f (parts_left text.course.standing (ahead text.segments.begun more))) e

pub left_failed : (text : TextAt) (more : List ℕ) (fault : EnvelopeFault) → text.course.fault ≡ Some fault → text_left text more ≡ no_parts (Some fault)
left_failed text more fault e = ap (λ (f : Option EnvelopeFault). parts_or f (parts_left text.course.standing (ahead text.segments.begun more))) e

-- ---- what the stream of segments has begun

pub err_fault : (fault : Option SegmentFault) (size : ℕ) (e : SegmentFault) → Err e ≡ unless_fault fault size → fault ≡ Some e
err_fault None size e is = cc
err_fault (Some f) size e is = let same : e ≡ f = cc (is) in ap (λ (g : SegmentFault). Some g) (sym same)

-- a segment that ended starts where it was begun
abbrev pub EndsAt : Left → Stream → Type 0
EndsAt begun new = MatchOption new.told (new.begun.place ≡ begun.place) (λ seg. (seg.start ≡ begun.place) × (new.begun.place ≡ begun.place + length seg.bytes))

pub ends_at : (stream : Stream) (piece : List ℕ) → stream.fault ≡ None → EndsAt stream.begun (after_piece stream piece)
ends_at stream piece sound = subst (EndsAt stream.begun) (sym (stream_heard stream piece sound)) (by_answer (next_of left) refl)
  where
    left : Left
    left = ahead stream.begun piece

    by_lasting : (lasts : Option SegmentFault) → EndsAt stream.begun (begun_or lasts left)
    by_lasting None = refl
    by_lasting (Some stands) = refl

    by_answer : (answer : Result (Option Seg) SegmentFault) → next_of left ≡ answer → EndsAt stream.begun (heard_as left answer)
    by_answer (Ok (Some seg)) e = ((next_front left seg e).start, refl)
    by_answer (Ok None) e = refl
    by_answer (Err fault) e = by_lasting (lasting fault)

-- behind a fault nothing is begun
pub nothing_begun : (stream : Stream) (piece : List ℕ) (fault : SegmentFault) → stream.fault ≡ None → (after_piece stream piece).fault ≡ Some fault
    → ((after_piece stream piece).begun.rest ≡ []) × ((after_piece stream piece).begun.place ≡ stream.begun.place)
nothing_begun stream piece fault sound fails =
    let is = stream_heard stream piece sound in
    subst (λ (s : Stream). (s.begun.rest ≡ []) × (s.begun.place ≡ stream.begun.place)) (sym is) (by_answer (next_of left) (ap (λ (s : Stream). s.fault) (sym is) ∙ fails))
  where
    left : Left
    left = ahead stream.begun piece

    by_lasting : (lasts : Option SegmentFault) → (begun_or lasts left).fault ≡ Some fault → ((begun_or lasts left).begun.rest ≡ []) × ((begun_or lasts left).begun.place ≡ stream.begun.place)
    by_lasting None e = cc
    by_lasting (Some stands) e = (refl, refl)

    by_answer : (answer : Result (Option Seg) SegmentFault) → (heard_as left answer).fault ≡ Some fault → ((heard_as left answer).begun.rest ≡ []) × ((heard_as left answer).begun.place ≡ stream.begun.place)
    by_answer (Ok (Some seg)) e = cc
    by_answer (Ok None) e = cc
    by_answer (Err other) e = by_lasting (lasting other) e

-- ---- a stream that has met a fault

pub after_known : (text : TextAt) (piece : List ℕ) (fault : EnvelopeFault) → text.course.fault ≡ Some fault → after_bytes text piece ≡ let_go text
unfolding after_bytes
after_known text piece fault e = ap (λ (f : Option EnvelopeFault). unless_refused f (let_go text) (heard_by (after_piece text.segments piece).fault text.course (after_piece text.segments piece))) e

pub after_heard : (text : TextAt) (piece : List ℕ) → text.course.fault ≡ None
    → after_bytes text piece ≡ heard_by (after_piece text.segments piece).fault text.course (after_piece text.segments piece)
unfolding after_bytes
after_heard text piece e = ap (λ (f : Option EnvelopeFault). unless_refused f (let_go text) (heard_by (after_piece text.segments piece).fault text.course (after_piece text.segments piece))) e

pub known_heard : (old : TextAt) (piece : List ℕ) (fault : EnvelopeFault) → old.course.fault ≡ Some fault → HearsText old (let_go old) piece (Err fault)
known_heard old piece fault e = record {
  left = sym (after_known old piece fault e);
  answer = sym (ap (λ (f : Option EnvelopeFault). answered f (reached old.segments - reached old.segments)) e);
  took = tt;
  refused = λ more. left_failed old (piece ++ more) fault e;
}

-- ---- a segment that cannot be read

stops_so : (old : Stream) (piece : List ℕ) (fault : SegmentFault) → old.fault ≡ None → Stops old piece fault → (more : List ℕ) → next_of (ahead old.begun (piece ++ more)) ≡ Err fault
stops_so old piece fault sound h = rw sound at h

module _ (old : TextAt) (piece : List ℕ) (segments : Stream) (sound : old.course.fault ≡ None) (going : old.segments.fault ≡ None) (is : segments ≡ after_piece old.segments piece) where
  pub unread_heard : (fault : SegmentFault) (place : ℕ) → segments.fault ≡ Some fault → Stops old.segments piece fault → place ≡ reached segments
      → HearsText old (text_at (record { standing = old.course.standing; fault = Some (fault_at place (reasons.Segment fault)) }) segments None) piece (Err (fault_at place (reasons.Segment fault)))
  unread_heard fault place fails stops at =
      let begun : (segments.begun.rest ≡ []) × (segments.begun.place ≡ old.segments.begun.place) =
      subst (λ (s : Stream). (s.begun.rest ≡ []) × (s.begun.place ≡ old.segments.begun.place)) (sym is) (nothing_begun old.segments piece fault going (ap (λ (s : Stream). s.fault) (sym is) ∙ fails)) in
      let here : place ≡ segments.begun.place = omega (arith, at, ap length begun.0) in
      record {
        left = ap (λ (n : ℕ). text_at (record { standing = old.course.standing; fault = Some (fault_at n (reasons.Segment fault)) }) segments None) here
            ∙ sym (after_heard old piece sound ∙ ap (λ (s : Stream). heard_by s.fault old.course s) (sym is) ∙ ap (λ (f : Option SegmentFault). heard_by f old.course segments) fails);
        answer = refl;
        took = tt;
        refused = λ more. left_sound old (piece ++ more) sound
            ∙ parts_fault old.course.standing (ahead old.segments.begun (piece ++ more)) fault (stops_so old.segments piece fault going stops more)
            ∙ ap (λ (n : ℕ). no_parts (Some (fault_at n (reasons.Segment fault)))) (sym (here ∙ begun.1));
      }

-- ---- bytes that are no fault of the segments

module _ (old : TextAt) (piece : List ℕ) (segments : Stream) (size : ℕ) (sound : old.course.fault ≡ None) (is : segments ≡ after_piece old.segments piece) (t : Takes old.segments segments piece size) where
  heard : after_bytes old piece ≡ told_by segments.told old.course segments
  heard =
      after_heard old piece sound ∙ ap (λ (s : Stream). heard_by s.fault old.course s) (sym is) ∙ ap (λ (f : Option SegmentFault). heard_by f old.course segments) t.goes

  size_is : size ≡ reached segments - reached old.segments
  size_is = omega (arith, t.reach)

  pub untold_heard : segments.told ≡ None → HearsText old (text_at old.course segments None) piece (Ok size)
  untold_heard none = record {
    left = sym (heard ∙ ap (λ (told : Option Seg). told_by told old.course segments) none);
    answer = ap (λ (n : ℕ). Ok n) size_is ∙ sym (ap (λ (f : Option EnvelopeFault). answered f (reached segments - reached old.segments)) sound);
    took = record {
      sound = sound;
      goes = sound;
      inside = t.inside;
      some = t.some;
      all = λ _. t.all none;
      reach = t.reach;
      tells = λ more.
          let same : ahead segments.begun (drop size piece ++ more) ≡ ahead old.segments.begun (piece ++ more) =
          subst (λ (told : Option Seg). MovesOn told (ahead old.segments.begun (piece ++ more)) (ahead segments.begun (drop size piece ++ more))) none (t.moves more) in
          left_sound old (piece ++ more) sound ∙ ap (parts_left old.course.standing) (sym same)
          ∙ sym (left_sound (text_at old.course segments None) (drop size piece ++ more) sound);
    };
    refused = tt;
  }

  module _ (seg : Seg) (told : segments.told ≡ Some seg) (course : Course) (course_is : course ≡ after_segment old.course seg) where
    moves : (more : List ℕ) → (next_of (ahead old.segments.begun (piece ++ more)) ≡ Ok (Some seg)) × (left_after (ahead old.segments.begun (piece ++ more)) ≡ ahead segments.begun (drop size piece ++ more))
    moves more = subst (λ (told : Option Seg). MovesOn told (ahead old.segments.begun (piece ++ more)) (ahead segments.begun (drop size piece ++ more))) told (t.moves more)

    heard_so : after_bytes old piece ≡ text_at course segments (kind_unless course.fault (kind_at old.course.standing seg))
    heard_so =
        heard ∙ ap (λ (told : Option Seg). told_by told old.course segments) told
        ∙ ap (λ (k : Course). text_at k segments (kind_unless k.fault (kind_at old.course.standing seg))) (sym course_is)

    refused_heard : (reason : EnvelopeReason) → reason_at old.course.standing seg ≡ Some reason → HearsText old (text_at course segments None) piece (Err (fault_at seg.start reason))
    refused_heard reason wrong =
        let fails : course.fault ≡ Some (fault_at seg.start reason) = ap (λ (k : Course). k.fault) (course_is ∙ after_wrong old.course seg reason sound wrong) in
        record {
          left = sym (heard_so ∙ ap (λ (f : Option EnvelopeFault). text_at course segments (kind_unless f (kind_at old.course.standing seg))) fails);
          answer = sym (ap (λ (f : Option EnvelopeFault). answered f (reached segments - reached old.segments)) fails);
          took = tt;
          refused = λ more. left_sound old (piece ++ more) sound
              ∙ parts_segment old.course.standing (ahead old.segments.begun (piece ++ more)) seg (moves more).0
              ∙ ap (λ (r : Option EnvelopeReason). parts_by r seg.start (parts_behind (part_at old.course.standing seg) (parts_left (after old.course.standing seg) (left_after (ahead old.segments.begun (piece ++ more)))))) wrong;
        }

    taken_heard : reason_at old.course.standing seg ≡ None → HearsText old (text_at course segments (Some (kind_at old.course.standing seg))) piece (Ok size)
    taken_heard right =
        let new_is : course ≡ record { standing = bare (after old.course.standing seg); fault = None } = course_is ∙ after_right old.course seg sound right in
        let goes : course.fault ≡ None = ap (λ (k : Course). k.fault) new_is in
        let kind : PartKind = kind_at old.course.standing seg in
        let new : TextAt = text_at course segments (Some kind) in
        let part : new.told ≡ Some (part_at old.course.standing seg) = ap (part_of (Some kind)) told in
        record {
          left = sym (heard_so ∙ ap (λ (f : Option EnvelopeFault). text_at course segments (kind_unless f kind)) goes);
          answer = ap (λ (n : ℕ). Ok n) size_is ∙ sym (ap (λ (f : Option EnvelopeFault). answered f (reached segments - reached old.segments)) goes);
          took = record {
            sound = sound;
            goes = goes;
            inside = t.inside;
            some = t.some;
            all = λ none. let no = sym part ∙ none in cc (no);
            reach = t.reach;
            tells = λ more.
                let left : Left = ahead old.segments.begun (piece ++ more) in
                let later : parts_left (after old.course.standing seg) (left_after left) ≡ text_left new (drop size piece ++ more) =
                sym (left_bare (after old.course.standing seg) (left_after left))
                ∙ ap (parts_left (bare (after old.course.standing seg))) (moves more).1
                ∙ ap (λ (k : Course). parts_left k.standing (ahead segments.begun (drop size piece ++ more))) (sym new_is)
                ∙ sym (left_sound new (drop size piece ++ more) goes) in
                left_sound old (piece ++ more) sound
                ∙ parts_segment old.course.standing left seg (moves more).0
                ∙ ap (λ (r : Option EnvelopeReason). parts_by r seg.start (parts_behind (part_at old.course.standing seg) (parts_left (after old.course.standing seg) (left_after left)))) right
                ∙ ap (parts_behind (part_at old.course.standing seg)) later
                ∙ ap (λ (p : Option PartAt). told_then p (text_left new (drop size piece ++ more))) (sym part);
          };
          refused = tt;
        }

    -- what a call answers, by the reason against the segment
    pub segment_ok : (kind : Option PartKind) → Ok kind ≡ answered course.fault (Some (kind_at old.course.standing seg)) → HearsText old (text_at course segments kind) piece (Ok size)
    segment_ok kind e = by_reason (reason_at old.course.standing seg) refl
      where
        by_reason : (reason : Option EnvelopeReason) → reason_at old.course.standing seg ≡ reason → HearsText old (text_at course segments kind) piece (Ok size)
        by_reason None right =
            let goes : course.fault ≡ None = ap (λ (k : Course). k.fault) (course_is ∙ after_right old.course seg sound right) in
            let same_answer : Ok kind ≡ Ok (Some (kind_at old.course.standing seg)) = e ∙ ap (λ (f : Option EnvelopeFault). answered f (Some (kind_at old.course.standing seg))) goes in
            let same : kind ≡ Some (kind_at old.course.standing seg) = cc (same_answer) in
            subst (λ (k : Option PartKind). HearsText old (text_at course segments k) piece (Ok size)) (sym same) (taken_heard right)
        by_reason (Some reason) wrong =
            let fails : course.fault ≡ Some (fault_at seg.start reason) = ap (λ (k : Course). k.fault) (course_is ∙ after_wrong old.course seg reason sound wrong) in
            let no = e ∙ ap (λ (f : Option EnvelopeFault). answered f (Some (kind_at old.course.standing seg))) fails in
            cc (no)

    pub segment_err : (fault : EnvelopeFault) → Err fault ≡ answered course.fault (Some (kind_at old.course.standing seg)) → HearsText old (text_at course segments None) piece (Err fault)
    segment_err fault e = by_reason (reason_at old.course.standing seg) refl
      where
        by_reason : (reason : Option EnvelopeReason) → reason_at old.course.standing seg ≡ reason → HearsText old (text_at course segments None) piece (Err fault)
        by_reason None right =
            let goes : course.fault ≡ None = ap (λ (k : Course). k.fault) (course_is ∙ after_right old.course seg sound right) in
            let no = e ∙ ap (λ (f : Option EnvelopeFault). answered f (Some (kind_at old.course.standing seg))) goes in
            cc (no)
        by_reason (Some reason) wrong =
            let fails : course.fault ≡ Some (fault_at seg.start reason) = ap (λ (k : Course). k.fault) (course_is ∙ after_wrong old.course seg reason sound wrong) in
            let same_answer : Err fault ≡ Err (fault_at seg.start reason) = e ∙ ap (λ (f : Option EnvelopeFault). answered f (Some (kind_at old.course.standing seg))) fails in
            let same : fault ≡ fault_at seg.start reason = cc (same_answer) in
            subst (λ (f : EnvelopeFault). HearsText old (text_at course segments None) piece (Err f)) (sym same) (refused_heard reason wrong)

  pub judged_ok : (course : Course) (kind : Option PartKind) → Judges segments.told old.course course (Ok kind) → HearsText old (text_at course segments kind) piece (Ok size)
  judged_ok course kind j = by_told segments.told refl j
    where
      by_told : (told : Option Seg) → segments.told ≡ told → Judges told old.course course (Ok kind) → HearsText old (text_at course segments kind) piece (Ok size)
      by_told None e h =
          let answer_is : Ok kind ≡ Ok None = h.1 in
          let none : kind ≡ None = cc (answer_is) in
          subst (λ (k : Course). HearsText old (text_at k segments kind) piece (Ok size)) (sym h.0)
          (subst (λ (k : Option PartKind). HearsText old (text_at old.course segments k) piece (Ok size)) (sym none) (untold_heard e))
      by_told (Some seg) e h = segment_ok seg e course h.0 kind h.1

  pub judged_err : (course : Course) (fault : EnvelopeFault) → Judges segments.told old.course course (Err fault) → HearsText old (text_at course segments None) piece (Err fault)
  judged_err course fault j = by_told segments.told refl j
    where
      by_told : (told : Option Seg) → segments.told ≡ told → Judges told old.course course (Err fault) → HearsText old (text_at course segments None) piece (Err fault)
      by_told None e h = let no = h.1 in cc (no)
      by_told (Some seg) e h = segment_err seg e course h.0 fault h.1

-- ---- what is kept

pub starts_behind : (begun : Left) (segments : Stream) (found : ℕ) → EndsAt begun segments → found ≤ begun.place → IfSome segments.told (λ seg. found ≤ seg.start)
starts_behind begun segments found e few = by_told segments.told e
  where
    by_told : (told : Option Seg) → MatchOption told (segments.begun.place ≡ begun.place) (λ seg. (seg.start ≡ begun.place) × (segments.begun.place ≡ begun.place + length seg.bytes)) → IfSome told (λ seg. found ≤ seg.start)
    by_told None h = tt
    by_told (Some seg) h = omega (arith, h.0, few)

pub few_behind : (old course : Course) (begun : Left) (segments : Stream) (answer : Result (Option PartKind) EnvelopeFault) → EndsAt begun segments → found_at old.standing ≤ begun.place
    → Judges segments.told old course answer → found_at course.standing ≤ segments.begun.place
few_behind old course begun segments answer e few j = by_told segments.told e j
  where
    by_told : (told : Option Seg) → MatchOption told (segments.begun.place ≡ begun.place) (λ seg. (seg.start ≡ begun.place) × (segments.begun.place ≡ begun.place + length seg.bytes))
        → Judges told old course answer → found_at course.standing ≤ segments.begun.place
    by_told None h k = subst (λ (c : Course). found_at c.standing ≤ segments.begun.place) (sym k.0) (omega (arith, h, few))
    by_told (Some seg) h k = omega (arith, h.0, h.1, k.2)
