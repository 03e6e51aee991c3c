-- One piece of a text, taken by a stream of segments.
use Rattle.std.proofs.Common.{◌≡◌, ℕ, ◌+◌, ◌-◌, ◌<◌, ◌≤◌, ◌^◌, Bool, true, false, is_some, List, [], ◌∷◌, ◌++◌, length, drop, Result, Ok, Err, Option, Some, None, IfOk, IfErr, inl, inr, refl, sym, ◌∙◌, ap, subst, arith, append_assoc, length-append, add-zero}
use Rattle.std.proofs.lemmas.List.{drop_all, drop-append-le}
use Rattle.std.proofs.Math.Seq.{drop-append-add}
use Rattle.segments.specs.declared.segment_fault.SegmentFault.{SegmentFault}
use Rattle.segments.specs.Views.{Seg, Left}
use Rattle.segments.specs.SegmentCut.{next_of, left_after, behind, left_by}
use Rattle.segments.specs.Streaming.{IsOpen, KeepsStream, MovesOn, Stops, Stream, Takes, after_piece, ahead, begun_or, ended_by, heard_as, lasting, reached, stream_of, taken_by, unless_failed, unless_fault, without_told}
use Rattle.segments.proofs.Extended.{fault_more, lasting_is, no_end_at, open_shorter, segment_more}
use Rattle.segments.proofs.Spelled.{next_front, next_of-end}

-- ---- what is kept

pub nothing_open : (place : ℕ) → IsOpen (record { rest = []; place = place })
nothing_open place = inl (next_of-end (record { rest = []; place = place }) refl)

pub empty_kept : (place : ℕ) (held ends : List ℕ) → held ≡ [] → place < 2 ^ 64 → KeepsStream place held ends false
empty_kept place held ends none placed = record {
  placed = omega (arith, ap length none);
  part = inl (next_of-end (record { rest = held; place = place }) none);
}

pub open_begun : (place : ℕ) (held ends : List ℕ) (whole : Bool) (fault : Option SegmentFault) → KeepsStream place held ends whole → IsOpen (stream_of place held whole fault).begun
open_begun place held ends true fault k = nothing_open (place + length held)
open_begun place held ends false fault k = k.part

pub untold : (place : ℕ) (held : List ℕ) (whole : Bool) (fault : Option SegmentFault) → (stream_of place held whole fault).told ≡ None → whole ≡ false
untold place held true fault e = cc
untold place held false fault e = refl

pub fault_is : (place : ℕ) (held : List ℕ) (whole : Bool) (fault : Option SegmentFault) → (stream_of place held whole fault).fault ≡ fault
fault_is place held true fault = refl
fault_is place held false fault = refl

-- ---- one piece

pub after_failed : (stream : Stream) (piece : List ℕ) (fault : SegmentFault) → stream.fault ≡ Some fault → without_told stream ≡ after_piece stream piece
unfolding after_piece
after_failed stream piece fault e = sym (ap (λ (f : Option SegmentFault). unless_failed f stream (heard_as (ahead stream.begun piece) (next_of (ahead stream.begun piece)))) e)

pub after_heard : (stream : Stream) (piece : List ℕ) → stream.fault ≡ None → after_piece stream piece ≡ heard_as (ahead stream.begun piece) (next_of (ahead stream.begun piece))
unfolding after_piece
after_heard stream piece e = ap (λ (f : Option SegmentFault). unless_failed f stream (heard_as (ahead stream.begun piece) (next_of (ahead stream.begun piece)))) e

pub after_untold : (stream : Stream) (piece : List ℕ) → stream.fault ≡ None → after_piece (without_told stream) piece ≡ after_piece stream piece
after_untold stream piece e = after_heard (without_told stream) piece e ∙ sym (after_heard stream piece e)

-- what is waits is kept
pub heard_open : (left : Left) → IsOpen left → heard_as left (next_of left) ≡ begun_or None left
heard_open left (inl none) = ap (heard_as left) none
heard_open left (inr none) = ap (heard_as left) none

passed_by : (seg : Seg) (left : Left) → next_of left ≡ Ok (Some seg) → left_after left ≡ behind left (length seg.bytes)
unfolding left_after
passed_by seg left e = ap (left_by left) e

-- ---- what was taken

module _ (old new : Stream) (piece : List ℕ) (waits : IsOpen old.begun) (sound : old.fault ≡ None) where
  -- no segment ends in the piece, and no fault stands there
  goes_on : new ≡ begun_or None (ahead old.begun piece) → Takes old new piece (reached new - reached old)
  goes_on e =
      let long = length-append old.begun.rest piece in
      let far : reached (begun_or None (ahead old.begun piece)) ≡ reached old + length piece = omega arith in
      let far_new : reached new ≡ reached old + length piece = ap reached e ∙ far in
      let size : reached new - reached old ≡ length piece = omega arith in
      record {
        sound = sound;
        goes = ap (λ (s : Stream). s.fault) e;
        inside = omega arith;
        some = λ some. omega arith;
        all = λ none. size;
        reach = omega arith;
        moves = λ more. subst (λ (s : Stream). MovesOn s.told (ahead old.begun (piece ++ more)) (ahead s.begun (drop (reached new - reached old) piece ++ more))) (sym e) (same more (reached new - reached old) (omega arith));
      }
    where
      same : (more : List ℕ) (size : ℕ) → length piece ≤ size → ahead (ahead old.begun piece) (drop size piece ++ more) ≡ ahead old.begun (piece ++ more)
      same more size all =
          ap (λ (l : List ℕ). ahead (ahead old.begun piece) (l ++ more)) (drop_all size piece all)
          ∙ ap (λ (l : List ℕ). record { rest = l; place = old.begun.place }) (append_assoc old.begun.rest piece more)

  -- a segment ends in the piece
  ends_in : (seg : Seg) → next_of (ahead old.begun piece) ≡ Ok (Some seg) → new ≡ heard_as (ahead old.begun piece) (Ok (Some seg)) → Takes old new piece (reached new - reached old)
  ends_in seg read e =
      let shorter = open_shorter old.begun piece seg waits read in
      let front = next_front (ahead old.begun piece) seg read in
      let whole = ap length front.there ∙ length-append seg.bytes (left_after (ahead old.begun piece)).rest in
      let long = length-append old.begun.rest piece in
      let far : reached new ≡ old.begun.place + length seg.bytes = ap reached e ∙ add-zero (old.begun.place + length seg.bytes) in
      let size : length old.begun.rest + (reached new - reached old) ≡ length seg.bytes = omega arith in
      let inside : reached new - reached old ≤ length piece = omega arith in
      record {
        sound = sound;
        goes = ap (λ (s : Stream). s.fault) e;
        inside = inside;
        some = λ some. omega arith;
        all = λ none. let told : Some seg ≡ None = sym (ap (λ (s : Stream). s.told) e) ∙ none in cc;
        reach = omega arith;
        moves = λ more. subst (λ (s : Stream). MovesOn s.told (ahead old.begun (piece ++ more)) (ahead s.begun (drop (reached new - reached old) piece ++ more))) (sym e)
            (next_is more, passed more (reached new - reached old) size inside);
      }
    where
      joined : (more : List ℕ) → ahead (ahead old.begun piece) more ≡ ahead old.begun (piece ++ more)
      joined more = ap (λ (l : List ℕ). record { rest = l; place = old.begun.place }) (append_assoc old.begun.rest piece more)

      next_is : (more : List ℕ) → next_of (ahead old.begun (piece ++ more)) ≡ Ok (Some seg)
      next_is more = ap next_of (sym (joined more)) ∙ (segment_more (ahead old.begun piece) more seg read).0

      passed : (more : List ℕ) (size : ℕ) → length old.begun.rest + size ≡ length seg.bytes → size ≤ length piece
          → left_after (ahead old.begun (piece ++ more)) ≡ record { rest = drop size piece ++ more; place = old.begun.place + length seg.bytes }
      passed more size is inside =
          let rest : drop (length seg.bytes) (old.begun.rest ++ (piece ++ more)) ≡ drop size piece ++ more =
          ap (λ (n : ℕ). drop n (old.begun.rest ++ (piece ++ more))) (sym is) ∙ drop-append-add old.begun.rest (piece ++ more) size ∙ drop-append-le size piece more inside in
          passed_by seg (ahead old.begun (piece ++ more)) (next_is more) ∙ ap (λ (l : List ℕ). record { rest = l; place = old.begun.place + length seg.bytes }) rest

pub taken_from : (old new : Stream) (result : Result ℕ SegmentFault) → new.fault ≡ None → result ≡ taken_by old new → result ≡ Ok (reached new - reached old)
taken_from old new result goes e = e ∙ ap (λ (f : Option SegmentFault). unless_fault f (reached new - reached old)) goes

pub err_from : (old new : Stream) (result : Result ℕ SegmentFault) (fault : SegmentFault) → new.fault ≡ Some fault → result ≡ taken_by old new → result ≡ Err fault
err_from old new result fault fails e = e ∙ ap (λ (f : Option SegmentFault). unless_fault f (reached new - reached old)) fails

-- what an answer tells: so many bytes were taken, or a fault stands there
abbrev pub Told : Stream → Stream → List ℕ → Result ℕ SegmentFault → Type 0
Told old new piece result = IfOk result (λ size. Takes old new piece size) × IfErr result (λ fault. Stops old piece fault)

told_ok : (old new : Stream) (piece : List ℕ) (result : Result ℕ SegmentFault) → Takes old new piece (reached new - reached old) → result ≡ taken_by old new → Told old new piece result
told_ok old new piece result t e = subst (Told old new piece) (sym (taken_from old new result t.goes e)) (t, tt)

stops_unless : (old : Stream) (piece : List ℕ) (fault : SegmentFault) → old.fault ≡ None → ((more : List ℕ) → next_of (ahead old.begun (piece ++ more)) ≡ Err fault) → Stops old piece fault
stops_unless old piece fault sound h = rw sound h

by_answer : (old new : Stream) (piece : List ℕ) (result : Result ℕ SegmentFault) (answer : Result (Option Seg) SegmentFault) → IsOpen old.begun → old.fault ≡ None → next_of (ahead old.begun piece) ≡ answer
    → new ≡ heard_as (ahead old.begun piece) answer → result ≡ taken_by old new → Told old new piece result
by_answer old new piece result (Ok (Some seg)) waits sound read e is = told_ok old new piece result (ends_in old new piece waits sound seg read e) is
by_answer old new piece result (Ok None) waits sound read e is = told_ok old new piece result (goes_on old new piece waits sound e) is
by_answer old new piece result (Err fault) waits sound read e is = by_lasting (lasting fault) refl
  where
    by_lasting : (lasts : Option SegmentFault) → lasting fault ≡ lasts → Told old new piece result
    by_lasting None lasts = told_ok old new piece result (goes_on old new piece waits sound (e ∙ ap (λ (f : Option SegmentFault). begun_or f (ahead old.begun piece)) lasts)) is
    by_lasting (Some stands) lasts =
        let same = lasting_is fault stands lasts in
        let here : lasting fault ≡ Some fault = lasts ∙ ap (λ (f : SegmentFault). Some f) same in
        let failed : new.fault ≡ Some fault = ap (λ (s : Stream). s.fault) (e ∙ ap (λ (f : Option SegmentFault). begun_or f (ahead old.begun piece)) here) in
        let stops = stops_unless old piece fault sound (λ more.
        ap (λ (l : List ℕ). next_of (record { rest = l; place = old.begun.place })) (sym (append_assoc old.begun.rest piece more)) ∙ fault_more (ahead old.begun piece) more fault here read) in
        subst (Told old new piece) (sym (err_from old new result fault failed is)) (tt, stops)

pub known_fault : (old : Stream) (piece : List ℕ) (fault : SegmentFault) → old.fault ≡ Some fault → Stops old piece fault
known_fault old piece fault e = rw e refl

pub taken_so : (old new : Stream) (piece : List ℕ) (result : Result ℕ SegmentFault) → IsOpen old.begun → new ≡ after_piece old piece → result ≡ taken_by old new → Told old new piece result
taken_so old new piece result waits left is = by_fault old.fault refl
  where
    by_fault : (fault : Option SegmentFault) → old.fault ≡ fault → Told old new piece result
    by_fault None e = by_answer old new piece result (next_of (ahead old.begun piece)) waits e refl (left ∙ after_heard old piece e) is
    by_fault (Some fault) e =
        let failed : new.fault ≡ Some fault = ap (λ (s : Stream). s.fault) (left ∙ sym (after_failed old piece fault e)) ∙ e in
        subst (Told old new piece) (sym (err_from old new result fault failed is)) (tt, known_fault old piece fault e)

-- ---- one byte

abbrev PushTold : Stream → Stream → List ℕ → Result Bool SegmentFault → Type 0
PushTold old new piece answer = IfOk answer (λ _. Takes old new piece 1) × IfErr answer (λ fault. Stops old piece fault)

pub pushed_so : (old new : Stream) (byte : ℕ) (answer : Result Bool SegmentFault) → IsOpen old.begun → new ≡ after_piece old (byte ∷ []) → answer ≡ ended_by new → PushTold old new (byte ∷ []) answer
pushed_so old new byte answer waits left is = by_fault new.fault refl (taken_so old new (byte ∷ []) (taken_by old new) waits left refl)
  where
    one : (size : ℕ) → Takes old new (byte ∷ []) size → Takes old new (byte ∷ []) 1
    one size t =
        let inside = t.inside in
        let some = t.some (omega arith) in
        let same : size ≡ 1 = omega arith in
        subst (Takes old new (byte ∷ [])) same t

    by_fault : (fault : Option SegmentFault) → new.fault ≡ fault → Told old new (byte ∷ []) (taken_by old new) → PushTold old new (byte ∷ []) answer
    by_fault None e t =
        let took = (subst (Told old new (byte ∷ [])) (taken_from old new (taken_by old new) e refl) t).0 in
        let answer_is = is ∙ ap (λ (f : Option SegmentFault). unless_fault f (is_some new.told)) e in
        subst (PushTold old new (byte ∷ [])) (sym answer_is) (one (reached new - reached old) took, tt)
    by_fault (Some fault) e t =
        let stops = (subst (Told old new (byte ∷ [])) (err_from old new (taken_by old new) fault e refl) t).1 in
        let answer_is = is ∙ ap (λ (f : Option SegmentFault). unless_fault f (is_some new.told)) e in
        subst (PushTold old new (byte ∷ [])) (sym answer_is) (tt, stops)

-- ---- what waits stays so

pub waits_after : (stream : Stream) (piece : List ℕ) → IsOpen stream.begun → IsOpen (after_piece stream piece).begun
waits_after stream piece waits = by_fault stream.fault refl
  where
    left : Left
    left = ahead stream.begun piece

    heard_waits : (answer : Result (Option Seg) SegmentFault) → next_of left ≡ answer → IsOpen (heard_as left answer).begun
    heard_waits (Ok (Some seg)) e = nothing_open (left.place + length seg.bytes)
    heard_waits (Ok None) e = inl e
    heard_waits (Err fault) e = by_lasting (lasting fault) refl
      where
        by_lasting : (lasts : Option SegmentFault) → lasting fault ≡ lasts → IsOpen (begun_or (lasting fault) left).begun
        by_lasting None lasts = subst (λ (f : Option SegmentFault). IsOpen (begun_or f left).begun) (sym lasts) (no_end_at left fault lasts e)
        by_lasting (Some stands) lasts = subst (λ (f : Option SegmentFault). IsOpen (begun_or f left).begun) (sym lasts) (nothing_open left.place)

    by_fault : (fault : Option SegmentFault) → stream.fault ≡ fault → IsOpen (after_piece stream piece).begun
    by_fault None e = subst (λ (s : Stream). IsOpen s.begun) (sym (after_heard stream piece e)) (heard_waits (next_of left) refl)
    by_fault (Some fault) e = subst (λ (s : Stream). IsOpen s.begun) (after_failed stream piece fault e) waits

-- behind a fault nothing is told
pub failed_untold : (stream : Stream) (piece : List ℕ) (fault : SegmentFault) → (after_piece stream piece).fault ≡ Some fault → (after_piece stream piece).told ≡ None
failed_untold stream piece fault fails = by_fault stream.fault refl
  where
    left : Left
    left = ahead stream.begun piece

    heard_untold : (answer : Result (Option Seg) SegmentFault) → (heard_as left answer).fault ≡ Some fault → (heard_as left answer).told ≡ None
    heard_untold (Ok (Some seg)) e = cc
    heard_untold (Ok None) e = refl
    heard_untold (Err other) e = by_lasting (lasting other)
      where
        by_lasting : (lasts : Option SegmentFault) → (begun_or lasts left).told ≡ None
        by_lasting None = refl
        by_lasting (Some stands) = refl

    by_fault : (known : Option SegmentFault) → stream.fault ≡ known → (after_piece stream piece).told ≡ None
    by_fault None e =
        let is = after_heard stream piece e in
        ap (λ (s : Stream). s.told) is ∙ heard_untold (next_of left) (ap (λ (s : Stream). s.fault) (sym is) ∙ fails)
    by_fault (Some known) e = ap (λ (s : Stream). s.told) (sym (after_failed stream piece known e))
