-- A piece, byte after byte.
use Rattle.std.proofs.Common.{◌≡◌, ℕ, ◌-◌, List, [], ◌∷◌, ◌++◌, drop, Ok, Err, Option, Some, None, refl, sym, ◌∙◌, ap, subst, arith, append-nil}
use Rattle.std.specs.Prelude.{MatchOption}
use Rattle.std.proofs.lemmas.List.{drop_all}
use Rattle.segments.specs.declared.segment_fault.SegmentFault.{SegmentFault}
use Rattle.segments.specs.Views.{Seg, Left}
use Rattle.segments.specs.SegmentCut.{next_of}
use Rattle.segments.specs.Streaming.{IsOpen, MovesOn, Stops, Stream, Takes, after_piece, ahead, begun_or, heard_as, lasting, push_each, pushed_on, reached, taken_by, without_told}
use Rattle.segments.proofs.Streams.{Told, after_failed, after_heard, after_untold, err_from, failed_untold, heard_open, taken_from, taken_so, waits_after}

-- no bytes only end the lending
pub after_nothing : (stream : Stream) → IsOpen stream.begun → after_piece stream [] ≡ without_told stream
after_nothing stream waits = by_fault stream.fault refl
  where
    same : ahead stream.begun [] ≡ stream.begun
    same = ap (λ (l : List ℕ). record { rest = l; place = stream.begun.place }) (append-nil stream.begun.rest)

    by_fault : (fault : Option SegmentFault) → stream.fault ≡ fault → after_piece stream [] ≡ without_told stream
    by_fault (Some fault) e = sym (after_failed stream [] fault e)
    by_fault None e =
        after_heard stream [] e ∙ ap (λ (l : Left). heard_as l (next_of l)) same ∙ heard_open stream.begun waits
        ∙ ap (λ (f : Option SegmentFault). record { begun = stream.begun; told = None; fault = f }) (sym e)

untold_same : (stream : Stream) → stream.told ≡ None → without_told stream ≡ stream
untold_same stream e = ap (λ (t : Option Seg). record { begun = stream.begun; told = t; fault = stream.fault }) (sym e)

pub after_untold_all : (stream : Stream) (piece : List ℕ) → after_piece (without_told stream) piece ≡ after_piece stream piece
after_untold_all stream piece = by_fault stream.fault refl
  where
    by_fault : (fault : Option SegmentFault) → stream.fault ≡ fault → after_piece (without_told stream) piece ≡ after_piece stream piece
    by_fault None e = after_untold stream piece e
    by_fault (Some fault) e = sym (after_failed (without_told stream) piece fault e) ∙ after_failed stream piece fault e

module _ (s : Stream) (byte : ℕ) (more : List ℕ) (waits : IsOpen s.begun) where
  abbrev new : Stream
  new = after_piece s (byte ∷ [])

  told : Told s new (byte ∷ []) (taken_by s new)
  told = taken_so s new (byte ∷ []) (taken_by s new) waits refl refl

  took : new.fault ≡ None → Takes s new (byte ∷ []) (reached new - reached s)
  took goes = (subst (Told s new (byte ∷ [])) (taken_from s new (taken_by s new) goes refl) told).0

  -- it was failed before
  failed : (fault : SegmentFault) → s.fault ≡ Some fault → after_piece s (byte ∷ more) ≡ new
  failed fault e = sym (after_failed s (byte ∷ more) fault e) ∙ after_failed s (byte ∷ []) fault e

  -- a fault is answered at this byte
  stopped : (fault : SegmentFault) → s.fault ≡ None → new.fault ≡ Some fault → after_piece s (byte ∷ more) ≡ new
  stopped fault sound fails =
      let stops : Stops s (byte ∷ []) fault = (subst (Told s new (byte ∷ [])) (err_from s new (taken_by s new) fault fails refl) told).1 in
      let here : next_of (ahead s.begun (byte ∷ [])) ≡ Err fault = stops_so s.fault sound stops [] in
      let there : next_of (ahead s.begun (byte ∷ more)) ≡ Err fault = stops_so s.fault sound stops more in
      let is : new ≡ begun_or (lasting fault) (ahead s.begun (byte ∷ [])) = after_heard s (byte ∷ []) sound ∙ ap (heard_as (ahead s.begun (byte ∷ []))) here in
      let all : after_piece s (byte ∷ more) ≡ begun_or (lasting fault) (ahead s.begun (byte ∷ more)) = after_heard s (byte ∷ more) sound ∙ ap (heard_as (ahead s.begun (byte ∷ more))) there in
      all ∙ alike (lasting fault) (ap (λ (t : Stream). t.fault) (sym is) ∙ fails) ∙ sym is
    where
      stops_so : (known : Option SegmentFault) → known ≡ None → MatchOption known ((more : List ℕ) → next_of (ahead s.begun ((byte ∷ []) ++ more)) ≡ Err fault) (λ stands. stands ≡ fault) → (more : List ℕ) → next_of (ahead s.begun (byte ∷ more)) ≡ Err fault
      stops_so None e h = h
      stops_so (Some stands) e h = cc

      alike : (lasts : Option SegmentFault) → (begun_or lasts (ahead s.begun (byte ∷ []))).fault ≡ Some fault → begun_or lasts (ahead s.begun (byte ∷ more)) ≡ begun_or lasts (ahead s.begun (byte ∷ []))
      alike None e = cc
      alike (Some stands) e = refl

  -- the byte ends a segment
  ended : (seg : Seg) → new.fault ≡ None → new.told ≡ Some seg → after_piece s (byte ∷ more) ≡ new
  ended seg goes tells =
      let t = took goes in
      let here : next_of (ahead s.begun (byte ∷ [])) ≡ Ok (Some seg) = lent seg new.told (ahead s.begun (byte ∷ [])) (ahead new.begun (drop (reached new - reached s) (byte ∷ []) ++ [])) tells (t.moves []) in
      let there : next_of (ahead s.begun (byte ∷ more)) ≡ Ok (Some seg) = lent seg new.told (ahead s.begun (byte ∷ more)) (ahead new.begun (drop (reached new - reached s) (byte ∷ []) ++ more)) tells (t.moves more) in
      after_heard s (byte ∷ more) t.sound ∙ ap (heard_as (ahead s.begun (byte ∷ more))) there
      ∙ sym (after_heard s (byte ∷ []) t.sound ∙ ap (heard_as (ahead s.begun (byte ∷ []))) here)
    where
      lent : (seg : Seg) (told : Option Seg) (old new : Left) → told ≡ Some seg → MovesOn told old new → next_of old ≡ Ok (Some seg)
      lent seg None old new e m = cc
      lent seg (Some other) old new e m = m.0 ∙ ap (λ (t : Option Seg). Ok t) e

  -- it goes on
  went_on : new.fault ≡ None → new.told ≡ None → after_piece s (byte ∷ more) ≡ after_piece new more
  went_on goes none =
      let t = took goes in
      let size = t.all none in
      let left : ahead new.begun (drop (reached new - reached s) (byte ∷ []) ++ more) ≡ ahead s.begun (byte ∷ more) = unmoved new.told (ahead s.begun (byte ∷ more)) (ahead new.begun (drop (reached new - reached s) (byte ∷ []) ++ more)) none (t.moves more) in
      let rest : drop (reached new - reached s) (byte ∷ []) ≡ [] = drop_all (reached new - reached s) (byte ∷ []) (omega (arith, size)) in
      let same : ahead s.begun (byte ∷ more) ≡ ahead new.begun more = sym left ∙ ap (λ (l : List ℕ). ahead new.begun (l ++ more)) rest in
      after_heard s (byte ∷ more) t.sound ∙ ap (λ (l : Left). heard_as l (next_of l)) same ∙ sym (after_heard new more goes)
    where
      unmoved : (told : Option Seg) (old new : Left) → told ≡ None → MovesOn told old new → new ≡ old
      unmoved None old new e m = m
      unmoved (Some seg) old new e m = cc

  pub one_more : (later : Stream) → (new.told ≡ None → later ≡ after_piece new more) → after_piece s (byte ∷ more) ≡ pushed_on new.told new.fault new later
  one_more later is = by_both new.told new.fault s.fault refl refl refl
    where
      by_both : (told : Option Seg) (fault known : Option SegmentFault) → new.told ≡ told → new.fault ≡ fault → s.fault ≡ known → after_piece s (byte ∷ more) ≡ pushed_on told fault new later
      by_both None None known e f k = went_on f e ∙ sym (is e)
      by_both None (Some fault) None e f k = stopped fault k f
      by_both None (Some fault) (Some known) e f k = failed known k
      by_both (Some seg) None known e f k = ended seg f e
      by_both (Some seg) (Some fault) known e f k =
          let no : Some seg ≡ None = sym e ∙ failed_untold s (byte ∷ []) fault f in
          cc

pub each_byte : (piece : List ℕ) (stream : Stream) → IsOpen stream.begun → after_piece stream piece ≡ push_each (without_told stream) piece
unfolding push_each
each_byte [] stream waits = after_nothing stream waits
each_byte (byte ∷ more) stream waits =
    let now = without_told stream in
    let next = after_piece now (byte ∷ []) in
    let later = each_byte more next (waits_after now (byte ∷ []) waits) in
    sym (after_untold_all stream (byte ∷ more))
    ∙ one_more now byte more waits (push_each next more) (λ none. sym (later ∙ ap (λ (s : Stream). push_each s more) (untold_same next none)))

pub bytes_are : (stream : Stream) (piece : List ℕ) → IsOpen stream.begun → after_piece stream piece ≡ push_each (after_piece stream []) piece
bytes_are stream piece waits = each_byte piece stream waits ∙ ap (λ (s : Stream). push_each s piece) (sym (after_nothing stream waits))
