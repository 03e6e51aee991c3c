-- A whole text, taken by a stream of segments.
use Rattle.std.proofs.Common.{◌≡◌, ◌⊎◌, ℕ, ◌-◌, ◌==◌, if◌then◌else◌, Bool, true, false, is_some, List, [], ◌∷◌, ◌++◌, length, take, drop, Ok, Err, Option, Some, None, inl, inr, refl, sym, ◌∙◌, ap, subst, arith, append_assoc, append-nil}
use Rattle.std.proofs.lemmas.Bool.Decides.{nat_tests}
use Rattle.std.proofs.lemmas.List.{drop-append-le, take-append-drop}
use Rattle.segments.specs.declared.segment_fault.SegmentFault.{SegmentFault}
use Rattle.segments.specs.declared.segment_fault.SegmentFault.TheVariants.{NoEnd}
use Rattle.segments.specs.Elements.{◌or_else◌}
use Rattle.segments.specs.Views.{Seg, Left}
use Rattle.segments.specs.SegmentCut.{Cut, cut_left, cut_of, next_of}
use Rattle.segments.specs.Streaming.{IsOpen, MovesOn, Stops, Stream, Streamed, Takes, after_piece, ahead, begun_at, cut_ahead, cut_or, each_call, fault_at_end, no_end, one_call, reached, taken_by, unread, with_told, without_told}
use Rattle.segments.proofs.Spelled.{end_of-next}
use Rattle.segments.proofs.Stepping.{step_end, step_fault, step_segment}
use Rattle.segments.proofs.Streams.{Told, after_failed, err_from, failed_untold, nothing_open, taken_from, taken_so, waits_after}

-- ---- calls one after another

-- what was told, and what is still to be told
abbrev pub all_of : Streamed → Cut
all_of s = record { segments = s.segments ++ (cut_ahead s).segments; fault = (cut_ahead s).fault }

moved_cut : (segments : List Seg) (told : Option Seg) (old new : Left) → MovesOn told old new
    → (let a : Cut = record { segments = segments ++ (cut_left old).segments; fault = (cut_left old).fault } in a) ≡ record { segments = with_told segments told ++ (cut_left new).segments; fault = (cut_left new).fault }
moved_cut segments None old new e = ap (λ (l : Left). record { segments = segments ++ (cut_left l).segments; fault = (cut_left l).fault }) (sym e)
moved_cut segments (Some seg) old new e =
    let step = step_segment old seg e.0 ∙ ap (λ (l : Left). record { segments = seg ∷ (cut_left l).segments; fault = (cut_left l).fault }) e.1 in
    ap (λ (c : Cut). record { segments = segments ++ c.segments; fault = c.fault }) step
    ∙ ap (λ (l : List Seg). record { segments = l; fault = (cut_left new).fault }) (sym (append_assoc segments (seg ∷ []) (cut_left new).segments))

module _ (s : Streamed) (size : ℕ) (waits : IsOpen s.stream.begun) where
  abbrev piece : List ℕ
  piece = take size s.more

  abbrev new : Stream
  new = after_piece s.stream piece

  abbrev taken : ℕ
  taken = reached new - reached s.stream

  whole : piece ++ drop size s.more ≡ s.more
  whole = take-append-drop size s.more

  told : Told s.stream new piece (taken_by s.stream new)
  told = taken_so s.stream new piece (taken_by s.stream new) waits refl refl

  -- it was failed before
  same_failed : (fault : SegmentFault) → s.stream.fault ≡ Some fault → all_of s ≡ all_of (one_call size s)
  same_failed fault e =
      let is : new ≡ without_told s.stream = sym (after_failed s.stream piece fault e) in
      let known : new.fault ≡ Some fault = ap (λ (t : Stream). t.fault) is ∙ e in
      let none : new.told ≡ None = ap (λ (t : Stream). t.told) is in
      ap (λ (f : Option SegmentFault). record { segments = s.segments ++ (cut_or f (cut_left (ahead s.stream.begun s.more))).segments; fault = (cut_or f (cut_left (ahead s.stream.begun s.more))).fault }) e
      ∙ sym (ap (λ (f : Option SegmentFault). record { segments = with_told s.segments new.told ++ (cut_or f (cut_left (ahead new.begun (drop taken s.more)))).segments; fault = (cut_or f (cut_left (ahead new.begun (drop taken s.more)))).fault }) known
      ∙ ap (λ (t : Option Seg). record { segments = with_told s.segments t ++ []; fault = Some fault }) none)

  -- a fault is answered
  same_stopped : (fault : SegmentFault) → s.stream.fault ≡ None → new.fault ≡ Some fault → all_of s ≡ all_of (one_call size s)
  same_stopped fault sound fails =
      let stops : Stops s.stream piece fault = (subst (Told s.stream new piece) (err_from s.stream new (taken_by s.stream new) fault fails refl) told).1 in
      let read = stops_so s.stream piece fault sound stops (drop size s.more) in
      let read_all : next_of (ahead s.stream.begun s.more) ≡ Err fault = ap (λ (l : List ℕ). next_of (ahead s.stream.begun l)) (sym whole) ∙ read in
      let none = failed_untold s.stream piece fault fails in
      ap (λ (f : Option SegmentFault). record { segments = s.segments ++ (cut_or f (cut_left (ahead s.stream.begun s.more))).segments; fault = (cut_or f (cut_left (ahead s.stream.begun s.more))).fault }) sound
      ∙ ap (λ (c : Cut). record { segments = s.segments ++ c.segments; fault = c.fault }) (step_fault (ahead s.stream.begun s.more) fault read_all)
      ∙ sym (ap (λ (f : Option SegmentFault). record { segments = with_told s.segments new.told ++ (cut_or f (cut_left (ahead new.begun (drop taken s.more)))).segments; fault = (cut_or f (cut_left (ahead new.begun (drop taken s.more)))).fault }) fails
      ∙ ap (λ (t : Option Seg). record { segments = with_told s.segments t ++ []; fault = Some fault }) none)
    where
      stops_so : (old : Stream) (piece : List ℕ) (fault : SegmentFault) → old.fault ≡ None → Stops old piece fault → (more : List ℕ) → next_of (ahead old.begun (piece ++ more)) ≡ Err fault
      stops_so old piece fault sound h = rw sound at h

  -- it goes on
  same_taken : s.stream.fault ≡ None → new.fault ≡ None → all_of s ≡ all_of (one_call size s)
  same_taken sound goes =
      let t : Takes s.stream new piece taken = (subst (Told s.stream new piece) (taken_from s.stream new (taken_by s.stream new) goes refl) told).0 in
      let rest : drop taken piece ++ drop size s.more ≡ drop taken s.more = sym (drop-append-le taken piece (drop size s.more) t.inside) ∙ ap (drop taken) whole in
      let moves : MovesOn new.told (ahead s.stream.begun s.more) (ahead new.begun (drop taken s.more)) =
      subst (λ (l : List ℕ). MovesOn new.told (ahead s.stream.begun s.more) (ahead new.begun l)) rest
      (subst (λ (l : List ℕ). MovesOn new.told (ahead s.stream.begun l) (ahead new.begun (drop taken piece ++ drop size s.more))) whole (t.moves (drop size s.more))) in
      ap (λ (f : Option SegmentFault). record { segments = s.segments ++ (cut_or f (cut_left (ahead s.stream.begun s.more))).segments; fault = (cut_or f (cut_left (ahead s.stream.begun s.more))).fault }) sound
      ∙ moved_cut s.segments new.told (ahead s.stream.begun s.more) (ahead new.begun (drop taken s.more)) moves
      ∙ sym (ap (λ (f : Option SegmentFault). record { segments = with_told s.segments new.told ++ (cut_or f (cut_left (ahead new.begun (drop taken s.more)))).segments; fault = (cut_or f (cut_left (ahead new.begun (drop taken s.more)))).fault }) goes)

  pub same_all : all_of s ≡ all_of (one_call size s)
  same_all = by_fault s.stream.fault new.fault refl refl
    where
      by_fault : (before after : Option SegmentFault) → s.stream.fault ≡ before → new.fault ≡ after → all_of s ≡ all_of (one_call size s)
      by_fault (Some fault) after e f = same_failed fault e
      by_fault None (Some fault) e f = same_stopped fault e f
      by_fault None None e f = same_taken e f

  pub waits_on : IsOpen (one_call size s).stream.begun
  waits_on = waits_after s.stream piece waits

pub all_calls : (sizes : List ℕ) (s : Streamed) → IsOpen s.stream.begun → (all_of s ≡ all_of (each_call sizes s)) × IsOpen (each_call sizes s).stream.begun
unfolding each_call
all_calls [] s waits = (refl, waits)
all_calls (size ∷ sizes) s waits =
    let later = all_calls sizes (one_call size s) (waits_on s size waits) in
    (same_all s size waits ∙ later.0, later.1)

pub text_told : (text sizes : List ℕ) → cut_of text ≡ all_of (each_call sizes (unread text))
text_told text sizes = (all_calls sizes (unread text) (nothing_open 0)).0

-- ---- the end

no_end_by : (rest : List ℕ) (place : ℕ) → next_of (record { rest = rest; place = place }) ≡ Err (NoEnd place)
    → (let c : Cut = record { segments = []; fault = Some (NoEnd place) } in c) ≡ record { segments = []; fault = no_end (begun_at (record { rest = rest; place = place })) }
unfolding next_of
no_end_by [] place e = let no : Ok None ≡ Err (NoEnd place) = e in cc
no_end_by (byte ∷ rest) place e =
    let some : (length (byte ∷ rest) == 0) ≡ false = grind (arith, nat_tests) in
    ap (λ (test : Bool). record { segments = []; fault = no_end (if test then None else Some place) }) (sym some)

cut_waits : (begun : Left) → IsOpen begun → cut_left begun ≡ record { segments = []; fault = no_end (begun_at begun) }
cut_waits begun (inl none) =
    step_end begun none ∙ ap (λ (l : List ℕ). record { segments = []; fault = no_end (begun_at (record { rest = l; place = begun.place })) }) (sym (end_of-next begun none))
cut_waits begun (inr waits) = step_fault begun (NoEnd begun.place) waits ∙ no_end_by begun.rest begun.place waits

ended : (s : Streamed) → IsOpen s.stream.begun → (s.more ≡ []) ⊎ (is_some s.stream.fault ≡ true) → cut_ahead s ≡ record { segments = []; fault = fault_at_end s.stream }
ended s waits over = by_fault s.stream.fault over
  where
    by_fault : (fault : Option SegmentFault) → (s.more ≡ []) ⊎ (is_some fault ≡ true) → cut_or fault (cut_left (ahead s.stream.begun s.more)) ≡ record { segments = []; fault = fault or_else no_end (begun_at s.stream.begun) }
    by_fault (Some fault) over = refl
    by_fault None (inr fails) = cc
    by_fault None (inl none) =
        ap (λ (l : List ℕ). cut_left (ahead s.stream.begun l)) none ∙ ap (λ (l : List ℕ). cut_left (record { rest = l; place = s.stream.begun.place })) (append-nil s.stream.begun.rest)
        ∙ cut_waits s.stream.begun waits

pub text_ended : (text sizes : List ℕ) → ((each_call sizes (unread text)).more ≡ []) ⊎ (is_some (each_call sizes (unread text)).stream.fault ≡ true)
    → cut_of text ≡ record { segments = (each_call sizes (unread text)).segments; fault = fault_at_end (each_call sizes (unread text)).stream }
text_ended text sizes over =
    let all = all_calls sizes (unread text) (nothing_open 0) in
    let end = each_call sizes (unread text) in
    all.0 ∙ ap (λ (c : Cut). record { segments = end.segments ++ c.segments; fault = c.fault }) (ended end all.1 over)
    ∙ ap (λ (l : List Seg). record { segments = l; fault = fault_at_end end.stream }) (append-nil end.segments)
