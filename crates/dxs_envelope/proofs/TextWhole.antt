-- A whole text, taken by a stream of parts.
use Rattle.std.proofs.Common.{◌≡◌, ℕ, ◌+◌, ◌-◌, List, [], ◌∷◌, ◌++◌, length, take, drop, Result, Ok, Err, Option, Some, None, inl, inr, refl, sym, ◌∙◌, ap, subst, arith, append_assoc, append-nil}
use Rattle.std.specs.Prelude.{MatchOption}
use Rattle.std.proofs.lemmas.List.{drop-append-le, take-append-drop}
use Rattle.segments.specs.SegmentCut.{next_of}
use Rattle.segments.specs.Streaming.{IsOpen, Stops, Stream, Takes, after_piece, ahead, reached, taken_by}
use Rattle.segments.specs.Views.{Left, Seg}
use Rattle.segments.specs.declared.segment_fault.SegmentFault.{SegmentFault}
use Rattle.segments.specs.declared.segment_fault.SegmentFault.TheVariants.{NoEnd}
use Rattle.segments.proofs.Spelled.{end_of-next}
use Rattle.segments.proofs.Streams.{Told as StreamTold, err_from, nothing_open, taken_from, taken_so, waits_after}
use Rattle.dxs_envelope.specs.FirstFault.{end_reason}
use Rattle.dxs_envelope.specs.TextParts.{Course, PartAt, Parts, after_segment, answered, fault_at, kind_at, no_parts, parts_left, parts_of, placed_reason}
use Rattle.dxs_envelope.specs.TextPieces.{HearsText, StopsText, TakesText, TextAt, TextStreamed, after_bytes, behind_bytes, each_taken, heard_by, kind_unless, let_go, part_of, text_at, text_left, told_by, told_then, unheard, with_part}
use Rattle.dxs_envelope.specs.declared.fault.EnvelopeFault.{EnvelopeFault}
use Rattle.dxs_envelope.specs.declared.fault.EnvelopeReason.TheVariants as reasons
use Rattle.dxs_envelope.proofs.Parting.{parts_fault, parts_nothing}
use Rattle.dxs_envelope.proofs.Pieced.{after_heard, after_known, known_heard, left_failed, left_sound, segment_err, segment_ok, unread_heard, untold_heard}

-- ---- the end of a text

nothing_more : (begun : Left) → ahead begun [] ≡ begun
nothing_more begun = ap (λ (l : List ℕ). record { rest = l; place = begun.place }) (append-nil begun.rest)

pub left_over : (text : TextAt) → text.course.fault ≡ None → next_of text.segments.begun ≡ Ok None → text_left text [] ≡ no_parts (placed_reason (end_reason text.course.standing) text.segments.begun.place)
left_over text sound over =
    left_sound text [] sound ∙ ap (parts_left text.course.standing) (nothing_more text.segments.begun) ∙ parts_nothing text.course.standing text.segments.begun over

pub left_begun : (text : TextAt) (fault : SegmentFault) → text.course.fault ≡ None → next_of text.segments.begun ≡ Err fault → text_left text [] ≡ no_parts (Some (fault_at text.segments.begun.place (reasons.Segment fault)))
left_begun text fault sound begun =
    left_sound text [] sound ∙ ap (parts_left text.course.standing) (nothing_more text.segments.begun) ∙ parts_fault text.course.standing text.segments.begun fault begun

pub over_place : (begun : Left) → next_of begun ≡ Ok None → begun.place + length begun.rest ≡ begun.place
over_place begun over = omega (arith, ap length (end_of-next begun over))

pub begun_place : (begun : Left) (start : ℕ) → IsOpen begun → next_of begun ≡ Err (NoEnd start) → start ≡ begun.place
begun_place begun start (inl none) e = let no = sym none ∙ e in cc (no)
begun_place begun start (inr waits) e = let both = sym e ∙ waits in cc (both)

pub fault_told : (result : Result (Unit {0}) EnvelopeFault) (known : Option EnvelopeFault) (fault : EnvelopeFault) → known ≡ Some fault → result ≡ Err fault
    → MatchOption known (result ≡ Ok tt) (λ f. result ≡ Err f)
fault_told result known fault e h = subst (λ (k : Option EnvelopeFault). MatchOption k (result ≡ Ok tt) (λ f. result ≡ Err f)) (sym e) h

-- where the text ends no part is left
no_part_left : (text : TextAt) → IsOpen text.segments.begun → (text_left text []).parts ≡ []
no_part_left text waits = by_fault text.course.fault refl waits
  where
    by_fault : (fault : Option EnvelopeFault) → text.course.fault ≡ fault → IsOpen text.segments.begun → (text_left text []).parts ≡ []
    by_fault (Some fault) e w = ap (λ (p : Parts). p.parts) (left_failed text [] fault e)
    by_fault None e (inl none) = ap (λ (p : Parts). p.parts) (left_over text e none)
    by_fault None e (inr begun) = ap (λ (p : Parts). p.parts) (left_begun text (NoEnd text.segments.begun.place) e begun)

-- ---- one call

-- how the stream of segments stands with the course
pub record Waits (text : TextAt) : Type 0 where
  pub waits : IsOpen text.segments.begun
  pub sound : text.course.fault ≡ None → text.segments.fault ≡ None

abbrev Hears : TextAt → List ℕ → Type 0
Hears old piece = (result : Result ℕ EnvelopeFault) × HearsText old (after_bytes old piece) piece result

as_heard : (old new : TextAt) (piece : List ℕ) (result : Result ℕ EnvelopeFault) → HearsText old new piece result → Hears old piece
as_heard old new piece result h = (result, subst (λ (t : TextAt). HearsText old t piece result) h.left h)

module _ (old : TextAt) (piece : List ℕ) (w : Waits old) where
  abbrev new : Stream
  new = after_piece old.segments piece

  told : StreamTold old.segments new piece (taken_by old.segments new)
  told = taken_so old.segments new piece (taken_by old.segments new) w.waits refl refl

  going_on : old.course.fault ≡ None → new.fault ≡ None → Hears old piece
  going_on sound goes = by_told new.told refl
    where
      t : Takes old.segments new piece (reached new - reached old.segments)
      t = (subst (StreamTold old.segments new piece) (taken_from old.segments new (taken_by old.segments new) goes refl) told).0

      by_told : (some : Option Seg) → new.told ≡ some → Hears old piece
      by_told None e = as_heard old (text_at old.course new None) piece (Ok (reached new - reached old.segments)) (untold_heard old piece new (reached new - reached old.segments) sound refl t e)
      by_told (Some seg) e = by_answer (answered course.fault (Some (kind_at old.course.standing seg))) refl
        where
          course : Course
          course = after_segment old.course seg

          by_answer : (answer : Result (Option _) EnvelopeFault) → answer ≡ answered course.fault (Some (kind_at old.course.standing seg)) → Hears old piece
          by_answer (Ok kind) a = as_heard old (text_at course new kind) piece (Ok (reached new - reached old.segments)) (segment_ok old piece new (reached new - reached old.segments) sound refl t seg e course refl kind a)
          by_answer (Err fault) a = as_heard old (text_at course new None) piece (Err fault) (segment_err old piece new (reached new - reached old.segments) sound refl t seg e course refl fault a)

  stopping : (fault : SegmentFault) → old.course.fault ≡ None → new.fault ≡ Some fault → Hears old piece
  stopping fault sound fails =
      let stops : Stops old.segments piece fault = (subst (StreamTold old.segments new piece) (err_from old.segments new (taken_by old.segments new) fault fails refl) told).1 in
      as_heard old _ piece _ (unread_heard old piece new sound (w.sound sound) refl fault (reached new) fails stops refl)

  pub hears : Hears old piece
  hears = by_fault old.course.fault new.fault refl refl
    where
      by_fault : (before : Option EnvelopeFault) (after : Option SegmentFault) → old.course.fault ≡ before → new.fault ≡ after → Hears old piece
      by_fault (Some fault) after e f = as_heard old (let_go old) piece (Err fault) (known_heard old piece fault e)
      by_fault None (Some fault) e f = stopping fault e f
      by_fault None None e f = going_on e f

  told_waits : (some : Option Seg) (s : Stream) → IsOpen s.begun → s.fault ≡ None → Waits (told_by some old.course s)
  told_waits None s waits goes = record { waits = waits; sound = λ _. goes }
  told_waits (Some seg) s waits goes = record { waits = waits; sound = λ _. goes }

  heard_waits : (fault : Option SegmentFault) (s : Stream) → IsOpen s.begun → s.fault ≡ fault → Waits (heard_by fault old.course s)
  heard_waits None s waits goes = told_waits s.told s waits goes
  heard_waits (Some fault) s waits fails = record { waits = waits; sound = λ none. cc (none) }

  pub waits_on : Waits (after_bytes old piece)
  waits_on = by_fault old.course.fault refl
    where
      by_fault : (fault : Option EnvelopeFault) → old.course.fault ≡ fault → Waits (after_bytes old piece)
      by_fault (Some fault) e = subst Waits (sym (after_known old piece fault e)) (record { waits = w.waits; sound = w.sound })
      by_fault None e = subst Waits (sym (after_heard old piece e)) (heard_waits new.fault new (waits_after old.segments piece w.waits) refl)

-- behind a fault no part is told
fails_untold : (old : TextAt) (piece : List ℕ) (fault : EnvelopeFault) → (after_bytes old piece).course.fault ≡ Some fault → (after_bytes old piece).told ≡ None
fails_untold old piece fault fails = by_fault old.course.fault refl
  where
    by_course : (seg : Seg) (s : Stream) (course : Course) → course.fault ≡ Some fault → part_of (kind_unless course.fault (kind_at old.course.standing seg)) s.told ≡ None
    by_course seg s course e = ap (λ (f : Option EnvelopeFault). part_of (kind_unless f (kind_at old.course.standing seg)) s.told) e

    told_untold : (some : Option Seg) (s : Stream) → (told_by some old.course s).course.fault ≡ Some fault → (told_by some old.course s).told ≡ None
    told_untold None s e = refl
    told_untold (Some seg) s e = by_course seg s (after_segment old.course seg) e

    heard_untold : (known : Option SegmentFault) (s : Stream) → (heard_by known old.course s).course.fault ≡ Some fault → (heard_by known old.course s).told ≡ None
    heard_untold None s e = told_untold s.told s e
    heard_untold (Some f) s e = refl

    by_fault : (known : Option EnvelopeFault) → old.course.fault ≡ known → (after_bytes old piece).told ≡ None
    by_fault (Some f) e = ap (λ (t : TextAt). t.told) (after_known old piece f e)
    by_fault None e =
        let is = after_heard old piece e in
        ap (λ (t : TextAt). t.told) is
        ∙ heard_untold (after_piece old.segments piece).fault (after_piece old.segments piece) (ap (λ (t : TextAt). t.course.fault) (sym is) ∙ fails)

-- ---- calls one after another

-- what was told, and what is still to be told
abbrev pub all_parts : TextStreamed → Parts
all_parts s = record { parts = s.parts ++ (text_left s.text s.more).parts; fault = (text_left s.text s.more).fault }

abbrev one_taken : ℕ → TextStreamed → TextStreamed
one_taken size s = behind_bytes s (after_bytes s.text (take size s.more))

part_on : (parts : List PartAt) (told : Option PartAt) (later : Parts)
    → (let a : Parts = record { parts = parts ++ (told_then told later).parts; fault = (told_then told later).fault } in a) ≡ record { parts = with_part parts told ++ later.parts; fault = later.fault }
part_on parts None later = refl
part_on parts (Some part) later = ap (λ (l : List PartAt). record { parts = l; fault = later.fault }) (sym (append_assoc parts (part ∷ []) later.parts))

module _ (s : TextStreamed) (size : ℕ) where
  abbrev piece : List ℕ
  piece = take size s.more

  abbrev behind : TextAt
  behind = after_bytes s.text piece

  whole : piece ++ drop size s.more ≡ s.more
  whole = take-append-drop size s.more

  taken : (count : ℕ) → TakesText s.text behind piece count → all_parts s ≡ all_parts (one_taken size s)
  taken count t =
      let rest : drop count piece ++ drop size s.more ≡ drop count s.more = sym (drop-append-le count piece (drop size s.more) t.inside) ∙ ap (drop count) whole in
      let size_is : count ≡ reached behind.segments - reached s.text.segments = omega (arith, t.reach) in
      let tells : text_left s.text s.more ≡ told_then behind.told (text_left behind (drop (reached behind.segments - reached s.text.segments) s.more)) =
      ap (text_left s.text) (sym whole) ∙ t.tells (drop size s.more) ∙ ap (λ (l : List ℕ). told_then behind.told (text_left behind l)) (rest ∙ ap (λ (n : ℕ). drop n s.more) size_is) in
      ap (λ (p : Parts). record { parts = s.parts ++ p.parts; fault = p.fault }) tells
      ∙ part_on s.parts behind.told (text_left behind (drop (reached behind.segments - reached s.text.segments) s.more))

  stopped : (fault : EnvelopeFault) → behind.course.fault ≡ Some fault → behind.told ≡ None → StopsText s.text piece fault → all_parts s ≡ all_parts (one_taken size s)
  stopped fault fails none stops =
      let tells : text_left s.text s.more ≡ no_parts (Some fault) = ap (text_left s.text) (sym whole) ∙ stops (drop size s.more) in
      ap (λ (p : Parts). record { parts = s.parts ++ p.parts; fault = p.fault }) tells
      ∙ sym (ap (λ (p : Parts). record { parts = with_part s.parts behind.told ++ p.parts; fault = p.fault }) (left_failed behind (drop (reached behind.segments - reached s.text.segments) s.more) fault fails)
      ∙ ap (λ (t : Option PartAt). record { parts = with_part s.parts t ++ []; fault = Some fault }) none)

  pub same_parts : Waits s.text → all_parts s ≡ all_parts (one_taken size s)
  same_parts w = by_answer (hears s.text piece w).0 (hears s.text piece w).1
    where
      by_fault : (after : Option EnvelopeFault) (fault : EnvelopeFault) → behind.course.fault ≡ after → HearsText s.text behind piece (Err fault) → all_parts s ≡ all_parts (one_taken size s)
      by_fault None fault e h =
          let no : Err fault ≡ Ok (reached behind.segments - reached s.text.segments) = h.answer ∙ ap (λ (f : Option EnvelopeFault). answered f (reached behind.segments - reached s.text.segments)) e in
          cc (no)
      by_fault (Some known) fault e h =
          let both : Err fault ≡ Err known = h.answer ∙ ap (λ (f : Option EnvelopeFault). answered f (reached behind.segments - reached s.text.segments)) e in
          let same : fault ≡ known = cc (both) in
          stopped known e (fails_untold s.text piece known e) (subst (StopsText s.text piece) same h.refused)

      by_answer : (result : Result ℕ EnvelopeFault) → HearsText s.text behind piece result → all_parts s ≡ all_parts (one_taken size s)
      by_answer (Ok count) h = taken count h.took
      by_answer (Err fault) h = by_fault behind.course.fault fault refl h

pub all_taken : (sizes : List ℕ) (s : TextStreamed) → Waits s.text → (all_parts s ≡ all_parts (each_taken sizes s)) × Waits (each_taken sizes s).text
unfolding each_taken
all_taken [] s w = (refl, w)
all_taken (size ∷ sizes) s w =
    let later = all_taken sizes (one_taken size s) (waits_on s.text (take size s.more) w) in
    (same_parts s size w ∙ later.0, later.1)

begins : (text : List ℕ) → Waits (unheard text).text
begins text = record { waits = nothing_open 0; sound = λ _. refl }

pub text_parts : (text sizes : List ℕ) → parts_of text ≡ all_parts (each_taken sizes (unheard text))
text_parts text sizes = (all_taken sizes (unheard text) (begins text)).0

pub parts_ended : (text sizes : List ℕ) → (each_taken sizes (unheard text)).more ≡ []
    → parts_of text ≡ record { parts = (each_taken sizes (unheard text)).parts; fault = (text_left (each_taken sizes (unheard text)).text []).fault }
parts_ended text sizes over =
    let all = all_taken sizes (unheard text) (begins text) in
    let end : TextStreamed = each_taken sizes (unheard text) in
    let none : (text_left end.text []).parts ≡ [] = no_part_left end.text all.1.waits in
    all.0 ∙ ap (λ (l : List ℕ). record { parts = end.parts ++ (text_left end.text l).parts; fault = (text_left end.text l).fault }) over
    ∙ ap (λ (l : List PartAt). record { parts = end.parts ++ l; fault = (text_left end.text []).fault }) none
    ∙ ap (λ (l : List PartAt). record { parts = l; fault = (text_left end.text []).fault }) (append-nil end.parts)
