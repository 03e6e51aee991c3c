-- The bytes that are held, with those of a piece that decide.
use Rattle.std.proofs.Common.{◌≡◌, ◌⊎◌, ℕ, zero, suc, ◌+◌, ◌-◌, ◌<◌, ◌≤◌, ◌==◌, Bool, true, false, List, [], ◌∷◌, ◌++◌, length, take, drop, get_or, Result, Ok, Err, Option, Some, None, inl, inr, refl, sym, ◌∙◌, ap, subst, arith, append_assoc, append-nil, length-append}
use Rattle.std.proofs.lemmas.Bool.Decides.{nat_tests}
use Rattle.std.proofs.lemmas.Bool.{cases_eq, cases_lt}
use Rattle.std.proofs.lemmas.List.{drop_all, get_or_append_left, get_or-append-add}
use Rattle.std.proofs.Math.Seq.{get_or-append_seam}
use Rattle.std.specs.List.{AllPass}
use Rattle.segments.specs.declared.segment_fault.SegmentFault.{SegmentFault}
use Rattle.segments.specs.declared.segment_fault.SegmentFault.TheVariants.{NoEnd}
use Rattle.segments.specs.declared.segment.TheConstants.{SEGMENT_BYTES}
use Rattle.segments.specs.PartEnds.{IsJudged, KeepsSegment}
use Rattle.segments.specs.Views.{Seg, Left}
use Rattle.segments.specs.SegmentSpelling.{is_inside}
use Rattle.segments.specs.SegmentRefusal.{EndsInside}
use Rattle.segments.specs.SegmentCut.{first_of, next_of, seg_at, some_of}
use Rattle.segments.specs.Streaming.{Decides, IsOpen, JudgesOn, Stream, after_piece, ahead, begun_at, begun_or, heard_as, lasting, stream_of}
use Rattle.segments.proofs.Complete.{some_left}
use Rattle.segments.proofs.Extended.{fault_more, lasting_is, no_end_at, open_shorter, segment_more}
use Rattle.segments.proofs.Refused.{fault_of-next, next_of-first}
use Rattle.segments.proofs.Spelled.{bytes_some, end_of-next, next_of-end}
use Rattle.segments.proofs.Streams.{after_heard, fault_is, heard_open, nothing_open, untold}

-- ---- an answer at the front of what is held, and at what is held with the whole piece

module _ (place : ℕ) (old piece front held : List ℕ) (joined : held ≡ old ++ front) (begins : piece ≡ front ++ drop (length front) piece) where
  abbrev here : Left
  here = record { rest = held; place = place }

  longer : ahead here (drop (length front) piece) ≡ record { rest = old ++ piece; place = place }
  longer =
      ap (λ (l : List ℕ). record { rest = l; place = place })
      (ap (λ (l : List ℕ). l ++ drop (length front) piece) joined ∙ append_assoc old front (drop (length front) piece) ∙ ap (λ (l : List ℕ). old ++ l) (sym begins))

  next_of-segment : (seg : Seg) → 0 < length held → first_of place held ≡ Ok seg → next_of here ≡ Ok (Some seg)
  unfolding next_of
  next_of-segment seg some e = some_left held (some_of (first_of place held)) some ∙ ap some_of e

  pub ends_there : (size : ℕ) (ends new : List ℕ) → IsOpen (record { rest = old; place = place }) → IsJudged place held ends size → new ≡ take size held → JudgesOn place old piece new ends (Ok true)
  ends_there size ends new waits judged is =
      let seg : Seg = seg_at place (take size held) in
      let bytes = bytes_some seg judged.kept.spelled in
      let some : 0 < length held = some_held size held bytes in
      let read = next_of-segment seg some judged.first in
      let read_all : next_of (record { rest = old ++ piece; place = place }) ≡ Ok (Some seg) = ap next_of (sym longer) ∙ (segment_more here (drop (length front) piece) seg read).0 in
      let shorter = open_shorter (record { rest = old; place = place }) piece seg waits read_all in
      subst (λ (l : List ℕ). KeepsSegment place l ends × (next_of (record { rest = old ++ piece; place = place }) ≡ Ok (Some (seg_at place l))) × (length old ≤ length l)) (sym is)
      (judged.kept, read_all, omega arith)
    where
      some_held : (size : ℕ) (held : List ℕ) → 0 < length (take size held) → 0 < length held
      some_held size [] h = absurd (none_taken size h)
        where
          none_taken : (size : ℕ) → 0 < length (let none : List ℕ = [] in take size none) → ⊥
          none_taken zero h = omega arith
          none_taken (suc size) h = omega arith
      some_held size (byte ∷ held) h = omega arith

  none_first : (fault : SegmentFault) → first_of place [] ≡ Err fault → lasting fault ≡ None
  unfolding first_of
  none_first fault e = ap lasting (sym (same (NoEnd place) fault e))
    where
      same : (a b : SegmentFault) → (let r : Result Seg SegmentFault = Err a in r) ≡ Err b → a ≡ b
      same a b h = cc

  pub fails_there : (fault stands : SegmentFault) (new : List ℕ) (ends : List ℕ) → first_of place held ≡ Err fault → lasting fault ≡ Some stands → new ≡ [] → JudgesOn place old piece new ends (Err stands)
  fails_there fault stands new ends e lasts none =
      let same = lasting_is fault stands lasts in
      let lasts_so : lasting stands ≡ Some stands = ap lasting same ∙ lasts in
      let some = some_failed held fault stands e lasts in
      let read : next_of here ≡ Err stands = next_of-first here fault some e ∙ ap (λ (f : SegmentFault). Err f) (sym same) in
      (ap next_of (sym longer) ∙ fault_more here (drop (length front) piece) stands lasts_so read, lasts_so, none)
    where
      some_failed : (held : List ℕ) (fault stands : SegmentFault) → first_of place held ≡ Err fault → lasting fault ≡ Some stands → 0 < length held
      some_failed [] fault stands e lasts = let no : None ≡ Some stands = sym (none_first fault e) ∙ lasts in cc
      some_failed (byte ∷ held) fault stands e lasts = omega arith

  -- what waits has all bytes of the piece: it has no LF and not as many bytes as decide
  pub waits_there : (fault : SegmentFault) (room : ℕ) → Decides piece front room → room ≡ SEGMENT_BYTES + 1 - length old → first_of place held ≡ Err fault → lasting fault ≡ None
      → IsOpen here × (held ≡ old ++ piece)
  waits_there fault room d room_is e lasts = elim (cases_eq (length held) 0) [
    | inl none ↦
        let empty : held ≡ [] = nothing held none in
        let sum = ap length joined ∙ length-append old front in (
          inl (next_of-end here empty),
          joined ∙ ap (λ (l : List ℕ). old ++ l) (elim d.enough [
            | inl all ↦ all
            | inr other ↦ elim other [
              | inl full ↦ absurd (omega arith)
              | inr feed ↦ absurd (let under = feed.1 in omega arith)
            ]
          ]),
        )
    | inr some ↦
        let read : next_of here ≡ Err fault = next_of-first here fault (omega arith) e in
        let waits : IsOpen here = no_end_at here fault lasts read in
        let inside : EndsInside here = (fault_of-next here (NoEnd place) (no_end waits (λ none. some (ap length (end_of-next here none))))).1 in
        let sum = ap length joined ∙ length-append old front in (
          waits,
          joined ∙ ap (λ (l : List ℕ). old ++ l) (elim d.enough [
            | inl all ↦ all
            | inr other ↦ elim other [
              | inl full ↦ let short = inside.short in absurd (omega arith)
              | inr feed ↦
                  let under = feed.1 in
                  let at : get_or held (length old + feed.0) 0 ≡ 10 = ap (λ (l : List ℕ). get_or l (length old + feed.0) 0) joined ∙ get_or-append-add old front feed.0 0 ∙ feed.2 in
                  absurd (no_feed held inside.body inside.after (length old + feed.0) inside.there.joined inside.there.inside inside.over (omega arith) at)
            ]
          ]),
        )
  ]
    where
      nothing : (l : List ℕ) → length l ≡ 0 → l ≡ []
      nothing [] e = refl
      nothing (byte ∷ l) e = absurd (omega arith)

      no_end : IsOpen here → (next_of here ≡ Ok None → ⊥) → next_of here ≡ Err (NoEnd place)
      no_end (inl none) never = absurd (never none)
      no_end (inr waits) never = waits

      no_feed : (held body after : List ℕ) (j : ℕ) → held ≡ body ++ after → AllPass is_inside body → (after ≡ []) ⊎ (after ≡ 13 ∷ []) → j < length held → get_or held j 0 ≡ 10 → ⊥
      no_feed held body after j parts inside over under at = elim (cases_lt j (length body)) [
        | inl before ↦
            let there : get_or body j 0 ≡ 10 = sym (get_or_append_left body after 0 j before) ∙ ap (λ (l : List ℕ). get_or l j 0) (sym parts) ∙ at in
            let no : is_inside 10 ≡ true = ap is_inside (sym there) ∙ inside j 0 before in
            cc
        | inr behind ↦
            let sum = ap length parts ∙ length-append body after in
            elim over [
              | inl none ↦ omega (arith, ap length none)
              | inr return ↦
                  let j_is : j ≡ length body = omega (arith, ap length return) in
                  let whole : held ≡ body ++ 13 ∷ [] = parts ∙ ap (λ (l : List ℕ). body ++ l) return in
                  let thirteen : get_or held j 0 ≡ 13 = ap (λ (l : List ℕ). get_or l j 0) whole ∙ ap (λ (n : ℕ). get_or (body ++ 13 ∷ []) n 0) j_is ∙ get_or-append_seam body 13 [] 0 in
                  let no : 13 ≡ 10 = sym thirteen ∙ at in
                  omega (arith, no)
            ]
      ]

-- ---- where nothing was held

module _ (place : ℕ) (piece : List ℕ) where
  all_begins : piece ≡ piece ++ drop (length piece) piece
  all_begins = sym (ap (λ (l : List ℕ). piece ++ l) (drop_all (length piece) piece (omega arith)) ∙ append-nil piece)

  pub first_ends : (size : ℕ) (ends new : List ℕ) → IsJudged place piece ends size → new ≡ take size piece → JudgesOn place [] piece new ends (Ok true)
  first_ends size ends new judged is = ends_there place [] piece piece piece refl all_begins size ends new (nothing_open place) judged is

  pub first_fails : (fault stands : SegmentFault) (new ends : List ℕ) → first_of place piece ≡ Err fault → lasting fault ≡ Some stands → new ≡ [] → JudgesOn place [] piece new ends (Err stands)
  first_fails fault stands new ends e lasts none = fails_there place [] piece piece piece refl all_begins fault stands new ends e lasts none

  pub first_waits : (fault : SegmentFault) → first_of place piece ≡ Err fault → lasting fault ≡ None → IsOpen (record { rest = piece; place = place })
  first_waits fault e lasts = elim (cases_eq (length piece) 0) [
    | inl none ↦ inl (next_of-end (record { rest = piece; place = place }) (nothing piece none))
    | inr some ↦ no_end_at (record { rest = piece; place = place }) fault lasts (next_of-first (record { rest = piece; place = place }) fault (omega arith) e)
  ]
    where
      nothing : (l : List ℕ) → length l ≡ 0 → l ≡ []
      nothing [] e = refl
      nothing (byte ∷ l) e = absurd (omega arith)

  pub first_fits : (fault : SegmentFault) → first_of place piece ≡ Err fault → lasting fault ≡ None → length piece ≤ SEGMENT_BYTES
  first_fits fault e lasts = by_waiting (first_waits fault e lasts)
    where
      by_waiting : IsOpen (record { rest = piece; place = place }) → length piece ≤ SEGMENT_BYTES
      by_waiting (inl none) = omega (arith, ap length (end_of-next (record { rest = piece; place = place }) none))
      by_waiting (inr waits) = (fault_of-next (record { rest = piece; place = place }) (NoEnd place) waits).1.short

pub no_items : (l : List ℕ) → (length l == 0) ≡ true → l ≡ []
no_items [] e = refl
no_items (byte ∷ l) e = grind (arith, nat_tests)

-- ---- the stream behind a piece

after_judged : (place : ℕ) (old new ends piece : List ℕ) (ended : Bool) → JudgesOn place old piece new ends (Ok ended) → stream_of place new ended None ≡ heard_as (record { rest = old ++ piece; place = place }) (next_of (record { rest = old ++ piece; place = place }))
after_judged place old new ends piece true j = sym (ap (heard_as (record { rest = old ++ piece; place = place })) j.1)
after_judged place old new ends piece false j =
    subst (λ (l : List ℕ). stream_of place new false None ≡ heard_as (record { rest = l; place = place }) (next_of (record { rest = l; place = place }))) j.1 (sym (heard_open (record { rest = new; place = place }) j.0))

after_fault : (place : ℕ) (old new ends piece : List ℕ) (fault : SegmentFault) → JudgesOn place old piece new ends (Err fault) → stream_of place new false (Some fault) ≡ heard_as (record { rest = old ++ piece; place = place }) (next_of (record { rest = old ++ piece; place = place }))
after_fault place old new ends piece fault j =
    ap (λ (l : List ℕ). stream_of place l false (Some fault)) j.2
    ∙ sym (ap (heard_as (record { rest = old ++ piece; place = place })) j.0 ∙ ap (λ (f : Option SegmentFault). begun_or f (record { rest = old ++ piece; place = place })) j.1)

module _ (place : ℕ) (old piece : List ℕ) (whole : Bool) (fault : Option SegmentFault) (self : Stream)
    (is : stream_of place old whole fault ≡ self) (untold_self : self.told ≡ None) (sound : self.fault ≡ None) where
  pub begun_self : whole ≡ false
  begun_self = untold place old whole fault (ap (λ (s : Stream). s.told) is ∙ untold_self)

  pub no_fault : fault ≡ None
  no_fault = sym (fault_is place old whole fault) ∙ ap (λ (s : Stream). s.fault) is ∙ sound

  heard_self : after_piece self piece ≡ heard_as (record { rest = old ++ piece; place = place }) (next_of (record { rest = old ++ piece; place = place }))
  heard_self =
      after_heard self piece sound
      ∙ ap (λ (s : Stream). heard_as (ahead s.begun piece) (next_of (ahead s.begun piece))) (sym is)
      ∙ ap (λ (w : Bool). heard_as (ahead (stream_of place old w fault).begun piece) (next_of (ahead (stream_of place old w fault).begun piece))) begun_self

  pub heard_ok : (new ends : List ℕ) (ended : Bool) → JudgesOn place old piece new ends (Ok ended) → stream_of place new ended fault ≡ after_piece self piece
  heard_ok new ends ended j =
      ap (stream_of place new ended) no_fault ∙ after_judged place old new ends piece ended j ∙ sym heard_self

  pub heard_err : (new ends : List ℕ) (stands : SegmentFault) → JudgesOn place old piece new ends (Err stands) → stream_of place new whole (Some stands) ≡ after_piece self piece
  heard_err new ends stands j =
      ap (λ (w : Bool). stream_of place new w (Some stands)) begun_self ∙ after_fault place old new ends piece stands j ∙ sym heard_self

-- ---- where the text ends

pub begun_where : (begun : Left) (start : ℕ) → begun_at begun ≡ Some start → IsOpen begun → next_of begun ≡ Err (NoEnd start)
begun_where begun start e (inl none) =
    let no : None ≡ Some start = sym (ap (λ (l : List ℕ). begun_at (record { rest = l; place = begun.place })) (end_of-next begun none)) ∙ e in
    cc
begun_where begun start e (inr waits) = waits ∙ ap (λ (n : ℕ). Err (NoEnd n)) (place_of begun.rest begun.place start e)
  where
    place_of : (rest : List ℕ) (place start : ℕ) → begun_at (record { rest = rest; place = place }) ≡ Some start → place ≡ start
    place_of [] place start e = cc
    place_of (byte ∷ rest) place start e = grind (arith, nat_tests)

pub begun_nowhere : (begun : Left) → begun_at begun ≡ None → IsOpen begun → next_of begun ≡ Ok None
begun_nowhere begun e waits = next_of-end begun (nothing begun.rest begun.place e)
  where
    nothing : (rest : List ℕ) (place : ℕ) → begun_at (record { rest = rest; place = place }) ≡ None → rest ≡ []
    nothing [] place e = refl
    nothing (byte ∷ rest) place e = grind (arith, nat_tests)
