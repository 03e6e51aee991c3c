-- Each set that is told stands in the text at its start.
use Rattle.std.proofs.Common.{◌≡◌, ℕ, ◌+◌, true, false, List, [], ◌∷◌, ◌++◌, length, take, drop, codes, Option, Some, None, refl, sym, ◌∙◌, ap, subst, inl, inr, arith, append_assoc, append-nil, length-append}
use Rattle.std.specs.Prelude.{All, IfSome}
use Rattle.std.proofs.Math.Seq.{drop-append_seam, take-append_seam}
use Rattle.std.proofs.lemmas.Bool.{cases_Bool}
use Rattle.std.proofs.lemmas.List.Elements.{All-append, All-cons, All-nil}
use Rattle.segments.specs.Views.{has_id}
use Rattle.segments.specs.SegmentCut.{cut_of, text_start}
use Rattle.segments.specs.SegmentSpelling.{SpellsSegment, SpellsSegments}
use Rattle.segments.specs.Views.{Seg}
use Rattle.segments.specs.declared.segment_fault.SegmentFault.{SegmentFault}
use Rattle.segments.proofs.Cutting.{is_cut}
use Rattle.dxs_envelope.specs.FirstFault.{Standing, Front, Between, Inside, Behind, after, ended_by, end_reason, longer, reason_at, told_at, told_end, told_first, told_from, told_of, whole}
use Rattle.dxs_envelope.specs.Transmission.{StandsIn}
use Rattle.dxs_envelope.specs.Views.{SetAt, Told}
use Rattle.dxs_envelope.specs.declared.fault.EnvelopeReason.{EnvelopeReason}
use Rattle.dxs_envelope.proofs.Shifted.{spelled_append}

-- ---- a set that is open

-- before this place stand an ST and segments that are no SE, and before them whole segments up to the set
pub record IsOpen (set : SetAt) (before : List ℕ) : Type 0 where
  pub front : List ℕ
  pub past : List Seg
  pub spelled_past : SpellsSegments 0 past front
  pub first : Seg
  pub inside : List Seg
  pub joined : before ≡ front ++ set.bytes
  pub start : set.start ≡ length front
  pub spelled : SpellsSegments set.start (first ∷ inside) set.bytes
  pub begins : has_id first (codes "ST") ≡ true
  pub goes_on : All (λ seg. has_id seg (codes "SE") ≡ false) inside

abbrev pub StandsOpen : Standing → List ℕ → Type 0
StandsOpen Front before = Unit {0}
StandsOpen (Between control found) before = Unit {0}
StandsOpen (Inside control found set) before = IsOpen set before
StandsOpen Behind before = Unit {0}

pub one_spelled : (place : ℕ) (seg : Seg) → SpellsSegment seg → seg.start ≡ place → SpellsSegments place (seg ∷ []) seg.bytes
one_spelled place seg is start = (is, start, ([], sym (append-nil seg.bytes), refl))

-- where the bytes of the set end
behind_open : (set : SetAt) (before : List ℕ) → IsOpen set before → length before ≡ set.start + length set.bytes
behind_open set before o = omega (arith, ap length o.joined, length-append o.front set.bytes, o.start)

longer_spelled : (set : SetAt) (before : List ℕ) (seg : Seg) (o : IsOpen set before) → SpellsSegment seg → seg.start ≡ length before
    → SpellsSegments set.start (o.first ∷ o.inside ++ seg ∷ []) (set.bytes ++ seg.bytes)
longer_spelled set before seg o is start =
    spelled_append (o.first ∷ o.inside) (seg ∷ []) set.start set.bytes seg.bytes o.spelled
    (one_spelled (set.start + length set.bytes) seg is (start ∙ behind_open set before o))

opened : (before : List ℕ) (done : List Seg) (seg : Seg) → SpellsSegments 0 done before → SpellsSegment seg → seg.start ≡ length before → has_id seg (codes "ST") ≡ true
    → IsOpen (record { start = seg.start; bytes = seg.bytes }) (before ++ seg.bytes)
opened before done seg past is start begins = record {
  front = before;
  past = done;
  spelled_past = past;
  first = seg;
  inside = [];
  joined = refl;
  start = start;
  spelled = one_spelled seg.start seg is refl;
  begins = begins;
  goes_on = All-nil (λ s. has_id s (codes "SE") ≡ false);
}

last_on : (inside : List Seg) (seg : Seg) → All (λ s. has_id s (codes "SE") ≡ false) inside → has_id seg (codes "SE") ≡ false → All (λ s. has_id s (codes "SE") ≡ false) (inside ++ seg ∷ [])
last_on inside seg h e = All-append (λ s. has_id s (codes "SE") ≡ false) inside (seg ∷ []) h (All-cons (λ s. has_id s (codes "SE") ≡ false) seg [] e (All-nil (λ s. has_id s (codes "SE") ≡ false)))

stays_open : (set : SetAt) (before : List ℕ) (seg : Seg) → IsOpen set before → SpellsSegment seg → seg.start ≡ length before → has_id seg (codes "SE") ≡ false
    → IsOpen (longer set seg) (before ++ seg.bytes)
stays_open set before seg o is start other = record {
  front = o.front;
  past = o.past;
  spelled_past = o.spelled_past;
  first = o.first;
  inside = o.inside ++ seg ∷ [];
  joined = ap (λ (l : List ℕ). l ++ seg.bytes) o.joined ∙ append_assoc o.front set.bytes seg.bytes;
  start = o.start;
  spelled = longer_spelled set before seg o is start;
  begins = o.begins;
  goes_on = last_on o.inside seg o.goes_on other;
}

closed : (text : List ℕ) (set : SetAt) (before rest : List ℕ) (seg : Seg) → IsOpen set before → text ≡ before ++ (seg.bytes ++ rest)
    → SpellsSegment seg → seg.start ≡ length before → has_id seg (codes "SE") ≡ true → StandsIn text (longer set seg)
closed text set before rest seg o joined is start ends =
    let bytes : List ℕ = set.bytes ++ seg.bytes in
    let there : text ≡ o.front ++ (bytes ++ rest) =
    joined ∙ sym (append_assoc before seg.bytes rest)
    ∙ ap (λ (l : List ℕ). (l ++ seg.bytes) ++ rest) o.joined
    ∙ ap (λ (l : List ℕ). l ++ rest) (append_assoc o.front set.bytes seg.bytes)
    ∙ append_assoc o.front bytes rest in
    let front : take set.start text ≡ o.front =
    ap (λ (n : ℕ). take n text) o.start ∙ ap (take (length o.front)) there ∙ take-append_seam o.front (bytes ++ rest) in
    record {
      before = o.past;
      behind = subst (SpellsSegments 0 o.past) (sym front) o.spelled_past;
      within = omega (arith, o.start, ap length there, length-append o.front (bytes ++ rest), length-append bytes rest);
      there = ap (λ (n : ℕ). take (length bytes) (drop n text)) o.start ∙ ap (λ (l : List ℕ). take (length bytes) (drop (length o.front) l)) there
          ∙ ap (take (length bytes)) (drop-append_seam o.front (bytes ++ rest)) ∙ take-append_seam bytes rest;
      segments = o.first ∷ o.inside ++ seg ∷ [];
      spelled = longer_spelled set before seg o is start;
      whole = record { first = o.first; inside = o.inside; last = seg; joined = refl; begins = o.begins; goes_on = o.goes_on; ends = ends };
    }

-- ---- a segment more

module _ (text before rest : List ℕ) (done : List Seg) (seg : Seg) (joined : text ≡ before ++ (seg.bytes ++ rest)) (past : SpellsSegments 0 done before) (is : SpellsSegment seg) (start : seg.start ≡ length before) where
  moves_open : (s : Standing) → StandsOpen s before → StandsOpen (after s seg) (before ++ seg.bytes)
  moves_open Front o = tt
  moves_open (Between control found) o = elim (cases_Bool (has_id seg (codes "ST"))) [
    | inl begins ↦ rw begins (opened before done seg past is start begins)
    | inr other ↦ rw other tt
  ]
  moves_open (Inside control found set) o = elim (cases_Bool (has_id seg (codes "SE"))) [
    | inl ends ↦ rw ends tt
    | inr other ↦ rw other (stays_open set before seg o is start other)
  ]
  moves_open Behind o = tt

  ended_stands : (s : Standing) → StandsOpen s before → IfSome (ended_by s seg) (StandsIn text)
  ended_stands Front o = tt
  ended_stands (Between control found) o = tt
  ended_stands (Inside control found set) o = elim (cases_Bool (has_id seg (codes "SE"))) [
    | inl ends ↦ rw ends (closed text set before rest seg o joined is start ends)
    | inr other ↦ rw other tt
  ]
  ended_stands Behind o = tt

-- ---- what is told

all_at : (P : SetAt → Type 0) (reason : Option EnvelopeReason) (place : ℕ) (later : Told) → All P later.sets → All P (told_at reason place later).sets
all_at P (Some reason) place later h = All-nil P
all_at P None place later h = h

all_first : (P : SetAt → Type 0) (set : Option SetAt) (later : Told) → IfSome set P → All P later.sets → All P (told_first set later).sets
all_first P (Some set) later p h = All-cons P set later.sets p h
all_first P None later p h = h

all_end : (P : SetAt → Type 0) (fault : Option SegmentFault) (reason : Option EnvelopeReason) (place : ℕ) → All P (told_end fault reason place).sets
all_end P (Some fault) reason place = All-nil P
all_end P None reason place = all_at P reason place whole (All-nil P)

sets_stand : (segs done : List Seg) (s : Standing) (fault : Option SegmentFault) (text before front rest : List ℕ) (place : ℕ) → place ≡ length before
    → text ≡ before ++ (front ++ rest) → SpellsSegments 0 done before → SpellsSegments place segs front → StandsOpen s before → All (StandsIn text) (told_from s place segs fault).sets
unfolding told_from
sets_stand [] done s fault text before front rest place at joined past spelled o = all_end (StandsIn text) fault (end_reason s) place
sets_stand (seg ∷ segs) done s fault text before front rest place at joined past (is, start, (later, parts, behind)) o =
    let there : text ≡ before ++ (seg.bytes ++ (later ++ rest)) =
    joined ∙ ap (λ (l : List ℕ). before ++ (l ++ rest)) parts ∙ ap (λ (l : List ℕ). before ++ l) (append_assoc seg.bytes later rest) in
    let beyond : text ≡ (before ++ seg.bytes) ++ (later ++ rest) = there ∙ sym (append_assoc before seg.bytes (later ++ rest)) in
    let first = start ∙ at in
    let next : seg.start + length seg.bytes ≡ length (before ++ seg.bytes) = omega (arith, first, length-append before seg.bytes) in
    let along : seg.start ≡ 0 + length before = omega (arith, first) in
    let one = spelled_append done (seg ∷ []) 0 before seg.bytes past (one_spelled (0 + length before) seg is along) in
    let more : SpellsSegments (seg.start + length seg.bytes) segs later = subst (λ (n : ℕ). SpellsSegments (n + length seg.bytes) segs later) (sym start) behind in
    all_at (StandsIn text) (reason_at s seg) seg.start (told_first (ended_by s seg) (told_from (after s seg) (seg.start + length seg.bytes) segs fault))
    (all_first (StandsIn text) (ended_by s seg) (told_from (after s seg) (seg.start + length seg.bytes) segs fault)
    (ended_stands text before (later ++ rest) done seg there past is first s o)
    (sets_stand segs (done ++ seg ∷ []) (after s seg) fault text (before ++ seg.bytes) later rest (seg.start + length seg.bytes) next beyond one more
    (moves_open text before (later ++ rest) done seg there past is first s o)))

pub told_stand : (text : List ℕ) → All (StandsIn text) (told_of text).sets
told_stand text =
    let cut = is_cut (text_start text) in
    sets_stand (cut_of text).segments [] Front (cut_of text).fault text [] cut.front cut.rest 0 refl cut.joined refl cut.spelled tt
