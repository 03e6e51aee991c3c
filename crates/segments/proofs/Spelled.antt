-- What is lent is spelled at the front of what was left.
use Rattle.std.proofs.Common.{◌≡◌, ℕ, ◌≤◌, Bool, true, false, cond, nat_eq, nat_lt, List, [], ◌∷◌, ◌++◌, length, take, drop, get_or, Result, Ok, Err, Option, Some, None, IfOk, IfSome, OnErr, inl, inr, refl, sym, ◌∙◌, ap, subst, arith, ◌+◌, ◌<◌, length-append}
use Rattle.std.specs.List.{join_with_byte}
use Rattle.std.proofs.lemmas.Bool.{cases_Bool}
use Rattle.std.proofs.lemmas.Bool.Decides.{nat_tests}
use Rattle.std.proofs.lemmas.List.{take-append-drop, length-take-le}
use Rattle.segments.specs.declared.segment_fault.SegmentFault.{SegmentFault}
use Rattle.segments.specs.declared.segment_fault.SegmentFault.TheVariants.{BadId, TooManyElements}
use Rattle.segments.specs.Views.{Seg, Left}
use Rattle.segments.specs.SegmentSpelling.{IsFront, is_id, IsEnding, SpellsSegment}
use Rattle.segments.specs.SegmentCut.{size_of, parts_of, with_parts, seg_at, with_size, first_of, some_of, next_of, behind, left_by, left_after}
use Rattle.segments.specs.declared.segment.TheConstants.{SEGMENT_ELEMENTS}
use Rattle.segments.proofs.Sized.{IsSized, sized}

-- what passes both tests
few_parts : (seg v : Seg) → cond (nat_lt (SEGMENT_ELEMENTS + 1) (length seg.parts)) (Err (TooManyElements seg.start)) (Ok seg) ≡ Ok v → (v ≡ seg) × (nat_lt (SEGMENT_ELEMENTS + 1) (length seg.parts) ≡ false)
few_parts seg v h = elim (cases_Bool (nat_lt (SEGMENT_ELEMENTS + 1) (length seg.parts))) [
  | inl many ↦ let e : Err (TooManyElements seg.start) ≡ Ok v = rw many at h in cc
  | inr few ↦ let e : Ok seg ≡ Ok v = rw few at h in (cc, few)
]

passed : (seg v : Seg) → with_parts seg ≡ Ok v → (v ≡ seg) × (is_id (get_or seg.parts 0 []) ≡ true) × (nat_lt (SEGMENT_ELEMENTS + 1) (length seg.parts) ≡ false)
passed seg v h = elim (cases_Bool (is_id (get_or seg.parts 0 []))) [
  | inl id ↦ let p = few_parts seg v (rw id at h) in (p.0, id, p.1)
  | inr none ↦ let e : Err (BadId seg.start) ≡ Ok v = rw none at h in cc
]

few_is : (n : ℕ) → nat_lt (SEGMENT_ELEMENTS + 1) n ≡ false → n ≤ SEGMENT_ELEMENTS + 1
few_is n h = grind (arith, nat_tests)

sized_front : (place size : ℕ) (rest : List ℕ) (v : Seg) → IsSized rest size → with_parts (seg_at place (take size rest)) ≡ Ok v → IsFront v (record { rest = rest; place = place }) (behind (record { rest = rest; place = place }) (length v.bytes))
sized_front place size rest v s h =
    let p = passed (seg_at place (take size rest)) v h in
    let few : length (parts_of (take size rest)) ≤ SEGMENT_ELEMENTS + 1 = few_is (length (parts_of (take size rest))) p.2 in
    let long : length (take size rest) ≡ size = length-take-le size rest s.inside in
    let old : Left = record { rest = rest; place = place } in
    let front : IsFront (seg_at place (take size rest)) old (behind old (length (take size rest))) = record {
      spelled = record { segment = record { characters = s.spelled.characters; id = p.1; few = few }; spelled = s.spelled.spelled; short = s.spelled.short };
      start = refl;
      there = sym (take-append-drop size rest) ∙ ap (λ (n : ℕ). take size rest ++ drop n rest) (sym long);
      place = refl;
    } in
    subst (λ (w : Seg). IsFront w old (behind old (length w.bytes))) (sym p.0) front

by_size : (place : ℕ) (rest : List ℕ) (answer : Result ℕ SegmentFault) (v : Seg) → size_of place rest ≡ answer → with_size place rest answer ≡ Ok v → IsFront v (record { rest = rest; place = place }) (behind (record { rest = rest; place = place }) (length v.bytes))
by_size place rest (Err fault) v e h = cc
by_size place rest (Ok size) v e h = sized_front place size rest v (sized place size rest e) h

some_is : (answer : Result Seg SegmentFault) (v : Seg) → some_of answer ≡ Ok (Some v) → answer ≡ Ok v
some_is (Err fault) v h = cc
some_is (Ok seg) v h = cc

-- a segment is lent only where something is left
not_none : (test : Bool) (answer : Result (Option Seg) SegmentFault) (v : Seg) → cond test (Ok None) answer ≡ Ok (Some v) → answer ≡ Ok (Some v)
not_none true answer v h = cc
not_none false answer v h = h

pub next_front : (old : Left) (v : Seg) → next_of old ≡ Ok (Some v) → IsFront v old (left_after old)
unfolding next_of left_after first_of
next_front old v h =
    let there = not_none (nat_eq (length old.rest) 0) (some_of (first_of old.place old.rest)) v h in
    let front = by_size old.place old.rest (size_of old.place old.rest) v refl (some_is (first_of old.place old.rest) v there) in
    subst (λ (answer : Result (Option Seg) SegmentFault). IsFront v old (left_by old answer)) (sym h) front

-- the same of an answer and of the reader behind it
pub answer_front : (old new : Left) (answer : Result (Option Seg) SegmentFault) → answer ≡ next_of old → new ≡ left_after old → IfOk answer (λ o. IfSome o (λ v. IsFront v old new))
answer_front old new (Ok (Some v)) e f = subst (λ (w : Left). IsFront v old w) (sym f) (next_front old v (sym e))
answer_front old new (Ok None) e f = tt
answer_front old new (Err fault) e f = tt

-- ---- where the reader stays

pub left_after-fault : (old : Left) (fault : SegmentFault) → next_of old ≡ Err fault → left_after old ≡ old
unfolding left_after
left_after-fault old fault e = ap (left_by old) e

-- ---- the end

pub next_of-end : (old : Left) → old.rest ≡ [] → next_of old ≡ Ok None
unfolding next_of
next_of-end old e = ap (λ (rest : List ℕ). cond (nat_eq (length rest) 0) (Ok None) (some_of (first_of old.place rest))) e

none_is : (answer : Result Seg SegmentFault) → some_of answer ≡ Ok None → ⊥
none_is (Err fault) h = cc
none_is (Ok seg) h = cc

at_end : (rest : List ℕ) (answer : Result (Option Seg) SegmentFault) → (answer ≡ Ok None → ⊥) → cond (nat_eq (length rest) 0) (Ok None) answer ≡ Ok None → rest ≡ []
at_end [] answer never h = refl
at_end (byte ∷ more) answer never h =
    let some : nat_eq (length (byte ∷ more)) 0 ≡ false = grind (arith, nat_tests) in
    absurd (never (rw some at h))

pub end_of-next : (old : Left) → next_of old ≡ Ok None → old.rest ≡ []
unfolding next_of
end_of-next old h = at_end old.rest (some_of (first_of old.place old.rest)) (none_is (first_of old.place old.rest)) h

pub answer_stays : (old new : Left) (answer : Result (Option Seg) SegmentFault) → answer ≡ next_of old → new ≡ left_after old → OnErr answer (new ≡ old)
answer_stays old new (Ok some) e f = tt
answer_stays old new (Err fault) e f = f ∙ left_after-fault old fault (sym e)

-- ---- a segment has bytes

some_bytes : (bytes front ending : List ℕ) → IsEnding ending → bytes ≡ front ++ ending → 0 < length bytes
some_bytes bytes front ending (inl e) joined = omega (arith, ap length joined, length-append front ending, ap length e)
some_bytes bytes front ending (inr e) joined = omega (arith, ap length joined, length-append front ending, ap length e)

pub bytes_some : (seg : Seg) → SpellsSegment seg → 0 < length seg.bytes
bytes_some seg is = some_bytes seg.bytes (join_with_byte 42 seg.parts) is.spelled.0 is.spelled.1 is.spelled.2
