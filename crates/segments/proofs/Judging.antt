-- From the ends that were found, at most 32, to the parts of a segment.
use Rattle.std.proofs.Common.{◌≡◌, ℕ, ◌+◌, ◌<◌, ◌≤◌, ◌^◌, true, List, [], length, take, min, get_or, Ok, Err, sym, ◌∙◌, ap, arith}
use Rattle.std.proofs.lemmas.Bool.Decides.{nat_tests}
use Rattle.std.proofs.lemmas.List.{length-take, take_all, take_min}
use Rattle.segments.specs.declared.segment_fault.SegmentFault.TheVariants.{TooManyElements}
use Rattle.segments.specs.Views.{Seg}
use Rattle.segments.specs.SegmentSpelling.{is_id}
use Rattle.segments.specs.SegmentCut.{parts_of, seg_at, with_parts}
use Rattle.segments.specs.PartEnds.{IsSpelled, KeepsSegment, ends_from}
use Rattle.segments.specs.declared.segment.TheConstants.{SEGMENT_ELEMENTS}
use Rattle.segments.proofs.Parted.{length-ends_from}
use Rattle.segments.proofs.Scan.{some_of-parts}

module _ (bytes ends : List ℕ) (e : ends ≡ take 32 (ends_from 0 (parts_of bytes))) where
  found : length ends ≡ min 32 (length (parts_of bytes))
  found = ap length e ∙ length-take 32 (ends_from 0 (parts_of bytes)) ∙ ap (min 32) (length-ends_from 0 (parts_of bytes))

  pub some_found : 0 < length ends
  some_found =
      let f = found in
      let some = some_of-parts bytes in
      omega arith

  pub front_found : ends ≡ take (length ends) (ends_from 0 (parts_of bytes))
  front_found =
      let all : List ℕ = ends_from 0 (parts_of bytes) in
      let size : min 32 (length all) ≡ length ends = sym (length-take 32 all) ∙ sym (ap length e) in
      e ∙ sym (take_min 32 all) ∙ ap (λ (n : ℕ). take n all) size

  pub all_found : length ends ≤ SEGMENT_ELEMENTS + 1 → ends ≡ ends_from 0 (parts_of bytes)
  all_found few =
      let f = found in
      let many = length-ends_from 0 (parts_of bytes) in
      e ∙ take_all 32 (ends_from 0 (parts_of bytes)) (omega arith)

  pub few_found : length ends ≤ SEGMENT_ELEMENTS + 1 → length (parts_of bytes) ≤ SEGMENT_ELEMENTS + 1
  few_found few = let f = found in omega arith

  pub many_found : SEGMENT_ELEMENTS + 1 < length ends → SEGMENT_ELEMENTS + 1 < length (parts_of bytes)
  many_found many = let f = found in omega arith

too_many : (seg : Seg) → is_id (get_or seg.parts 0 []) ≡ true → SEGMENT_ELEMENTS + 1 < length seg.parts → Err (TooManyElements seg.start) ≡ with_parts seg
too_many seg id many = grind (arith, nat_tests)

pub too_many_at : (start : ℕ) (bytes : List ℕ) → is_id (get_or (parts_of bytes) 0 []) ≡ true → SEGMENT_ELEMENTS + 1 < length (parts_of bytes) → Err (TooManyElements start) ≡ with_parts (seg_at start bytes)
too_many_at start bytes id many = too_many (seg_at start bytes) id many

pub a_segment : (seg : Seg) → is_id (get_or seg.parts 0 []) ≡ true → length seg.parts ≤ SEGMENT_ELEMENTS + 1 → Ok seg ≡ with_parts seg
a_segment seg id few = grind (arith, nat_tests)

pub a_segment_at : (start : ℕ) (bytes : List ℕ) → is_id (get_or (parts_of bytes) 0 []) ≡ true → length (parts_of bytes) ≤ SEGMENT_ELEMENTS + 1 → Ok (seg_at start bytes) ≡ with_parts (seg_at start bytes)
a_segment_at start bytes id few = a_segment (seg_at start bytes) id few

-- what is judged is spelled
pub kept_at : (start : ℕ) (bytes ends : List ℕ) → IsSpelled bytes → is_id (get_or (parts_of bytes) 0 []) ≡ true → length (parts_of bytes) ≤ SEGMENT_ELEMENTS + 1 → ends ≡ ends_from 0 (parts_of bytes) → start + length bytes < 2 ^ 64 → KeepsSegment start bytes ends
kept_at start bytes ends s id few parted placed = record {
  spelled = record { segment = record { characters = s.characters; id = id; few = few }; spelled = s.spelled; short = s.short };
  parted = parted;
  placed = placed;
}
