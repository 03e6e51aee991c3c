-- Where a text is no transmission, the place of its fault stands in it behind whole segments.
use Rattle.std.proofs.Common.{◌≡◌, ℕ, ◌+◌, ◌≤◌, List, [], ◌∷◌, ◌++◌, length, take, Option, Some, None, refl, sym, ◌∙◌, ap, subst, arith, append_assoc, length-append}
use Rattle.std.proofs.Math.Seq.{take-append_seam}
use Rattle.std.specs.Prelude.{IfSome}
use Rattle.segments.specs.SegmentCut.{cut_of, text_start}
use Rattle.segments.specs.SegmentSpelling.{SpellsSegments}
use Rattle.segments.specs.Views.{Seg}
use Rattle.segments.specs.declared.segment_fault.SegmentFault.{SegmentFault}
use Rattle.segments.proofs.Cutting.{is_cut}
use Rattle.dxs_envelope.specs.FirstFault.{Standing, Front, after, ended_by, end_reason, first_fault, reason_at, told_at, told_end, told_first, told_from, whole}
use Rattle.dxs_envelope.specs.Views.{SetAt, Told}
use Rattle.dxs_envelope.specs.declared.fault.EnvelopeFault.{EnvelopeFault}
use Rattle.dxs_envelope.specs.declared.fault.EnvelopeReason.{EnvelopeReason}
use Rattle.dxs_envelope.proofs.Shifted.{spelled_append}
use Rattle.dxs_envelope.proofs.Standing.{one_spelled}

-- the place stands in the text, and before it stand these segments
pub record IsPlace (text : List ℕ) (place : ℕ) : Type 0 where
  pub within : place ≤ length text
  pub segments : List Seg
  pub spelled : SpellsSegments 0 segments (take place text)

-- the fault, where there is one, is at such a place
abbrev HasPlace : List ℕ → Option EnvelopeFault → Type 0
HasPlace text fault = IfSome fault (λ f. IsPlace text f.place)

is_place : (text before rest : List ℕ) (segments : List Seg) (place : ℕ) → place ≡ length before → text ≡ before ++ rest → SpellsSegments 0 segments before
    → IsPlace text place
is_place text before rest segments place at joined spelled =
    let front : take place text ≡ before =
    ap (λ (n : ℕ). take n text) at ∙ ap (take (length before)) joined ∙ take-append_seam before rest in
    record {
      within = omega (arith, at, ap length joined, length-append before rest);
      segments = segments;
      spelled = subst (SpellsSegments 0 segments) (sym front) spelled;
    }

at_place : (text : List ℕ) (reason : Option EnvelopeReason) (place : ℕ) (later : Told) → IsPlace text place → HasPlace text later.fault
    → HasPlace text (told_at reason place later).fault
at_place text (Some reason) place later here h = here
at_place text None place later here h = h

first_place : (text : List ℕ) (set : Option SetAt) (later : Told) → HasPlace text later.fault → HasPlace text (told_first set later).fault
first_place text (Some set) later h = h
first_place text None later h = h

end_place : (text : List ℕ) (fault : Option SegmentFault) (reason : Option EnvelopeReason) (place : ℕ) → IsPlace text place
    → HasPlace text (told_end fault reason place).fault
end_place text (Some fault) reason place here = here
end_place text None reason place here = at_place text reason place whole here tt

-- behind these segments of the text, and before those
fault_place : (segs done : List Seg) (s : Standing) (fault : Option SegmentFault) (text before front rest : List ℕ) (place : ℕ) → place ≡ length before
    → text ≡ before ++ (front ++ rest) → SpellsSegments 0 done before → SpellsSegments place segs front → HasPlace text (told_from s place segs fault).fault
unfolding told_from
fault_place [] done s fault text before front rest place at joined past spelled =
    end_place text fault (end_reason s) place (is_place text before (front ++ rest) done place at joined past)
fault_place (seg ∷ segs) done s fault text before front rest place at joined past (is, start, (later, parts, behind)) =
    let first = start ∙ at in
    let there : text ≡ (before ++ seg.bytes) ++ (later ++ rest) =
    joined ∙ ap (λ (l : List ℕ). before ++ (l ++ rest)) parts ∙ ap (λ (l : List ℕ). before ++ l) (append_assoc seg.bytes later rest)
    ∙ sym (append_assoc before seg.bytes (later ++ rest)) in
    let next : seg.start + length seg.bytes ≡ length (before ++ seg.bytes) = omega (arith, first, length-append before seg.bytes) in
    let along : seg.start ≡ 0 + length before = omega (arith, first) in
    let one = spelled_append done (seg ∷ []) 0 before seg.bytes past (one_spelled (0 + length before) seg is along) in
    let more : SpellsSegments (seg.start + length seg.bytes) segs later = subst (λ (n : ℕ). SpellsSegments (n + length seg.bytes) segs later) (sym start) behind in
    let told : Told = told_from (after s seg) (seg.start + length seg.bytes) segs fault in
    at_place text (reason_at s seg) seg.start (told_first (ended_by s seg) told) (is_place text before (front ++ rest) done seg.start first joined past)
    (first_place text (ended_by s seg) told
    (fault_place segs (done ++ seg ∷ []) (after s seg) fault text (before ++ seg.bytes) later rest (seg.start + length seg.bytes) next there one more))

pub fault_stands : (text : List ℕ) (fault : EnvelopeFault) → first_fault text ≡ Some fault → IsPlace text fault.place
fault_stands text fault e =
    let cut = is_cut (text_start text) in
    subst (HasPlace text) e (fault_place (cut_of text).segments [] Front (cut_of text).fault text [] cut.front cut.rest 0 refl cut.joined refl cut.spelled)
