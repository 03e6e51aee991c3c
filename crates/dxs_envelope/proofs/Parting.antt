-- What is told of what is left part by part, a segment at a time, and the sets of the parts.
use Rattle.std.proofs.Common.{◌≡◌, ℕ, ◌+◌, List, [], ◌∷◌, length, codes, Ok, Err, Option, Some, None, refl, sym, ◌∙◌, ap, inl, inr}
use Rattle.std.proofs.lemmas.Bool.{cases_Bool}
use Rattle.segments.specs.SegmentCut.{Cut, cut_left, cut_of, left_after, next_of}
use Rattle.segments.specs.Views.{Left, Seg, has_id}
use Rattle.segments.specs.declared.segment_fault.SegmentFault.{SegmentFault}
use Rattle.segments.proofs.Spelled.{next_front}
use Rattle.segments.proofs.Stepping.{step_end, step_fault, step_segment}
use Rattle.dxs_envelope.specs.FirstFault.{Standing, Front, Between, Inside, Behind, after, end_reason, ended_by, reason_at, told_at, told_end, told_first, told_from, told_of}
use Rattle.dxs_envelope.specs.TextParts.{Parts, bare, fault_at, grouped, kind_at, no_parts, part_at, parts_behind, parts_by, parts_end, parts_from, parts_left, parts_of, placed_reason}
use Rattle.dxs_envelope.specs.Views.{SetAt, Told}
use Rattle.dxs_envelope.specs.declared.fault.EnvelopeReason.{EnvelopeReason}
use Rattle.dxs_envelope.specs.declared.fault.EnvelopeReason.TheVariants as reasons

abbrev parts_cut : Standing → ℕ → Cut → Parts
parts_cut s place cut = parts_from s place cut.segments cut.fault

-- a segment, and then what is told of the rest
parts_cons : (s : Standing) (place : ℕ) (seg : Seg) (segs : List Seg) (fault : Option SegmentFault)
    → parts_from s place (seg ∷ segs) fault ≡ parts_by (reason_at s seg) seg.start (parts_behind (part_at s seg) (parts_from (after s seg) (seg.start + length seg.bytes) segs fault))
unfolding parts_from
parts_cons s place seg segs fault = refl

pub parts_segment : (s : Standing) (left : Left) (seg : Seg) → next_of left ≡ Ok (Some seg)
    → parts_left s left ≡ parts_by (reason_at s seg) seg.start (parts_behind (part_at s seg) (parts_left (after s seg) (left_after left)))
parts_segment s left seg next =
    let front = next_front left seg next in
    let place : seg.start + length seg.bytes ≡ (left_after left).place = ap (λ (n : ℕ). n + length seg.bytes) front.start ∙ sym front.place in
    ap (parts_cut s left.place) (step_segment left seg next)
    ∙ parts_cons s left.place seg (cut_left (left_after left)).segments (cut_left (left_after left)).fault
    ∙ ap (λ (n : ℕ). parts_by (reason_at s seg) seg.start (parts_behind (part_at s seg) (parts_cut (after s seg) n (cut_left (left_after left))))) place

pub parts_fault : (s : Standing) (left : Left) (fault : SegmentFault) → next_of left ≡ Err fault → parts_left s left ≡ no_parts (Some (fault_at left.place (reasons.Segment fault)))
unfolding parts_from
parts_fault s left fault next = ap (parts_cut s left.place) (step_fault left fault next)

pub parts_nothing : (s : Standing) (left : Left) → next_of left ≡ Ok None → parts_left s left ≡ no_parts (placed_reason (end_reason s) left.place)
unfolding parts_from
parts_nothing s left next = ap (parts_cut s left.place) (step_end left next)

-- ---- the bytes of the set that is begun

reason_bare : (s : Standing) (seg : Seg) → reason_at (bare s) seg ≡ reason_at s seg
reason_bare Front seg = refl
reason_bare (Between control found) seg = refl
reason_bare (Inside control found set) seg = refl
reason_bare Behind seg = refl

kind_bare : (s : Standing) (seg : Seg) → kind_at (bare s) seg ≡ kind_at s seg
kind_bare Front seg = refl
kind_bare (Between control found) seg = refl
kind_bare (Inside control found set) seg = refl
kind_bare Behind seg = refl

end_bare : (s : Standing) → end_reason (bare s) ≡ end_reason s
end_bare Front = refl
end_bare (Between control found) = refl
end_bare (Inside control found set) = refl
end_bare Behind = refl

after_bare : (s : Standing) (seg : Seg) → bare (after (bare s) seg) ≡ bare (after s seg)
after_bare Front seg = refl
after_bare (Between control found) seg = refl
after_bare (Inside control found set) seg = elim (cases_Bool (has_id seg (codes "SE"))) [
  | inl yes_end ↦ rw yes_end refl
  | inr no_end ↦ rw no_end refl
]
after_bare Behind seg = refl

parts_bare : (segs : List Seg) (s : Standing) (place : ℕ) (fault : Option SegmentFault) → parts_from (bare s) place segs fault ≡ parts_from s place segs fault
unfolding parts_from
parts_bare [] s place fault = ap (λ (r : Option EnvelopeReason). parts_end fault r place) (end_bare s)
parts_bare (seg ∷ segs) s place fault =
    let later : parts_from (after (bare s) seg) (seg.start + length seg.bytes) segs fault ≡ parts_from (after s seg) (seg.start + length seg.bytes) segs fault =
    sym (parts_bare segs (after (bare s) seg) (seg.start + length seg.bytes) fault)
    ∙ ap (λ (t : Standing). parts_from t (seg.start + length seg.bytes) segs fault) (after_bare s seg)
    ∙ parts_bare segs (after s seg) (seg.start + length seg.bytes) fault in
    ap (λ (r : Option EnvelopeReason). parts_by r seg.start (parts_behind (part_at (bare s) seg) (parts_from (after (bare s) seg) (seg.start + length seg.bytes) segs fault))) (reason_bare s seg)
    ∙ ap (λ (k : _). parts_by (reason_at s seg) seg.start (parts_behind (record { kind = k; segment = seg }) (parts_from (after (bare s) seg) (seg.start + length seg.bytes) segs fault))) (kind_bare s seg)
    ∙ ap (λ (p : Parts). parts_by (reason_at s seg) seg.start (parts_behind (part_at s seg) p)) later

pub left_bare : (s : Standing) (left : Left) → parts_left (bare s) left ≡ parts_left s left
left_bare s left = parts_bare (cut_left left).segments s left.place (cut_left left).fault

-- ---- the sets

-- the set that is begun
begun_in : Standing → Option SetAt
begun_in Front = None
begun_in (Between control found) = None
begun_in (Inside control found set) = Some set
begun_in Behind = None

abbrev as_sets : Option SetAt → Parts → Told
as_sets begun parts = record { sets = grouped begun parts.parts; fault = parts.fault }

end_sets : (begun : Option SetAt) (fault : Option SegmentFault) (reason : Option EnvelopeReason) (place : ℕ)
    → told_end fault reason place ≡ as_sets begun (parts_end fault reason place)
unfolding grouped
end_sets begun (Some fault) reason place = refl
end_sets begun None (Some reason) place = refl
end_sets begun None None place = refl

refused_sets : (begun : Option SetAt) (reason : Option EnvelopeReason) (place : ℕ) (told : Told) (parts : Parts) → (reason ≡ None → told ≡ as_sets begun parts)
    → told_at reason place told ≡ as_sets begun (parts_by reason place parts)
unfolding grouped
refused_sets begun (Some reason) place told parts h = refl
refused_sets begun None place told parts h = h refl

segment_sets : (s : Standing) (seg : Seg) (later : Parts) → reason_at s seg ≡ None
    → told_first (ended_by s seg) (as_sets (begun_in (after s seg)) later) ≡ as_sets (begun_in s) (parts_behind (part_at s seg) later)
unfolding grouped begun_in
segment_sets Front seg later right = refl
segment_sets (Between control found) seg later right = elim (cases_Bool (has_id seg (codes "ST"))) [
  | inl yes_start ↦ rw yes_start refl
  | inr no_start ↦ rw no_start refl
]
segment_sets (Inside control found set) seg later right = elim (cases_Bool (has_id seg (codes "SE"))) [
  | inl yes_end ↦ rw yes_end refl
  | inr no_end ↦ rw no_end refl
]
segment_sets Behind seg later right = cc

sets_from : (segs : List Seg) (s : Standing) (place : ℕ) (fault : Option SegmentFault) → told_from s place segs fault ≡ as_sets (begun_in s) (parts_from s place segs fault)
unfolding told_from parts_from
sets_from [] s place fault = end_sets (begun_in s) fault (end_reason s) place
sets_from (seg ∷ segs) s place fault =
    let next : ℕ = seg.start + length seg.bytes in
    refused_sets (begun_in s) (reason_at s seg) seg.start (told_first (ended_by s seg) (told_from (after s seg) next segs fault)) (parts_behind (part_at s seg) (parts_from (after s seg) next segs fault))
    (λ right. ap (told_first (ended_by s seg)) (sets_from segs (after s seg) next fault) ∙ segment_sets s seg (parts_from (after s seg) next segs fault) right)

pub sets_told : (text : List ℕ) → told_of text ≡ record { sets = grouped None (parts_of text).parts; fault = (parts_of text).fault }
unfolding begun_in
sets_told text = sets_from (cut_of text).segments Front 0 (cut_of text).fault
