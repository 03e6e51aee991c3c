-- A course behind a segment.
use Rattle.std.proofs.Common.{◌≡◌, ℕ, ◌+◌, ◌≤◌, true, List, length, codes, Option, Some, None, refl, ◌∙◌, ap, subst, inl, inr, arith}
use Rattle.std.proofs.lemmas.Bool.{cases_Bool}
use Rattle.std.proofs.lemmas.Bool.Decides.{nat_tests}
use Rattle.segments.specs.SegmentSpelling.{SpellsSegment}
use Rattle.segments.specs.Views.{Seg, element_of, has_id}
use Rattle.segments.proofs.Spelled.{bytes_some}
use Rattle.dxs_envelope.specs.EnvelopeTable.{is_control_number, is_header}
use Rattle.dxs_envelope.specs.FirstFault.{Standing, Front, Between, Inside, Behind, after, header_reason, reason_at}
use Rattle.dxs_envelope.specs.TextParts.{Course, after_segment, bare, course_by, fault_at, found_at, kind_at, standing_in, unless_refused}
use Rattle.dxs_envelope.specs.declared.fault.EnvelopeFault.{EnvelopeFault}
use Rattle.dxs_envelope.specs.declared.fault.EnvelopeReason.{EnvelopeReason}
use Rattle.dxs_envelope.specs.declared.text_course.CourseStage.{CourseStage}
use Rattle.dxs_envelope.specs.declared.text_course.CourseStage.TheVariants as stages
use Rattle.dxs_envelope.specs.declared.text_course.PartKind.TheVariants.{Header, SetEnd}
use Rattle.dxs_envelope.proofs.Transmitted.{unless_none}
use Rattle.dxs_envelope.specs.declared.fault.EnvelopeReason.TheVariants as reasons

-- ---- a call

pub after_failed : (course : Course) (seg : Seg) (fault : EnvelopeFault) → course.fault ≡ Some fault → after_segment course seg ≡ course
unfolding after_segment
after_failed course seg fault e = ap (λ (f : Option EnvelopeFault). unless_refused f course (course_by (reason_at course.standing seg) course.standing seg)) e

pub after_sound : (course : Course) (seg : Seg) → course.fault ≡ None → after_segment course seg ≡ course_by (reason_at course.standing seg) course.standing seg
unfolding after_segment
after_sound course seg e = ap (λ (f : Option EnvelopeFault). unless_refused f course (course_by (reason_at course.standing seg) course.standing seg)) e

pub after_wrong : (course : Course) (seg : Seg) (reason : EnvelopeReason) → course.fault ≡ None → reason_at course.standing seg ≡ Some reason
    → after_segment course seg ≡ record { standing = course.standing; fault = Some (fault_at seg.start reason) }
after_wrong course seg reason e wrong = after_sound course seg e ∙ ap (λ (r : Option EnvelopeReason). course_by r course.standing seg) wrong

pub after_right : (course : Course) (seg : Seg) → course.fault ≡ None → reason_at course.standing seg ≡ None
    → after_segment course seg ≡ record { standing = bare (after course.standing seg); fault = None }
after_right course seg e right = after_sound course seg e ∙ ap (λ (r : Option EnvelopeReason). course_by r course.standing seg) right

-- ---- how many sets

pub few_after : (s : Standing) (seg : Seg) → SpellsSegment seg → found_at s ≤ seg.start → found_at (bare (after s seg)) ≤ seg.start + length seg.bytes
few_after Front seg is low = omega (arith)
few_after (Between control found) seg is low = elim (cases_Bool (has_id seg (codes "ST"))) [
  | inl yes_start ↦ rw yes_start (omega (arith, low))
  | inr no_start ↦ rw no_start (omega (arith))
]
few_after (Inside control found set) seg is low = elim (cases_Bool (has_id seg (codes "SE"))) [
  | inl yes_end ↦ rw yes_end (omega (arith, low, bytes_some seg is))
  | inr no_end ↦ rw no_end (omega (arith, low))
]
few_after Behind seg is low = omega (arith)

-- ---- a segment of each kind

header_kind : (s : Standing) (seg : Seg) → Header ≡ kind_at s seg → s ≡ Front
header_kind Front seg e = refl
header_kind (Between control found) seg e = elim (cases_Bool (has_id seg (codes "ST"))) [
  | inl yes_start ↦ (let no = rw yes_start at e in cc (no))
  | inr no_start ↦ (let no = rw no_start at e in cc (no))
]
header_kind (Inside control found set) seg e = elim (cases_Bool (has_id seg (codes "SE"))) [
  | inl yes_end ↦ (let no = rw yes_end at e in cc (no))
  | inr no_end ↦ (let no = rw no_end at e in cc (no))
]
header_kind Behind seg e = cc

-- a header has a control number of at most nine digits
short_control : (text : List ℕ) → is_control_number text ≡ true → length text ≤ 35
short_control text e = grind (arith, nat_tests)

header_control : (seg : Seg) → is_header seg ≡ true → is_control_number (element_of seg 4) ≡ true
unfolding is_header
header_control seg e = grind (arith, nat_tests)

pub control_short : (s : Standing) (seg : Seg) → Header ≡ kind_at s seg → reason_at s seg ≡ None → length (element_of seg 4) ≤ 35
control_short s seg kind right =
    let front = header_kind s seg kind in
    let first : header_reason seg ≡ None = subst (λ (t : Standing). reason_at t seg ≡ None) front right in
    short_control (element_of seg 4) (header_control seg (unless_none (is_header seg) reasons.NoHeader _ first).0)

pub header_after : (s : Standing) (seg : Seg) → Header ≡ kind_at s seg → bare (after s seg) ≡ Between (element_of seg 4) 0
header_after s seg kind = ap (λ (t : Standing). bare (after t seg)) (header_kind s seg kind)

-- the set that ends is counted
pub counted : (stage : CourseStage) (control : List ℕ) (found : ℕ) (seg : Seg) → SetEnd ≡ kind_at (standing_in stage control found) seg → found_at (standing_in stage control found) ≡ found
counted stages.Front control found seg e = cc
counted stages.Between control found seg e = refl
counted stages.Inside control found seg e = refl
counted stages.Behind control found seg e = cc
