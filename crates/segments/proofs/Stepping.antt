-- The cut of what is left, a call of `next` at a time.
use Rattle.std.proofs.Common.{◌≡◌, ℕ, zero, suc, ◌<◌, ◌≤◌, List, [], ◌∷◌, length, Result, Ok, Err, Option, Some, None, refl, sym, ◌∙◌, ap, arith, length-append}
use Rattle.std.specs.List.{join_with_byte}
use Rattle.segments.specs.declared.segment_fault.SegmentFault.{SegmentFault}
use Rattle.segments.specs.Views.{Seg, Left}
use Rattle.segments.specs.SegmentSpelling.{IsFront}
use Rattle.segments.specs.SegmentCut.{next_of, left_after, onward, cut_in, cut_left}
use Rattle.segments.proofs.Sized.{some_ending}
use Rattle.segments.proofs.Spelled.{next_front, next_of-end}

-- a segment takes a byte at least
pub front_shorter : (seg : Seg) (old new : Left) → IsFront seg old new → length new.rest < length old.rest
front_shorter seg old new f =
    let some = some_ending f.spelled.spelled.0 f.spelled.spelled.1 in
    let bytes = ap length f.spelled.spelled.2 in
    let sum = length-append (join_with_byte 42 seg.parts) f.spelled.spelled.0 in
    let whole = ap length f.there in
    let both = length-append seg.bytes new.rest in
    omega arith

nothing_left : (rest : List ℕ) → length rest ≤ 0 → rest ≡ []
nothing_left [] h = refl
nothing_left (byte ∷ more) h = absurd (omega arith)

-- as many calls as bytes are enough
enough : (m n : ℕ) (left : Left) → length left.rest ≤ m → length left.rest ≤ n → cut_in m left ≡ cut_in n left
unfolding cut_in
enough zero zero left h k = refl
enough zero (suc n) left h k = sym (ap (λ (answer : Result (Option Seg) SegmentFault). onward answer (cut_in n (left_after left))) (next_of-end left (nothing_left left.rest h)))
enough (suc m) zero left h k = ap (λ (answer : Result (Option Seg) SegmentFault). onward answer (cut_in m (left_after left))) (next_of-end left (nothing_left left.rest k))
enough (suc m) (suc n) left h k =
    by_answer (next_of left) refl (λ shorter. enough m n (left_after left) (omega arith) (omega arith))
  where
    by_answer : (answer : Result (Option Seg) SegmentFault) → next_of left ≡ answer → (length (left_after left).rest < length left.rest → cut_in m (left_after left) ≡ cut_in n (left_after left)) → onward (next_of left) (cut_in m (left_after left)) ≡ onward (next_of left) (cut_in n (left_after left))
    by_answer (Err fault) e later = rw e refl
    by_answer (Ok None) e later = rw e refl
    by_answer (Ok (Some seg)) e later = ap (onward (next_of left)) (later (front_shorter seg left (left_after left) (next_front left seg e)))

-- where one call is made, the rest of the cut is that of what is left behind it
one_call : (left : Left) → cut_left left ≡ onward (next_of left) (cut_in (length left.rest) (left_after left))
unfolding cut_left cut_in
one_call left = enough (length left.rest) (suc (length left.rest)) left (omega arith) (omega arith)

pub step_end : (left : Left) → next_of left ≡ Ok None → cut_left left ≡ record { segments = []; fault = None }
step_end left e = one_call left ∙ ap (λ (answer : Result (Option Seg) SegmentFault). onward answer (cut_in (length left.rest) (left_after left))) e

pub step_fault : (left : Left) (fault : SegmentFault) → next_of left ≡ Err fault → cut_left left ≡ record { segments = []; fault = Some fault }
step_fault left fault e = one_call left ∙ ap (λ (answer : Result (Option Seg) SegmentFault). onward answer (cut_in (length left.rest) (left_after left))) e

pub step_segment : (left : Left) (seg : Seg) → next_of left ≡ Ok (Some seg) → cut_left left ≡ record { segments = seg ∷ (cut_left (left_after left)).segments; fault = (cut_left (left_after left)).fault }
unfolding cut_left
step_segment left seg e =
    let shorter = front_shorter seg left (left_after left) (next_front left seg e) in
    one_call left ∙ ap (λ (answer : Result (Option Seg) SegmentFault). onward answer (cut_in (length left.rest) (left_after left))) e
    ∙ ap (onward (Ok (Some seg))) (enough (length left.rest) (length (left_after left).rest) (left_after left) (omega arith) (omega arith))
