-- A text is refused at a place within it.
use Rattle.std.proofs.Common.{◌≡◌, ℕ, zero, suc, ◌+◌, ◌≤◌, Bool, true, false, if◌then◌else◌, List, [], ◌∷◌, length, Option, Some, None, Result, Ok, Err, refl, sym, ap, ◌∙◌, subst, arith, length-append}
use Rattle.segments.specs.Views.{Left, Seg}
use Rattle.segments.specs.SegmentCut.{cut_in, cut_left, cut_of, left_after, next_of, onward, text_start}
use Rattle.segments.specs.declared.segment_fault.SegmentFault.{SegmentFault}
use Rattle.segments.proofs.Spelled.{next_front}
use Rattle.transaction_set.specs.Refusal.{Judged, Refusal, ended_at, first_refusal, refusal_from, refused_at}
use Rattle.transaction_set.specs.declared.kind.Form.TheVariants as forms
use Rattle.transaction_set.specs.declared.set_fault.SetReason.{SetReason}
use Rattle.base_record_894.specs.FirstRefusal.{judged as base_judged, refusal_of as base_refusal}
use Rattle.base_record_894.specs.Said.{nothing as no_base}
use Rattle.adjustment_895.specs.FirstRefusal.{judged as answer_judged, refusal_of as answer_refusal}
use Rattle.adjustment_895.specs.Said.{nothing as no_answer}
use Rattle.dsd_record.specs.SetTexts.{begins_as, set_refusal}

-- where there is a refusal, its place is at most this
abbrev pub IsUpTo : ℕ → Option Refusal → Type 0
IsUpTo most None = Unit {0}
IsUpTo most (Some refusal) = refusal.place ≤ most

end_up_to : (whole : Bool) (place most : ℕ) (fault : Option SegmentFault) → place ≤ most → IsUpTo most (ended_at whole place fault)
end_up_to true place most None h = tt
end_up_to false place most None h = h
end_up_to true place most (Some fault) h = h
end_up_to false place most (Some fault) h = h

reason_up_to : (reason : Option SetReason) (place most : ℕ) (later : Option Refusal) → place ≤ most → IsUpTo most later → IsUpTo most (refused_at reason place later)
reason_up_to None place most later h l = l
reason_up_to (Some reason) place most later h l = h

module _ {M : Type 0} (j : Judged M) where
  from_cut : (calls : ℕ) (left : Left) (m : M) → IsUpTo (left.place + length left.rest) (refusal_from j m left.place (cut_in calls left).segments (cut_in calls left).fault)
  unfolding cut_in
  from_cut zero left m = end_up_to (j.whole m) left.place (left.place + length left.rest) None (omega arith)
  from_cut (suc calls) left m = by_answer (next_of left) refl (λ next. from_cut calls (left_after left) next)
    where
      by_answer : (answer : Result (Option Seg) SegmentFault) → next_of left ≡ answer
          → ((next : M) → IsUpTo ((left_after left).place + length (left_after left).rest) (refusal_from j next (left_after left).place (cut_in calls (left_after left)).segments (cut_in calls (left_after left)).fault))
          → IsUpTo (left.place + length left.rest) (refusal_from j m left.place (onward (next_of left) (cut_in calls (left_after left))).segments (onward (next_of left) (cut_in calls (left_after left))).fault)
      by_answer (Err fault) e later = rw e (end_up_to (j.whole m) left.place (left.place + length left.rest) (Some fault) (omega arith))
      by_answer (Ok None) e later = rw e (end_up_to (j.whole m) left.place (left.place + length left.rest) None (omega arith))
      by_answer (Ok (Some seg)) e later =
          let front = next_front left seg e in
          let most : (left_after left).place + length (left_after left).rest ≡ left.place + length left.rest =
          omega (arith, front.place, ap length front.there, length-append seg.bytes (left_after left).rest) in
          let place : (left_after left).place ≡ seg.start + length seg.bytes = omega (arith, front.place, front.start) in
          let cut = cut_in calls (left_after left) in
          let behind : IsUpTo (left.place + length left.rest) (refusal_from j (j.after m seg) (seg.start + length seg.bytes) cut.segments cut.fault) =
          subst (λ (n : ℕ). IsUpTo n (refusal_from j (j.after m seg) (seg.start + length seg.bytes) cut.segments cut.fault)) most
          (subst (λ (n : ℕ). IsUpTo ((left_after left).place + length (left_after left).rest) (refusal_from j (j.after m seg) n cut.segments cut.fault)) place (later (j.after m seg))) in
          rw e (reason_up_to (j.reason m seg) seg.start (left.place + length left.rest) (refusal_from j (j.after m seg) (seg.start + length seg.bytes) cut.segments cut.fault) (omega (arith, front.start)) behind)

  first_up_to : (text : List ℕ) (m : M) → IsUpTo (length text) (first_refusal j m text)
  unfolding cut_left
  first_up_to text m =
      let same : 0 + length text ≡ length text = omega arith in
      subst (λ (n : ℕ). IsUpTo n (first_refusal j m text)) same (from_cut (length text) (text_start text) m)

-- the first refusal of a text stands within it
pub refused_within : (text : List ℕ) → IsUpTo (length text) (set_refusal text)
refused_within text = by_form (begins_as forms.Answer text)
  where
    by_form : (as_answer : Bool) → IsUpTo (length text) (if as_answer then answer_refusal text else base_refusal text)
    by_form true = first_up_to answer_judged text no_answer
    by_form false = first_up_to base_judged text no_base
