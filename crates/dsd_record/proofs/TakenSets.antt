-- A set that is taken segment by segment is the set of the text that its segments join to.
use Rattle.std.proofs.Common.{◌≡◌, ℕ, ◌+◌, ◌<◌, ◌≤◌, Bool, true, false, List, [], ◌∷◌, ◌++◌, length, Option, Some, None, Result, Ok, Err, refl, sym, ap, ◌∙◌, subst, arith, append_assoc, append-nil, length-append}
use Rattle.std.specs.Prelude.{IfOk, OnOk}
use Rattle.dsd_values.specs.declared.limits.TheConstants.{SET_BYTES}
use Rattle.segments.specs.Views.{Seg}
use Rattle.segments.specs.SegmentCut.{next_of, text_start}
use Rattle.segments.specs.SegmentSpelling.{SpellsSegment, SpellsSegments}
use Rattle.segments.specs.declared.segment_fault.SegmentFault.{SegmentFault}
use Rattle.segments.proofs.Spelled.{bytes_some}
use Rattle.transaction_set.specs.Kinds.{is_start_of}
use Rattle.transaction_set.specs.Refusal.{Answers, Refusal}
use Rattle.transaction_set.specs.Taking.{IsFaultOf, IsTaken, Taken, in_set, none_taken}
use Rattle.transaction_set.specs.declared.kind.Form.{Form}
use Rattle.transaction_set.specs.declared.kind.Form.TheVariants as forms
use Rattle.transaction_set.specs.declared.set_fault.SetFault.{SetFault}
use Rattle.transaction_set.specs.declared.set_fault.SetFault.TheVariants as errors
use Rattle.transaction_set.specs.declared.set_fault.SetReason.TheVariants as reasons
use Rattle.transaction_set.proofs.Reading.{fault_refused}
use Rattle.transaction_set.proofs.Taking.{stopped, takes_fault}
use Rattle.base_record_894.specs.FirstRefusal.{judged as base_judged, refusal_of as base_refusal}
use Rattle.base_record_894.specs.Said.{Said as SaidBase, nothing as no_base}
use Rattle.adjustment_895.specs.FirstRefusal.{judged as answer_judged, refusal_of as answer_refusal}
use Rattle.adjustment_895.specs.Said.{Said as SaidAnswer, nothing as no_answer}
use Rattle.dsd_record.specs.ReadSets.{set_in}
use Rattle.dsd_record.specs.SetTexts.{IsSet, begins_as, set_refusal, starts}
use Rattle.dsd_record.specs.TakenSets.{Begins, HasBegun, HasTaken, TakesNext}
use Rattle.dsd_record.specs.declared.set_reader.Begun.{Begun}
use Rattle.dsd_record.specs.declared.set_reader.Begun.TheVariants as readers
use Rattle.dsd_record.specs.declared.set_view.SetView.{SetView}
use Rattle.dsd_record.proofs.FirstSegments.{begins_with}
use Rattle.dsd_record.proofs.ReadOnce.{set_in_is, sized as set_sized}
use Rattle.dsd_record.proofs.Sets.{empty_refused, not_refused, one, refusal_as_answer, refusal_as_base}

-- ---- how the text begins

-- it begins as its first segment does, whatever follows
begins_as_first : (form : Form) (first : Seg) (segs : List Seg) (text more : List ℕ) → SpellsSegments 0 (first ∷ segs) text → begins_as form (text ++ more) ≡ is_start_of form first
begins_as_first form first segs text more (is, start, (rest, joined, behind)) =
    let there : text ++ more ≡ first.bytes ++ (rest ++ more) = ap (λ (l : List ℕ). l ++ more) joined ∙ append_assoc first.bytes rest more in
    begins_with form (text ++ more) first (record { rest = rest ++ more; place = length first.bytes })
    (record { spelled = is; start = start; there = there; place = omega arith })

pub begins_on : (form : Form) (segs : List Seg) (text more : List ℕ) → SpellsSegments 0 segs text → 0 < length text → begins_as form (text ++ more) ≡ begins_as form text
begins_on form [] text more spelled some = absurd (omega (arith, ap length spelled, some))
begins_on form (first ∷ segs) text more spelled some =
    begins_as_first form first segs text more spelled ∙ sym (begins_as_first form first segs text [] spelled) ∙ ap (begins_as form) (append-nil text)

pub begun_on : (answer : Bool) (segs : List Seg) (text more : List ℕ) → SpellsSegments 0 segs text → HasBegun answer text → HasBegun answer (text ++ more)
begun_on answer segs text more spelled begun = record {
  some = omega (arith, begun.some, length-append text more);
  begins = begins_on forms.Answer segs text more spelled begun.some ∙ begun.begins;
}

pub begun_first : (answer : Bool) (seg : Seg) → SpellsSegment seg → is_start_of forms.Answer seg ≡ answer → HasBegun answer seg.bytes
begun_first answer seg is start = record {
  some = bytes_some seg is;
  begins = begins_with forms.Answer seg.bytes (in_set 0 seg) (record { rest = []; place = length seg.bytes })
      (record { spelled = record { segment = is.segment; spelled = is.spelled; short = is.short }; start = refl; there = sym (append-nil seg.bytes); place = omega arith }) ∙ start;
}

-- ---- one segment more

pub base_more : (text : List ℕ) (old new : Taken SaidBase) (seg : Seg) → ((t : List ℕ) → IsTaken base_judged no_base t old → IsTaken base_judged no_base (t ++ seg.bytes) new) → HasTaken text (readers.Base old)
    → HasTaken (text ++ seg.bytes) (readers.Base new)
base_more text old new seg more (begun, taken) = (begun_on false taken.segments text seg.bytes taken.spelled begun, more text taken)

pub answer_more : (text : List ℕ) (old new : Taken SaidAnswer) (seg : Seg) → ((t : List ℕ) → IsTaken answer_judged no_answer t old → IsTaken answer_judged no_answer (t ++ seg.bytes) new) → HasTaken text (readers.Answer old)
    → HasTaken (text ++ seg.bytes) (readers.Answer new)
answer_more text old new seg more (begun, taken) = (begun_on true taken.segments text seg.bytes taken.spelled begun, more text taken)

-- ---- no segment can be read behind those taken

as_set : (text rest : List ℕ) (fault : SetFault) (refused : Option Refusal) → IsFaultOf fault refused → refused ≡ set_refusal (text ++ rest) → IsFaultOf fault (set_refusal (text ++ rest))
as_set text rest fault refused is same = subst (IsFaultOf fault) same is

pub base_broken : (text rest : List ℕ) (reader : Taken SaidBase) (fault : SetFault) → HasTaken text (readers.Base reader) → IsFaultOf fault (base_refusal (text ++ rest)) → IsFaultOf fault (set_refusal (text ++ rest))
base_broken text rest reader fault (begun, taken) is =
    as_set text rest fault (base_refusal (text ++ rest)) is (refusal_as_base (text ++ rest) (begun_on false taken.segments text rest taken.spelled begun).begins)

pub answer_broken : (text rest : List ℕ) (reader : Taken SaidAnswer) (fault : SetFault) → HasTaken text (readers.Answer reader) → IsFaultOf fault (answer_refusal (text ++ rest)) → IsFaultOf fault (set_refusal (text ++ rest))
answer_broken text rest reader fault (begun, taken) is =
    as_set text rest fault (answer_refusal (text ++ rest)) is (refusal_as_answer (text ++ rest) (begun_on true taken.segments text rest taken.spelled begun).begins)

nothing_begins : (text : List ℕ) (fault : SegmentFault) → next_of (text_start text) ≡ Err fault → begins_as forms.Answer text ≡ false
unfolding begins_as
nothing_begins text fault next = ap (starts forms.Answer) next

front_broken : (text : List ℕ) (fault : SegmentFault) → next_of (text_start text) ≡ Err fault → set_refusal text ≡ Some (record { place = 0; reason = reasons.Segment fault })
front_broken text fault next = sym (refusal_as_base text (nothing_begins text fault next)) ∙ fault_refused base_judged no_base 0 (text_start text) fault next

pub nothing_broken : (text rest : List ℕ) (fault : SegmentFault) → text ≡ [] → next_of (record { rest = rest; place = length text }) ≡ Err fault → set_refusal (text ++ rest) ≡ Some (record { place = 0; reason = reasons.Segment fault })
nothing_broken text rest fault none next =
    ap (λ (l : List ℕ). set_refusal (l ++ rest)) none ∙ front_broken rest fault (sym (ap (λ (l : List ℕ). next_of (record { rest = rest; place = length l })) none) ∙ next)

pub nothing_refused : (text : List ℕ) → text ≡ [] → set_refusal text ≡ Some (record { place = 0; reason = reasons.Order })
nothing_refused text none = ap set_refusal none ∙ empty_refused

-- ---- a reader that has stopped

-- the fault of a segment tells the refusal of each text that goes on so
pub set_stopped : (old new : Begun) (seg : Seg) (fault : SetFault) → TakesNext old seg (Err fault) new → (text rest : List ℕ) → HasTaken text new → IsFaultOf fault (set_refusal (text ++ rest))
set_stopped readers.Nothing new seg fault takes text rest taken = by_start (is_start_of forms.Answer seg) new takes taken
  where
    by_start : (start : Bool) (new : Begun) → Begins start seg (Err fault) new → HasTaken text new → IsFaultOf fault (set_refusal (text ++ rest))
    by_start false readers.Nothing b h = absurd b
    by_start false (readers.Base base) b h = base_broken text rest base fault h (stopped base_judged no_base text rest base fault h.1 (takes_fault base_judged no_base (none_taken no_base) base seg fault b))
    by_start false (readers.Answer answer) b h = absurd b
    by_start false readers.Lost b h = let same : fault ≡ errors.Memory = cc (b) in subst (λ (f : SetFault). IsFaultOf f (set_refusal (text ++ rest))) (sym same) tt
    by_start true readers.Nothing b h = absurd b
    by_start true (readers.Base base) b h = absurd b
    by_start true (readers.Answer answer) b h = answer_broken text rest answer fault h (stopped answer_judged no_answer text rest answer fault h.1 (takes_fault answer_judged no_answer (none_taken no_answer) answer seg fault b))
    by_start true readers.Lost b h = let same : fault ≡ errors.Memory = cc (b) in subst (λ (f : SetFault). IsFaultOf f (set_refusal (text ++ rest))) (sym same) tt
set_stopped (readers.Base old) (readers.Base new) seg fault takes text rest taken =
    base_broken text rest new fault taken (stopped base_judged no_base text rest new fault taken.1 (takes_fault base_judged no_base old new seg fault takes))
set_stopped (readers.Base old) readers.Nothing seg fault takes text rest taken = absurd takes
set_stopped (readers.Base old) (readers.Answer new) seg fault takes text rest taken = absurd takes
set_stopped (readers.Base old) readers.Lost seg fault takes text rest taken = absurd takes
set_stopped (readers.Answer old) (readers.Answer new) seg fault takes text rest taken =
    answer_broken text rest new fault taken (stopped answer_judged no_answer text rest new fault taken.1 (takes_fault answer_judged no_answer old new seg fault takes))
set_stopped (readers.Answer old) readers.Nothing seg fault takes text rest taken = absurd takes
set_stopped (readers.Answer old) (readers.Base new) seg fault takes text rest taken = absurd takes
set_stopped (readers.Answer old) readers.Lost seg fault takes text rest taken = absurd takes
set_stopped readers.Lost readers.Lost seg fault takes text rest taken = let same : fault ≡ errors.Memory = cc (takes) in subst (λ (f : SetFault). IsFaultOf f (set_refusal (text ++ rest))) (sym same) tt
set_stopped readers.Lost readers.Nothing seg fault takes text rest taken = absurd takes
set_stopped readers.Lost (readers.Base new) seg fault takes text rest taken = absurd takes
set_stopped readers.Lost (readers.Answer new) seg fault takes text rest taken = absurd takes

-- ---- what follows from what is read, and why none is

pub read_once : (text : List ℕ) (r : Result SetView SetFault) → IfOk r (λ set. IsSet set text) → IfOk r (λ set. set_in text ≡ Some set)
read_once text (Ok set) is = set_in_is text set is
read_once text (Err fault) is = tt

pub read_sized : (text : List ℕ) (r : Result SetView SetFault) → IfOk r (λ set. IsSet set text) → OnOk r ((0 < length text) × (length text ≤ SET_BYTES))
read_sized text (Ok set) is = set_sized text set is
read_sized text (Err fault) is = tt

pub read_only : (text : List ℕ) (r : Result SetView SetFault) → IfOk r (λ set. IsSet set text) → Answers r (set_refusal text) (λ _. Unit {0}) → (set : SetView) → IsSet set text → Answers r None (λ x. x ≡ set)
read_only text (Ok x) is exact set also = (refl, one text x set is also)
read_only text (Err errors.Memory) is exact set also = tt
read_only text (Err (errors.Refused place reason)) is exact set also = sym (not_refused text set also) ∙ exact
