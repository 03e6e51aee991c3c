-- A text is at most one set, and what is none is refused at its front.
use Rattle.std.proofs.Common.{◌≡◌, ℕ, Bool, true, false, List, [], ◌∷◌, if◌then◌else◌, Option, Some, None, Result, Err, inl, inr, refl, sym, ◌∙◌, ap, subst}
use Rattle.std.proofs.lemmas.Bool.{cases_Bool}
use Rattle.transaction_set.specs.Kinds.{is_start_of, kind_of}
use Rattle.transaction_set.specs.Reasons.{admission}
use Rattle.transaction_set.specs.Refusal.{Answers, Refusal}
use Rattle.segments.specs.SegmentCut.{cut_in, cut_left, next_of, text_start}
use Rattle.segments.specs.SegmentRefusal.{IsFault}
use Rattle.segments.specs.SegmentSpelling.{IsFront, SpellsSegments}
use Rattle.segments.specs.Views.{Left, Seg}
use Rattle.transaction_set.specs.declared.kind.Form.TheVariants as forms
use Rattle.transaction_set.specs.declared.kind.Kind.{Kind}
use Rattle.transaction_set.specs.declared.kind.Kind.TheVariants as kinds
use Rattle.transaction_set.specs.declared.seal.Seal.{Seal}
use Rattle.segments.specs.declared.segment_fault.SegmentFault.{SegmentFault}
use Rattle.transaction_set.specs.declared.set_fault.SetFault.{SetFault}
use Rattle.transaction_set.specs.declared.set_fault.SetFault.TheVariants as errors
use Rattle.transaction_set.specs.declared.set_fault.SetReason.TheVariants as reasons
use Rattle.segments.proofs.Complete.{front_is}
use Rattle.transaction_set.proofs.Reading.{fault_refused, step_refused}
use Rattle.segments.proofs.Refused.{next_of-fault}
use Rattle.base_record_894.specs.BaseRecord.{BaseRecord}
use Rattle.base_record_894.specs.FirstRefusal.{judged as base_judged, refusal_of as base_refusal}
use Rattle.base_record_894.specs.Grammar.{AreSegments as AreBase}
use Rattle.base_record_894.specs.RecordText.{Is894}
use Rattle.base_record_894.specs.Said.{nothing, reason_of}
use Rattle.base_record_894.proofs.FoundOnly.{some_record}
use Rattle.base_record_894.proofs.OneRecord.{one as one_base, refused_not as no_base}
use Rattle.adjustment_895.specs.AnswerRecord.{AnswerRecord}
use Rattle.adjustment_895.specs.AnswerText.{Is895}
use Rattle.adjustment_895.specs.FirstRefusal.{refusal_of as answer_refusal}
use Rattle.adjustment_895.specs.Grammar.{AreSegments as AreAnswer}
use Rattle.adjustment_895.proofs.FoundOnly.{some_answer}
use Rattle.adjustment_895.proofs.OneAnswer.{one as one_answer, refused_not as no_answer}
use Rattle.dsd_record.specs.SetTexts.{BeginsAs, IsSet, begins_as, form_of, set_refusal, starts}
use Rattle.dsd_record.specs.declared.set_view.SetView.{SetView}
use Rattle.dsd_record.specs.declared.set_view.SetView.TheVariants as sets
use Rattle.dsd_record.proofs.FirstSegments.{begins_with, front_of, kind_is_start, of_begins, one_form}

-- ---- each set begins as it is

base_at : (base : BaseRecord) (seal : Seal) (amount : ℕ) (text : List ℕ) (segs : List Seg) → SpellsSegments 0 segs text → AreBase base seal amount segs → BeginsAs forms.Base text
base_at base seal amount text [] spelled shape = absurd shape
base_at base seal amount text (first ∷ more) spelled shape = front_of first more text forms.Base spelled shape.0

answer_at : (answer : AnswerRecord) (seal : Seal) (text : List ℕ) (segs : List Seg) → SpellsSegments 0 segs text → AreAnswer answer seal segs → BeginsAs forms.Answer text
answer_at answer seal text [] spelled shape = absurd shape
answer_at answer seal text (first ∷ more) spelled shape = front_of first more text forms.Answer spelled shape.0

pub begins_own : (set : SetView) (text : List ℕ) → IsSet set text → BeginsAs (form_of set) text
begins_own (sets.Base base seal) text is = base_at base seal is.amount text is.segments is.spelled is.shape
begins_own (sets.Answer answer seal) text is = answer_at answer seal text is.segments is.spelled is.shape

-- ---- no text begins as both

pub no_answer_begins : (text : List ℕ) → BeginsAs forms.Base text → begins_as forms.Answer text ≡ false
no_answer_begins text b =
    elim (cases_Bool (begins_as forms.Answer text)) [
      | inl yes_answer ↦ absurd (one_form b.first b.start (sym (begins_with forms.Answer text b.first b.behind b.front) ∙ yes_answer))
      | inr none ↦ none
    ]

pub not_both : (text : List ℕ) (base : BaseRecord) (answer : AnswerRecord) (s t : Seal) → Is894 base s text → Is895 answer t text → ⊥
not_both text base answer s t is also =
    let none : begins_as forms.Answer text ≡ false = no_answer_begins text (begins_own (sets.Base base s) text is) in
    let never : false ≡ true = sym none ∙ of_begins forms.Answer text (begins_own (sets.Answer answer t) text also) in
    cc

pub one : (text : List ℕ) (set other : SetView) → IsSet set text → IsSet other text → set ≡ other
one text (sets.Base base s) (sets.Base other t) is also = let same = one_base text base other s t is also in ap (λ (b : BaseRecord). sets.Base b s) same.0 ∙ ap (sets.Base other) same.1
one text (sets.Base base s) (sets.Answer other t) is also = absurd (not_both text base other s t is also)
one text (sets.Answer answer s) (sets.Base other t) is also = absurd (not_both text other answer t s also is)
one text (sets.Answer answer s) (sets.Answer other t) is also = let same = one_answer text answer other s t is also in ap (λ (a : AnswerRecord). sets.Answer a s) same.0 ∙ ap (sets.Answer other) same.1

-- ---- the first refusal

pub refusal_as_answer : (text : List ℕ) → begins_as forms.Answer text ≡ true → answer_refusal text ≡ set_refusal text
refusal_as_answer text b = sym (ap (λ (t : Bool). if t then answer_refusal text else base_refusal text) b)

pub refusal_as_base : (text : List ℕ) → begins_as forms.Answer text ≡ false → base_refusal text ≡ set_refusal text
refusal_as_base text b = sym (ap (λ (t : Bool). if t then answer_refusal text else base_refusal text) b)

pub some_set : (text : List ℕ) → set_refusal text ≡ None → (set : SetView) × IsSet set text
some_set text e =
    elim (cases_Bool (begins_as forms.Answer text)) [
      | inl as_answer ↦ let found = some_answer text (refusal_as_answer text as_answer ∙ e) in (sets.Answer found.0 found.1, found.2)
      | inr as_base ↦ let found = some_record text (refusal_as_base text as_base ∙ e) in (sets.Base found.0 found.1, found.2)
    ]

pub refused_not : (text : List ℕ) (refusal : Refusal) → set_refusal text ≡ Some refusal → (set : SetView) → IsSet set text → ⊥
refused_not text refusal e (sets.Base base s) is =
    no_base text refusal base s (refusal_as_base text (no_answer_begins text (begins_own (sets.Base base s) text is)) ∙ e) is
refused_not text refusal e (sets.Answer answer s) is =
    no_answer text refusal answer s (refusal_as_answer text (of_begins forms.Answer text (begins_own (sets.Answer answer s) text is)) ∙ e) is

-- ---- a text that begins as no set

-- behind nothing stands an ST alone
other_reason : (seg : Seg) (k : Kind) → kind_of forms.Base seg ≡ k → (k ≡ kinds.Start → ⊥) → reason_of nothing seg ≡ Some reasons.Order
unfolding reason_of admission
other_reason seg kinds.Start e n = absurd (n refl)
other_reason seg _ e n = rw e refl

pub other_refused : (text : List ℕ) (first : Seg) (behind : Left) → IsFront first (text_start text) behind → is_start_of forms.Base first ≡ false → is_start_of forms.Answer first ≡ false
    → set_refusal text ≡ Some (record { place = 0; reason = reasons.Order })
other_refused text first behind front b a =
    let none : begins_as forms.Answer text ≡ false = begins_with forms.Answer text first behind front ∙ a in
    sym (refusal_as_base text none)
    ∙ step_refused base_judged nothing 0 (text_start text) first reasons.Order (front_is (text_start text) behind first front).0
    (other_reason first (kind_of forms.Base first) refl (kind_is_start forms.Base first b))
    ∙ ap (λ (n : ℕ). Some (record { place = n; reason = reasons.Order })) front.start

pub broken_refused : (text : List ℕ) (fault : SegmentFault) → IsFault (text_start text) fault → set_refusal text ≡ Some (record { place = 0; reason = reasons.Segment fault })
unfolding begins_as
broken_refused text fault is =
    let next : next_of (text_start text) ≡ Err fault = next_of-fault (text_start text) fault is in
    let none : begins_as forms.Answer text ≡ false = ap (starts forms.Answer) next in
    sym (refusal_as_base text none) ∙ fault_refused base_judged nothing 0 (text_start text) fault next

pub empty_refused : set_refusal [] ≡ Some (record { place = 0; reason = reasons.Order })
unfolding begins_as next_of cut_left cut_in
empty_refused = refl

-- ---- the answers of the calls

-- a refusal that is handed on says nothing of the value
pub handed_on : {X Y : Type 0} (r : Result X SetFault) (e : SetFault) (refused : Option Refusal) (P : Y → Type 0) (Q : X → Type 0) → r ≡ Err e → Answers (Err e) refused P → Answers r refused Q
handed_on r errors.Memory refused P Q same a = subst (λ (u : _). Answers u refused Q) (sym same) tt
handed_on r (errors.Refused place reason) refused P Q same a = subst (λ (u : _). Answers u refused Q) (sym same) a

none_of : (text : List ℕ) (set : SetView) (r : Option Refusal) → IsSet set text → set_refusal text ≡ r → set_refusal text ≡ None
none_of text set (Some refusal) is e = absurd (refused_not text refusal e set is)
none_of text set None is e = e

-- a text that is a set is not refused
pub not_refused : (text : List ℕ) (set : SetView) → IsSet set text → set_refusal text ≡ None
not_refused text set is = none_of text set (set_refusal text) is refl

module _ {X Y : Type 0} (text : List ℕ) (r : Result X SetFault) (e : SetFault) (P : Y → Type 0) (Q : X → Type 0) (same : r ≡ Err e) where
  pub answer_refused : begins_as forms.Answer text ≡ true → Answers (Err e) (answer_refusal text) P → Answers r (set_refusal text) Q
  answer_refused b a = handed_on r e (set_refusal text) P Q same (subst (λ (u : Option Refusal). Answers (Err e) u P) (refusal_as_answer text b) a)

  pub base_refused : begins_as forms.Answer text ≡ false → Answers (Err e) (base_refusal text) P → Answers r (set_refusal text) Q
  base_refused b a = handed_on r e (set_refusal text) P Q same (subst (λ (u : Option Refusal). Answers (Err e) u P) (refusal_as_base text b) a)

  pub answer_only : begins_as forms.Answer text ≡ true → Answers (Err e) (answer_refusal text) P → (set : SetView) → IsSet set text → Answers r None Q
  answer_only b a set is = subst (λ (u : Option Refusal). Answers r u Q) (not_refused text set is) (answer_refused b a)

  pub base_only : begins_as forms.Answer text ≡ false → Answers (Err e) (base_refusal text) P → (set : SetView) → IsSet set text → Answers r None Q
  base_only b a set is = subst (λ (u : Option Refusal). Answers r u Q) (not_refused text set is) (base_refused b a)
