-- The answer that is read is the one that its text spells.
use Rattle.std.proofs.Common.{◌≡◌, ℕ, List, [], Result, Ok, Err, Some, None, Option, refl, sym, ap, ◌∙◌, subst}
use Rattle.std.specs.Prelude.{IfOk}
use Rattle.dsd_values.specs.declared.line.Line.{Line}
use Rattle.dsd_values.specs.SignatureRecord.{SignatureRecord}
use Rattle.transaction_set.specs.declared.kind.Form.TheVariants as forms
use Rattle.transaction_set.proofs.Making.{set_few}
use Rattle.transaction_set.proofs.Whole.{long_ones}
use Rattle.transaction_set.proofs.Small.{same_some}
use Rattle.segments.specs.SegmentCut.{cut_of}
use Rattle.transaction_set.specs.Refusal.{Answers, Refusal, refusal_from, said_by}
use Rattle.segments.specs.declared.segment_fault.SegmentFault.{SegmentFault}
use Rattle.transaction_set.specs.declared.set_fault.SetFault.{SetFault}
use Rattle.transaction_set.specs.declared.set_fault.SetFault.TheVariants as errors
use Rattle.transaction_set.specs.declared.seal.Seal.{Seal}
use Rattle.transaction_set.specs.declared.stated.StatedTotals.{StatedTotals}
use Rattle.adjustment_895.specs.AnswerRecord.{AnswerRecord}
use Rattle.adjustment_895.specs.Grammar.{IsHead, notes, shared_of}
use Rattle.adjustment_895.specs.AnswerText.{Is895, IsAnswer}
use Rattle.adjustment_895.specs.Said.{nothing}
use Rattle.adjustment_895.specs.FirstRefusal.{judged, refusal_of}
use Rattle.adjustment_895.specs.ReadParts.{IsReadFrom, answer_of, first_note, seal_of}
use Rattle.adjustment_895.specs.declared.head.AnswerHead.{AnswerHead}
use Rattle.adjustment_895.specs.declared.parts.Parts.{Parts}
use Rattle.adjustment_895.proofs.Moves.{head_of}
use Rattle.adjustment_895.proofs.FoundOnly.{found, only}

abbrev answer_with : AnswerHead → Option (List ℕ) → List Line → StatedTotals → SignatureRecord → AnswerRecord
answer_with h note lines totals signature = record {
  role = h.role;
  flag = h.flag;
  number = h.number;
  check = h.check;
  level = h.level;
  receiver_number = h.receiver_number;
  note = note;
  lines = lines;
  quantity = totals.quantity;
  amount = totals.amount;
  deposit = totals.deposit;
  signature = signature;
}

abbrev totals_of : AnswerRecord → StatedTotals
totals_of a = record { quantity = a.quantity; amount = a.amount; deposit = a.deposit }

same_answer : (a b : AnswerRecord) → head_of a ≡ head_of b → a.note ≡ b.note → a.lines ≡ b.lines → totals_of a ≡ totals_of b → a.signature ≡ b.signature → a ≡ b
same_answer a b h n l t g =
    ap (λ (u : AnswerHead). answer_with u a.note a.lines (totals_of a) a.signature) h
    ∙ ap (λ (u : Option (List ℕ)). answer_with (head_of b) u a.lines (totals_of a) a.signature) n
    ∙ ap (λ (u : List Line). answer_with (head_of b) b.note u (totals_of a) a.signature) l
    ∙ ap (λ (u : StatedTotals). answer_with (head_of b) b.note b.lines u a.signature) t
    ∙ ap (λ (u : SignatureRecord). answer_with (head_of b) b.note b.lines (totals_of b) u) g

same_seal : (a b : Seal) → a.control ≡ b.control → a.check ≡ b.check → a ≡ b
same_seal a b c e = ap (λ (v : List ℕ). record { control = v; check = a.check }) c ∙ ap (λ (v : ℕ). record { control = b.control; check = v }) e

-- the note is the first reference
note_is : (note : Option (List ℕ)) → first_note (notes note) ≡ note
note_is (Some text) = refl
note_is None = refl

pub record IsSame (parts : Parts) (a : AnswerRecord) (s : Seal) : Type 0 where
  pub answer : answer_of parts ≡ a
  pub seal : seal_of parts ≡ s

-- what was read of a text that spells an answer is that answer
pub same_read : (text : List ℕ) (parts : Parts) (a : AnswerRecord) (s : Seal) → Is895 a s text → IsReadFrom (said_by judged nothing (cut_of text).segments) parts → IsSame parts a s
same_read text parts a s is r =
    let o = (only text a s is).0 in
    let some : Some parts.head ≡ Some (head_of a) = sym (o.head ∙ r.head) in
    let head : parts.head ≡ head_of a = cc (some) in
    let note : first_note parts.closed.references.items ≡ a.note = ap first_note (r.closed.references ∙ sym o.references) ∙ note_is a.note in
    let totals : parts.closed.totals ≡ totals_of a = r.closed.totals ∙ sym o.totals in
    record {
      answer = same_answer (answer_of parts) a head note (r.closed.lines ∙ sym o.lines) totals (same_some _ _ (r.closed.signature ∙ sym o.signature));
      seal = same_seal (seal_of parts) s (r.closed.control ∙ sym o.control) (r.closed.check ∙ sym o.check);
    }

-- a text that spells an answer has no refusal
pub not_refused : (text : List ℕ) (a : AnswerRecord) (s : Seal) → Is895 a s text → refusal_of text ≡ None
not_refused text a s is =
    let o = only text a s is in
    ap (λ (f : Option SegmentFault). refusal_from judged nothing 0 (cut_of text).segments f) o.1 ∙ o.0.none

pub refused_not : (text : List ℕ) (refusal : Refusal) (a : AnswerRecord) (s : Seal) → refusal_of text ≡ Some refusal → Is895 a s text → ⊥
refused_not text refusal a s e is = let never : Some refusal ≡ None = sym e ∙ not_refused text a s is in cc

-- the answers of a call that was refused
pub only_err : {X Y : Type 0} (text : List ℕ) (e : SetFault) (r : Result X SetFault) (a : AnswerRecord) (s : Seal) (P : Y → Type 0) (Q : X → Type 0) → r ≡ Err e → Answers (Err e) (refusal_of text) P
    → Is895 a s text → Answers r None Q
only_err text errors.Memory r a s P Q same h is = subst (λ (u : _). Answers u None Q) (sym same) tt
only_err text (errors.Refused place reason) r a s P Q same h is = subst (λ (u : _). Answers u None Q) (sym same) (sym (not_refused text a s is) ∙ h)

pub is_answer : (text : List ℕ) (a : AnswerRecord) (s : Seal) → Is895 a s text → IsAnswer a
is_answer text a s is = record {
  seal = s;
  segments = is.segments;
  spelled = long_ones is.segments 0 text is.spelled;
  shape = is.shape;
  sound = is.sound;
  levelled = is.levelled;
  few = set_few forms.Answer s.control (IsHead a) (notes a.note) a.lines [] (shared_of a s) is.segments text is.shape is.spelled is.short;
}

pub spelled : (text : List ℕ) (parts : Parts) → refusal_of text ≡ None → IsReadFrom (said_by judged nothing (cut_of text).segments) parts → IsAnswer (answer_of parts)
spelled text parts e r = is_answer text (answer_of parts) (seal_of parts) (found text parts e r)

-- two answers of one text are one
pub one : (text : List ℕ) (a b : AnswerRecord) (s t : Seal) → Is895 a s text → Is895 b t text → (a ≡ b) × (s ≡ t)
one text a b s t is also =
    let o = (only text a s is).0 in
    let p = (only text b t also).0 in
    let some : Some (head_of a) ≡ Some (head_of b) = o.head ∙ sym p.head in
    let head : head_of a ≡ head_of b = cc (some) in
    let note : a.note ≡ b.note = sym (note_is a.note) ∙ ap first_note (o.references ∙ sym p.references) ∙ note_is b.note in (
      same_answer a b head note (o.lines ∙ sym p.lines) (o.totals ∙ sym p.totals) (same_some _ _ (o.signature ∙ sym p.signature)),
      same_seal s t (o.control ∙ sym p.control) (o.check ∙ sym p.check),
    )

pub found_as : (text : List ℕ) (parts : Parts) (a : AnswerRecord) (s : Seal) → a ≡ answer_of parts → s ≡ seal_of parts
    → refusal_of text ≡ None → IsReadFrom (said_by judged nothing (cut_of text).segments) parts → Is895 a s text
found_as text parts a s ea es e r =
    subst (λ (u : Seal). Is895 a u text) (sym es) (subst (λ (u : AnswerRecord). Is895 u (seal_of parts) text) (sym ea) (found text parts e r))

-- what is read of some text
pub read_right : (text : List ℕ) (r : Result Parts SetFault) → Answers r (refusal_of text) (IsReadFrom (said_by judged nothing (cut_of text).segments)) → IfOk r (λ parts. IsAnswer (answer_of parts))
read_right text (Ok parts) h = spelled text parts h.0 h.1
read_right text (Err fault) h = tt
