-- The record that is read is the one that its text spells.
use Rattle.std.proofs.Common.{◌≡◌, ℕ, List, Result, Ok, Err, Some, None, Option, sym, ap, ◌∙◌, subst}
use Rattle.std.specs.Prelude.{IfOk}
use Rattle.dsd_values.specs.Calendar.{Date}
use Rattle.dsd_values.specs.declared.extra.Extra.{Extra}
use Rattle.dsd_values.specs.declared.flag.Flag.{Flag}
use Rattle.dsd_values.specs.declared.line.Line.{Line}
use Rattle.dsd_values.specs.SignatureRecord.{SignatureRecord}
use Rattle.transaction_set.proofs.Small.{same_some}
use Rattle.segments.specs.SegmentCut.{cut_of}
use Rattle.transaction_set.specs.declared.kind.Form.TheVariants as forms
use Rattle.transaction_set.proofs.Making.{set_few}
use Rattle.transaction_set.proofs.Whole.{long_ones}
use Rattle.transaction_set.specs.Refusal.{Answers, Refusal}
use Rattle.segments.specs.declared.segment_fault.SegmentFault.{SegmentFault}
use Rattle.transaction_set.specs.declared.set_fault.SetFault.{SetFault}
use Rattle.transaction_set.specs.declared.set_fault.SetFault.TheVariants as errors
use Rattle.transaction_set.specs.declared.seal.Seal.{Seal}
use Rattle.transaction_set.specs.declared.stated.StatedTotals.{StatedTotals}
use Rattle.base_record_894.specs.BaseRecord.{BaseRecord}
use Rattle.base_record_894.specs.Grammar.{IsHead, shared_of}
use Rattle.base_record_894.specs.RecordText.{Is894, IsBase}
use Rattle.base_record_894.specs.Said.{nothing}
use Rattle.base_record_894.specs.FirstRefusal.{judged, refusal_of}
use Rattle.transaction_set.specs.Refusal.{refusal_from, said_by}
use Rattle.base_record_894.specs.ReadParts.{IsReadFrom, record_of, seal_of}
use Rattle.base_record_894.specs.declared.head.Head.{Head}
use Rattle.base_record_894.specs.declared.parts.Parts.{Parts}
use Rattle.base_record_894.proofs.Moves.{head_of}
use Rattle.base_record_894.proofs.FoundOnly.{found, only}

abbrev record_with : Flag → List ℕ → Date → List ℕ → List ℕ → List ℕ → List ℕ → List ℕ → List (List ℕ) → List Line → List Extra → Option ℕ → SignatureRecord → BaseRecord
record_with flag number day receiver_duns receiver_place supplier_duns supplier_place tail references lines extras deposit signature = record { flag = flag; number = number; day = day; receiver_duns = receiver_duns; receiver_place = receiver_place; supplier_duns = supplier_duns; supplier_place = supplier_place; tail = tail; references = references; lines = lines; extras = extras; deposit = deposit; signature = signature }

same_record : (a b : BaseRecord) → a.flag ≡ b.flag → a.number ≡ b.number → a.day ≡ b.day → a.receiver_duns ≡ b.receiver_duns → a.receiver_place ≡ b.receiver_place → a.supplier_duns ≡ b.supplier_duns → a.supplier_place ≡ b.supplier_place → a.tail ≡ b.tail → a.references ≡ b.references → a.lines ≡ b.lines → a.extras ≡ b.extras → a.deposit ≡ b.deposit → a.signature ≡ b.signature → a ≡ b
same_record a b e1 e2 e3 e4 e5 e6 e7 e8 e9 e10 e11 e12 e13 =
    ap (λ (v : Flag). record_with v a.number a.day a.receiver_duns a.receiver_place a.supplier_duns a.supplier_place a.tail a.references a.lines a.extras a.deposit a.signature) e1
    ∙ ap (λ (v : List ℕ). record_with b.flag v a.day a.receiver_duns a.receiver_place a.supplier_duns a.supplier_place a.tail a.references a.lines a.extras a.deposit a.signature) e2
    ∙ ap (λ (v : Date). record_with b.flag b.number v a.receiver_duns a.receiver_place a.supplier_duns a.supplier_place a.tail a.references a.lines a.extras a.deposit a.signature) e3
    ∙ ap (λ (v : List ℕ). record_with b.flag b.number b.day v a.receiver_place a.supplier_duns a.supplier_place a.tail a.references a.lines a.extras a.deposit a.signature) e4
    ∙ ap (λ (v : List ℕ). record_with b.flag b.number b.day b.receiver_duns v a.supplier_duns a.supplier_place a.tail a.references a.lines a.extras a.deposit a.signature) e5
    ∙ ap (λ (v : List ℕ). record_with b.flag b.number b.day b.receiver_duns b.receiver_place v a.supplier_place a.tail a.references a.lines a.extras a.deposit a.signature) e6
    ∙ ap (λ (v : List ℕ). record_with b.flag b.number b.day b.receiver_duns b.receiver_place b.supplier_duns v a.tail a.references a.lines a.extras a.deposit a.signature) e7
    ∙ ap (λ (v : List ℕ). record_with b.flag b.number b.day b.receiver_duns b.receiver_place b.supplier_duns b.supplier_place v a.references a.lines a.extras a.deposit a.signature) e8
    ∙ ap (λ (v : List (List ℕ)). record_with b.flag b.number b.day b.receiver_duns b.receiver_place b.supplier_duns b.supplier_place b.tail v a.lines a.extras a.deposit a.signature) e9
    ∙ ap (λ (v : List Line). record_with b.flag b.number b.day b.receiver_duns b.receiver_place b.supplier_duns b.supplier_place b.tail b.references v a.extras a.deposit a.signature) e10
    ∙ ap (λ (v : List Extra). record_with b.flag b.number b.day b.receiver_duns b.receiver_place b.supplier_duns b.supplier_place b.tail b.references b.lines v a.deposit a.signature) e11
    ∙ ap (λ (v : Option ℕ). record_with b.flag b.number b.day b.receiver_duns b.receiver_place b.supplier_duns b.supplier_place b.tail b.references b.lines b.extras v a.signature) e12
    ∙ ap (λ (v : SignatureRecord). record_with b.flag b.number b.day b.receiver_duns b.receiver_place b.supplier_duns b.supplier_place b.tail b.references b.lines b.extras b.deposit v) e13

same_seal : (a b : Seal) → a.control ≡ b.control → a.check ≡ b.check → a ≡ b
same_seal a b c e = ap (λ (v : List ℕ). record { control = v; check = a.check }) c ∙ ap (λ (v : ℕ). record { control = b.control; check = v }) e

pub record IsSame (parts : Parts) (b : BaseRecord) (s : Seal) : Type 0 where
  pub base : record_of parts ≡ b
  pub seal : seal_of parts ≡ s

-- what was read of a text that spells a record is that record
pub same_read : (text : List ℕ) (parts : Parts) (b : BaseRecord) (s : Seal) → Is894 b s text → IsReadFrom (said_by judged nothing (cut_of text).segments) parts → IsSame parts b s
same_read text parts b s is r =
    let o = (only text b s is).0 in
    let some : Some parts.head ≡ Some (head_of b) = sym (o.head ∙ r.head) in
    let head : parts.head ≡ head_of b = cc (some) in
    let totals : parts.closed.totals ≡ (shared_of b s is.amount).totals = r.closed.totals ∙ sym o.totals in
    record {
      base = same_record (record_of parts) b
          (ap (λ (h : Head). h.flag) head)
          (ap (λ (h : Head). h.number) head)
          (ap (λ (h : Head). h.day) head)
          (ap (λ (h : Head). h.receiver_duns) head)
          (ap (λ (h : Head). h.receiver_place) head)
          (ap (λ (h : Head). h.supplier_duns) head)
          (ap (λ (h : Head). h.supplier_place) head)
          (ap (λ (h : Head). h.tail) head)
          (r.closed.references ∙ sym o.references) (r.closed.lines ∙ sym o.lines) (r.closed.extras ∙ sym o.extras)
          (ap (λ (t : StatedTotals). t.deposit) totals) (same_some _ _ (r.closed.signature ∙ sym o.signature));
      seal = same_seal (seal_of parts) s (r.closed.control ∙ sym o.control) (r.closed.check ∙ sym o.check);
    }

-- a text that spells a record has no refusal
pub not_refused : (text : List ℕ) (b : BaseRecord) (s : Seal) → Is894 b s text → refusal_of text ≡ None
not_refused text b s is =
    let o = only text b s is in
    ap (λ (f : Option SegmentFault). refusal_from judged nothing 0 (cut_of text).segments f) o.1 ∙ o.0.none

pub refused_not : (text : List ℕ) (refusal : Refusal) (b : BaseRecord) (s : Seal) → refusal_of text ≡ Some refusal → Is894 b s text → ⊥
refused_not text refusal b s e is = let never : Some refusal ≡ None = sym e ∙ not_refused text b s is in cc

-- the answers of a call that was refused
pub only_err : {X Y : Type 0} (text : List ℕ) (e : SetFault) (r : Result X SetFault) (b : BaseRecord) (s : Seal) (P : Y → Type 0) (Q : X → Type 0) → r ≡ Err e → Answers (Err e) (refusal_of text) P
    → Is894 b s text → Answers r None Q
only_err text errors.Memory r b s P Q same a is = subst (λ (u : _). Answers u None Q) (sym same) tt
only_err text (errors.Refused place reason) r b s P Q same a is = subst (λ (u : _). Answers u None Q) (sym same) (sym (not_refused text b s is) ∙ a)

pub is_base : (text : List ℕ) (b : BaseRecord) (s : Seal) → Is894 b s text → IsBase b
is_base text b s is = record {
  seal = s;
  segments = is.segments;
  spelled = long_ones is.segments 0 text is.spelled;
  amount = is.amount;
  price = is.price;
  shape = is.shape;
  sound = is.sound;
  few = set_few forms.Base s.control (IsHead b) b.references b.lines b.extras (shared_of b s is.amount) is.segments text is.shape is.spelled is.short;
}

pub spelled : (text : List ℕ) (parts : Parts) → refusal_of text ≡ None → IsReadFrom (said_by judged nothing (cut_of text).segments) parts → IsBase (record_of parts)
spelled text parts e r = is_base text (record_of parts) (seal_of parts) (found text parts e r)

-- two records of one text are one
pub one : (text : List ℕ) (a b : BaseRecord) (s t : Seal) → Is894 a s text → Is894 b t text → (a ≡ b) × (s ≡ t)
one text a b s t is also =
    let o = (only text a s is).0 in
    let p = (only text b t also).0 in
    let some : Some (head_of a) ≡ Some (head_of b) = o.head ∙ sym p.head in
    let head : head_of a ≡ head_of b = cc (some) in
    let totals : (shared_of a s is.amount).totals ≡ (shared_of b t also.amount).totals = o.totals ∙ sym p.totals in (
      same_record a b
          (ap (λ (h : Head). h.flag) head)
          (ap (λ (h : Head). h.number) head)
          (ap (λ (h : Head). h.day) head)
          (ap (λ (h : Head). h.receiver_duns) head)
          (ap (λ (h : Head). h.receiver_place) head)
          (ap (λ (h : Head). h.supplier_duns) head)
          (ap (λ (h : Head). h.supplier_place) head)
          (ap (λ (h : Head). h.tail) head)
          (o.references ∙ sym p.references) (o.lines ∙ sym p.lines) (o.extras ∙ sym p.extras)
          (ap (λ (u : StatedTotals). u.deposit) totals) (same_some _ _ (o.signature ∙ sym p.signature)),
      same_seal s t (o.control ∙ sym p.control) (o.check ∙ sym p.check),
    )

pub found_as : (text : List ℕ) (parts : Parts) (b : BaseRecord) (s : Seal) → b ≡ record_of parts → s ≡ seal_of parts
    → refusal_of text ≡ None → IsReadFrom (said_by judged nothing (cut_of text).segments) parts → Is894 b s text
found_as text parts b s eb es e r =
    subst (λ (u : Seal). Is894 b u text) (sym es) (subst (λ (u : BaseRecord). Is894 u (seal_of parts) text) (sym eb) (found text parts e r))

-- what is read of some text
pub read_right : (text : List ℕ) (r : Result Parts SetFault) → Answers r (refusal_of text) (IsReadFrom (said_by judged nothing (cut_of text).segments)) → IfOk r (λ parts. IsBase (record_of parts))
read_right text (Ok parts) h = spelled text parts h.0 h.1
read_right text (Err fault) h = tt
