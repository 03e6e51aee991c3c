-- The set that is read of a text is the one that the text is.
use Rattle.std.proofs.Common.{◌≡◌, ◌<◌, ◌≤◌, ℕ, Bool, List, [], ◌∷◌, length, if◌then◌else◌, Option, Some, None, refl, sym, ap, subst, ◌∙◌, arith}
use Rattle.dsd_values.specs.SignatureRecord.{SignatureRecord}
use Rattle.dsd_values.specs.declared.extra.Extra.{Extra}
use Rattle.dsd_values.specs.declared.limits.TheConstants.{SET_BYTES}
use Rattle.dsd_values.specs.declared.line.Line.{Line}
use Rattle.transaction_set.specs.Refusal.{Refusal, said_by}
use Rattle.segments.specs.SegmentCut.{cut_of}
use Rattle.transaction_set.specs.SoFar.{SoFar}
use Rattle.transaction_set.specs.declared.kind.Form.TheVariants as forms
use Rattle.transaction_set.specs.declared.seal.Seal.{Seal}
use Rattle.transaction_set.specs.declared.stated.StatedTotals.{StatedTotals}
use Rattle.base_record_894.specs.BaseRecord.{BaseRecord}
use Rattle.base_record_894.specs.FirstRefusal.{judged as base_judged}
use Rattle.base_record_894.specs.RecordText.{Is894}
use Rattle.base_record_894.specs.Said.{nothing as no_base}
use Rattle.base_record_894.specs.declared.head.Head.{Head as BaseHead}
use Rattle.base_record_894.proofs.FoundOnly.{only as only_base}
use Rattle.base_record_894.proofs.Moves.{head_of}
use Rattle.adjustment_895.specs.AnswerRecord.{AnswerRecord}
use Rattle.adjustment_895.specs.AnswerText.{Is895}
use Rattle.adjustment_895.specs.FirstRefusal.{judged as answer_judged}
use Rattle.adjustment_895.specs.Grammar.{notes}
use Rattle.adjustment_895.specs.ReadParts.{first_note}
use Rattle.adjustment_895.specs.Said.{nothing as no_answer}
use Rattle.adjustment_895.specs.declared.head.AnswerHead.{AnswerHead}
use Rattle.adjustment_895.proofs.FoundOnly.{only as only_answer}
use Rattle.adjustment_895.proofs.Moves.{head_of as answer_head}
use Rattle.dsd_record.specs.SetTexts.{IsSet, set_refusal}
use Rattle.dsd_record.specs.declared.set_view.SetView.{SetView}
use Rattle.dsd_record.specs.declared.set_view.SetView.TheVariants as sets
use Rattle.dsd_record.proofs.Sets.{begins_own, empty_refused, no_answer_begins, not_refused, refused_not, some_set}
use Rattle.dsd_record.proofs.FirstSegments.{of_begins}
use Rattle.dsd_record.specs.ReadSets.{answer_said, base_said, read_answer, read_base, said_in, seal_said, set_in, unless_refused}

-- ---- a base record

abbrev base_of : BaseRecord → List (List ℕ) → List Line → List Extra → Option ℕ → BaseRecord
base_of base references lines extras deposit = record base { references = references; lines = lines; extras = extras; deposit = deposit }

abbrev seal_with : List ℕ → ℕ → Seal
seal_with control check = record { control = control; check = check }

base_read : (text : List ℕ) (base : BaseRecord) (seal : Seal) → Is894 base seal text → read_base (said_by base_judged no_base (cut_of text).segments) ≡ Some (sets.Base base seal)
base_read text base seal is =
    let o = (only_base text base seal is).0 in
    let m : SoFar = (said_by base_judged no_base (cut_of text).segments).course in
    let deposit : base.deposit ≡ m.totals.deposit = ap (λ (t : StatedTotals). t.deposit) o.totals in
    ap (λ (h : Option BaseHead). base_said h m.signature m) (sym o.head)
    ∙ ap (λ (g : Option SignatureRecord). base_said (Some (head_of base)) g m) (sym o.signature)
    ∙ ap (λ (x : List (List ℕ)). Some (sets.Base (base_of base x m.lines m.extras m.totals.deposit) (seal_said m))) (sym o.references)
    ∙ ap (λ (x : List Line). Some (sets.Base (base_of base base.references x m.extras m.totals.deposit) (seal_said m))) (sym o.lines)
    ∙ ap (λ (x : List Extra). Some (sets.Base (base_of base base.references base.lines x m.totals.deposit) (seal_said m))) (sym o.extras)
    ∙ ap (λ (x : Option ℕ). Some (sets.Base (base_of base base.references base.lines base.extras x) (seal_said m))) (sym deposit)
    ∙ ap (λ (x : List ℕ). Some (sets.Base base (seal_with x m.integrity))) (sym o.control)
    ∙ ap (λ (x : ℕ). Some (sets.Base base (seal_with seal.control x))) (sym o.check)

-- ---- an answer

abbrev answer_of : AnswerRecord → Option (List ℕ) → List Line → StatedTotals → AnswerRecord
answer_of answer note lines totals = record answer { note = note; lines = lines; quantity = totals.quantity; amount = totals.amount; deposit = totals.deposit }

abbrev totals_of : AnswerRecord → StatedTotals
totals_of answer = record { quantity = answer.quantity; amount = answer.amount; deposit = answer.deposit }

note_is : (note : Option (List ℕ)) → first_note (notes note) ≡ note
note_is (Some text) = refl
note_is None = refl

answer_read : (text : List ℕ) (answer : AnswerRecord) (seal : Seal) → Is895 answer seal text → read_answer (said_by answer_judged no_answer (cut_of text).segments) ≡ Some (sets.Answer answer seal)
answer_read text answer seal is =
    let o = (only_answer text answer seal is).0 in
    let m : SoFar = (said_by answer_judged no_answer (cut_of text).segments).course in
    let note : first_note m.references ≡ answer.note = ap first_note (sym o.references) ∙ note_is answer.note in
    let totals : totals_of answer ≡ m.totals = o.totals in
    ap (λ (h : Option AnswerHead). answer_said h m.signature m) (sym o.head)
    ∙ ap (λ (g : Option SignatureRecord). answer_said (Some (answer_head answer)) g m) (sym o.signature)
    ∙ ap (λ (x : Option (List ℕ)). Some (sets.Answer (answer_of answer x m.lines m.totals) (seal_said m))) note
    ∙ ap (λ (x : List Line). Some (sets.Answer (answer_of answer answer.note x m.totals) (seal_said m))) (sym o.lines)
    ∙ ap (λ (x : StatedTotals). Some (sets.Answer (answer_of answer answer.note answer.lines x) (seal_said m))) (sym totals)
    ∙ ap (λ (x : List ℕ). Some (sets.Answer answer (seal_with x m.integrity))) (sym o.control)
    ∙ ap (λ (x : ℕ). Some (sets.Answer answer (seal_with seal.control x))) (sym o.check)

-- ---- either

said_is : (text : List ℕ) (set : SetView) → IsSet set text → said_in text ≡ Some set
said_is text (sets.Base base seal) is =
    ap (λ (b : Bool). if b then read_answer (said_by answer_judged no_answer (cut_of text).segments) else read_base (said_by base_judged no_base (cut_of text).segments))
    (no_answer_begins text (begins_own (sets.Base base seal) text is))
    ∙ base_read text base seal is
said_is text (sets.Answer answer seal) is =
    ap (λ (b : Bool). if b then read_answer (said_by answer_judged no_answer (cut_of text).segments) else read_base (said_by base_judged no_base (cut_of text).segments))
    (of_begins forms.Answer text (begins_own (sets.Answer answer seal) text is))
    ∙ answer_read text answer seal is

pub set_in_is : (text : List ℕ) (set : SetView) → IsSet set text → set_in text ≡ Some set
unfolding set_in
set_in_is text set is = ap (λ (r : Option Refusal). unless_refused r (said_in text)) (not_refused text set is) ∙ said_is text set is

none_read : (text : List ℕ) (set : SetView) (r : Option Refusal) → set_refusal text ≡ r → unless_refused r (said_in text) ≡ Some set → set_refusal text ≡ None
none_read text set None e h = e
none_read text set (Some refusal) e h = cc

some_same : (a b : SetView) → Some a ≡ Some b → a ≡ b
some_same a b e = cc

-- what is read of a text is the set that the text is
pub is_set_in : (text : List ℕ) (set : SetView) → set_in text ≡ Some set → IsSet set text
unfolding set_in
is_set_in text set e =
    let found = some_set text (none_read text set (set_refusal text) refl e) in
    subst (λ (x : SetView). IsSet x text) (some_same found.0 set (sym (set_in_is text found.0 found.1) ∙ e)) found.1

-- what is refused is none
pub no_set_in : (text : List ℕ) (refusal : Refusal) → set_refusal text ≡ Some refusal → set_in text ≡ None
unfolding set_in
no_set_in text refusal e = ap (λ (r : Option Refusal). unless_refused r (said_in text)) e

-- ---- the length of a set

short : (set : SetView) (text : List ℕ) → IsSet set text → length text ≤ SET_BYTES
short (sets.Base base seal) text is = is.short
short (sets.Answer answer seal) text is = is.short

filled : (text : List ℕ) (set : SetView) → IsSet set text → 0 < length text
filled [] set is = absurd (refused_not [] _ empty_refused set is)
filled (byte ∷ bytes) set is = omega arith

pub sized : (text : List ℕ) (set : SetView) → IsSet set text → (0 < length text) × (length text ≤ SET_BYTES)
sized text set is = (filled text set is, short set text is)
