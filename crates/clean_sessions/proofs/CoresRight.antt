-- The supplier with its drafts, and the receiver with its counts, sign with signatures that may be written.
use Rattle.std.proofs.Common.{◌≡◌, ℕ, length, List, [], ◌∷◌, ◌++◌, Option, Some, None, Result, Ok, refl, sym, ap, subst, ◌∙◌, inl, inr, arith}
use Rattle.std.specs.Prelude.{All, bytes_eq}
use Rattle.std.specs.List.{flat_map}
use Rattle.std.specs.Option.{option_map}
use Rattle.dsd_values.specs.Reading.{word_between, word_of}
use Rattle.dsd_values.specs.SignatureRecord.{IsSignature, SignatureRecord}
use Rattle.dsd_values.specs.declared.limits.TheConstants.{MARK_BYTES}
use Rattle.dsd_values.specs.declared.fault.ValueFault.{ValueFault}
use Rattle.dsd_values.proofs.Again.{word_again, word_between_again}
use Rattle.dsd_values.proofs.Laws.{word_between_spelled, word_of_spelled}
use Rattle.transaction_set.specs.Grammar.{Closing, IsStart, Shared}
use Rattle.segments.specs.Views.{Seg, element_of}
use Rattle.transaction_set.specs.declared.kind.Form.{Form}
use Rattle.transaction_set.specs.declared.kind.Form.TheVariants as forms
use Rattle.base_record_894.specs.BaseRecord.{BaseRecord}
use Rattle.base_record_894.specs.Grammar.{IsHead, shared_of}
use Rattle.base_record_894.specs.RecordText.{IsBase}
use Rattle.dsd_record.specs.Choices.{ChoosesSoundly}
use Rattle.delivery_book.proofs.Listed.{in_map}
use Rattle.delivery_book.proofs.Members.{In, find_in}
use Rattle.plain_lines.specs.PlainText.{LineSeen, lines_in, word_of_line}
use Rattle.handheld_core.specs.Choosing.{supplier}
use Rattle.handheld_core.specs.DraftTexts.{draft_under}
use Rattle.handheld_core.specs.declared.draft.Draft.{Draft}
use Rattle.receiver_core.specs.Choosing.{receiver}
use Rattle.receiver_core.specs.CountTexts.{Entry, Say, Says, SaysEntry, Sign, count_under, entries_of}
use Rattle.receiver_core.specs.declared.count.Count.{Count}
use Rattle.clean_sessions.specs.ChosenAnswers.{ChoosesRightly}
use Rattle.clean_sessions.proofs.OwnSets.{each_base}
use Rattle.clean_sessions.proofs.SealChecks.{closing_of}

some_signature : (a b : SignatureRecord) → (let r : Option SignatureRecord = Some a in r) ≡ Some b → a ≡ b
some_signature a b e = cc

-- ---- a mark and a name that were read

signature_read : (signature : SignatureRecord) (mark name : List ℕ) → word_between 1 MARK_BYTES mark ≡ Ok signature.mark → word_of name ≡ Ok signature.name → IsSignature signature
signature_read signature mark name e f =
    let m = (word_between_spelled 1 MARK_BYTES mark (word_between 1 MARK_BYTES mark) refl signature.mark).0 e in
    let n = (word_of_spelled name (word_of name) refl signature.name).0 f in
    let size = ap length m.same in
    let name_size = ap length n.same in
    let filled = m.filled in
    let short = m.short in
    let name_short = n.short in
    record {
      mark = (word_between_again 1 MARK_BYTES mark signature.mark e).element;
      filled = omega (arith, size, filled);
      short = omega (arith, size, short);
      name = (word_again name signature.name f).element;
      name_short = omega (arith, name_size, name_short);
    }

-- ---- of a base record

closed_signature : (form : Form) (t : Shared) (before segs : List Seg) → Closing form t before segs → IsSignature t.signature
closed_signature form t before [] s = absurd s
closed_signature form t before (one ∷ []) (_, _, s) = absurd s
closed_signature form t before (one ∷ two ∷ segs) (_, _, (_, i, _)) = signature_read t.signature (element_of two 1) (element_of two 2) i.mark i.name

base_signature : (base : BaseRecord) → IsBase base → IsSignature base.signature
base_signature base is =
    let c = closing_of forms.Base base.references base.lines base.extras (shared_of base is.seal is.amount) (λ _ seg. IsStart is.seal.control seg) (λ _ seg. IsHead base seg) is.segments is.shape in
    closed_signature forms.Base (shared_of base is.seal is.amount) c.before c.left c.there

pub drafts_right : (drafts : List Draft) → All IsBase (supplier drafts).drafts → ChoosesSoundly (supplier drafts) → ChoosesRightly (supplier drafts)
drafts_right drafts bases sound = record { drafts = bases; choices = sound; signatures = λ number signature e. by number signature (draft_under number drafts) refl e }
  where
    by : (number : List ℕ) (signature : SignatureRecord) (o : Option Draft) → draft_under number drafts ≡ o → option_map (λ (draft : Draft). draft.base.signature) o ≡ Some signature → IsSignature signature
    by number signature None e f = absurd (cc)
    by number signature (Some draft) e f =
        let found = find_in (λ (d : Draft). bytes_eq number d.base.number) drafts draft e in
        let base = each_base (supplier drafts).drafts draft.base bases (in_map (λ (d : Draft). d.base) drafts draft found.among) in
        subst IsSignature (some_signature draft.base.signature signature f) (base_signature draft.base base)

-- ---- of a count

said_by : (entry : Entry) (entries : List Entry) (lines : List LineSeen) → In entry entries → Say entries lines → (line : LineSeen) × SaysEntry entry line
said_by entry [] lines there say = absurd there
said_by entry (one ∷ entries) [] there say = absurd say
said_by entry (one ∷ entries) (line ∷ lines) (inl same) say = (line, subst (λ (x : Entry). SaysEntry x line) same say.0)
said_by entry (one ∷ entries) (line ∷ lines) (inr there) say = said_by entry entries lines there say.1

in_behind : {X : Type 0} (xs ys : List X) (x : X) → In x ys → In x (xs ++ ys)
in_behind [] ys x there = there
in_behind (one ∷ xs) ys x there = inr (in_behind xs ys x there)

signs_among : (counts : List Count) (count : Count) → In count counts → In (Sign count.signature) (flat_map entries_of counts)
signs_among [] count there = absurd there
signs_among (one ∷ counts) count (inl same) = subst (λ (c : Count). In (Sign c.signature) (flat_map entries_of (one ∷ counts))) same (inr (inl refl))
signs_among (one ∷ counts) count (inr there) = in_behind (entries_of one) (flat_map entries_of counts) (Sign count.signature) (signs_among counts count there)

no_name : word_of [] ≡ Ok []
no_name = refl

pub counts_right : (counts : List Count) (text : List ℕ) → Says counts text → ChoosesSoundly (receiver counts) → All IsBase (receiver counts).drafts → ChoosesRightly (receiver counts)
counts_right counts text says sound none = record { drafts = none; choices = sound; signatures = λ number signature e. by number signature (count_under number counts) refl e }
  where
    by : (number : List ℕ) (signature : SignatureRecord) (o : Option Count) → count_under number counts ≡ o → option_map (λ (count : Count). count.signature) o ≡ Some signature → IsSignature signature
    by number signature None e f = absurd (cc)
    by number signature (Some count) e f =
        let found = find_in (λ (c : Count). bytes_eq number c.number) counts count e in
        let line = said_by (Sign count.signature) (flat_map entries_of counts) (lines_in text).lines (signs_among counts count found.among) says.lines in
        subst IsSignature (some_signature count.signature signature f)
        (signature_read count.signature (word_of_line line.0 1) [] line.1.1.mark (no_name_of count.signature line.1.1.name))
      where
        no_name_of : (s : SignatureRecord) → s.name ≡ [] → word_of [] ≡ Ok s.name
        no_name_of s e = no_name ∙ ap (λ (l : List ℕ). let r : Result (List ℕ) ValueFault = Ok l in r) (sym e)
