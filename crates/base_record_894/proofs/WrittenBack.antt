-- The rows that are written of a record are a text of that record.
use Rattle.std.proofs.Common.{◌≡◌, ◌⊎◌, ℕ, ◌≤◌, inl, inr, unsigned_abs, List, [], length, map, codes, None, Ok, Err, refl, sym, ◌∙◌, ap, subst, arith}
use Rattle.std.specs.List.{All}
use Rattle.dsd_pricing.specs.Pricing.{quantities}
use Rattle.dsd_pricing.specs.WholeText.{unless_too_long, whole}
use Rattle.dsd_pricing.specs.declared.fault.WriteFault.{WriteFault}
use Rattle.dsd_pricing.specs.declared.fault.WriteFault.TheVariants.{Memory}
use Rattle.dsd_pricing.proofs.WholeTexts.{text_is, whole_is}
use Rattle.dsd_values.specs.Calendar.{day_of}
use Rattle.dsd_values.specs.Reading.{delivery_number_of, flag_of, word_of}
use Rattle.dsd_values.specs.declared.limits.TheConstants.{SET_BYTES}
use Rattle.dsd_values.specs.Spelling.{flag_text}
use Rattle.dsd_values.specs.Writing.{day_text}
use Rattle.dsd_values.proofs.Again.{IsReadAs, day_again, delivery_number_again, flag_again, word_again}
use Rattle.segments.specs.Views.{Seg, element_of}
use Rattle.transaction_set.specs.RowsWritten.{first_long}
use Rattle.segments.specs.SegmentSpelling.{IsSegment}
use Rattle.segments.specs.SegmentWriting.{segments_of, text_of}
use Rattle.transaction_set.specs.SetWriting.{Row, control_text, kept_row, start_row}
use Rattle.transaction_set.specs.declared.kind.Form.TheVariants as forms
use Rattle.segments.specs.declared.segment_writer.TheConstants.{MOST_CONTROL_NUMBER}
use Rattle.transaction_set.proofs.PartedTexts.{IsTail, tail_is}
use Rattle.transaction_set.proofs.RowsSay.{SaysAgain, reads_at, row_segment, tail_again}
use Rattle.transaction_set.proofs.RowsShape.{IsSealable}
use Rattle.transaction_set.proofs.SetRows.{AreAsked, are_asked, are_long, are_sealed, set_reshaped}
use Rattle.transaction_set.proofs.Tells.{IsLong}
use Rattle.transaction_set.proofs.WrittenSets.{written_set}
use Rattle.segments.specs.SetUnits.{IsSetText}
use Rattle.base_record_894.specs.BaseRecord.{BaseRecord, amount_of}
use Rattle.base_record_894.specs.Grammar.{AreSegments, IsHead, shared_of}
use Rattle.base_record_894.specs.RecordText.{Is894, IsBase}
use Rattle.base_record_894.specs.WrittenText.{after_price, head_elements, head_row, later_rows, opened_rows, rows_of, seal_of, written_of}
use Rattle.base_record_894.proofs.Amounts.{totals_priced}

-- ---- the head

-- what is written of each element of a head is read as its field
pub record HeadElements (base : BaseRecord) : Type 0 where
  pub flag : IsReadAs flag_of base.flag (flag_text base.flag)
  pub number : IsReadAs delivery_number_of base.number base.number
  pub receiver_duns : IsReadAs word_of base.receiver_duns base.receiver_duns
  pub receiver_place : IsReadAs word_of base.receiver_place base.receiver_place
  pub supplier_duns : IsReadAs word_of base.supplier_duns base.supplier_duns
  pub supplier_place : IsReadAs word_of base.supplier_place base.supplier_place
  pub day : IsReadAs day_of base.day (day_text base.day)
  pub tail : IsTail 8 base.tail

pub head_written : (base : BaseRecord) → HeadElements base → SaysAgain (IsHead base) (head_row base)
head_written base are = record {
  says = λ place. record {
    flag = reads_at flag_of base.flag place 1 (head_row base) are.flag;
    number = reads_at delivery_number_of base.number place 2 (head_row base) are.number;
    receiver_duns = reads_at word_of base.receiver_duns place 3 (head_row base) are.receiver_duns;
    receiver_place = reads_at word_of base.receiver_place place 4 (head_row base) are.receiver_place;
    supplier_duns = reads_at word_of base.supplier_duns place 5 (head_row base) are.supplier_duns;
    supplier_place = reads_at word_of base.supplier_place place 6 (head_row base) are.supplier_place;
    day = reads_at day_of base.day place 7 (head_row base) are.day;
    tail = tail_again place 8 (head_row base) base.tail refl are.tail;
  };
  segment = row_segment (codes "G82") (head_elements base) base.tail 8 refl
      (are.flag.element, (are.number.element, (are.receiver_duns.element, (are.receiver_place.element, (are.supplier_duns.element, (are.supplier_place.element, (are.day.element, tt))))))) (omega arith) are.tail;
}

head_again : (base : BaseRecord) (seg : Seg) → IsLong seg → IsHead base seg → SaysAgain (IsHead base) (head_row base)
head_again base seg s is = head_written base (record {
  flag = flag_again base.flag;
  number = delivery_number_again (element_of seg 2) base.number is.number;
  receiver_duns = word_again (element_of seg 3) base.receiver_duns is.receiver_duns;
  receiver_place = word_again (element_of seg 4) base.receiver_place is.receiver_place;
  supplier_duns = word_again (element_of seg 5) base.supplier_duns is.supplier_duns;
  supplier_place = word_again (element_of seg 6) base.supplier_place is.supplier_place;
  day = day_again base.day (element_of seg 7) is.day;
  tail = tail_is 8 seg base.tail (omega arith) s is.tail;
})

-- ---- all rows

-- what is known of the rows of a record
record AreRows (base : BaseRecord) (control : ℕ) : Type 0 where
  segments : All IsSegment (opened_rows base control)
  shape : IsSealable (opened_rows base control) control → AreSegments base (seal_of base control) (amount_of base) (segments_of 0 (rows_of base control))

same_amount : (base : BaseRecord) (is : IsBase base) → is.amount ≡ amount_of base
same_amount base is = ap unsigned_abs (totals_priced base.lines base.extras (quantities base.lines) is.amount is.price)

rows_known : (base : BaseRecord) (control : ℕ) → control ≤ MOST_CONTROL_NUMBER → IsBase base → AreRows base control
rows_known base control small is =
    let shape : AreSegments base is.seal (amount_of base) is.segments = subst (λ (n : ℕ). AreSegments base is.seal n is.segments) (same_amount base is) is.shape in
    let reshaped = set_reshaped (opened_rows base control) forms.Base control (IsHead base) (head_row base) refl (head_again base) small base.references base.lines base.extras (shared_of base is.seal (amount_of base)) in
    let known = reshaped [] is.segments [] shape (are_long is.segments is.spelled) refl in
    record { segments = known.segments; shape = known.shape }

abbrev pub reference_rows : BaseRecord → List Row
reference_rows base = map kept_row base.references

pub asked : (base : BaseRecord) (control : ℕ) → control ≤ MOST_CONTROL_NUMBER → IsBase base → AreAsked (start_row forms.Base control) (head_row base) (reference_rows base) (later_rows base)
asked base control small is = are_asked (start_row forms.Base control) (head_row base) (reference_rows base) (later_rows base) (rows_known base control small is).segments

text_spelled : (base : BaseRecord) (control : ℕ) → control ≤ MOST_CONTROL_NUMBER → IsBase base → first_long (rows_of base control) ≡ None → length (text_of (rows_of base control)) ≤ SET_BYTES → Is894 base (seal_of base control) (text_of (rows_of base control))
text_spelled base control small is none short =
    let known = rows_known base control small is in
    let all = are_sealed (opened_rows base control) control small known.segments none short in
    record {
      segments = segments_of 0 (rows_of base control);
      spelled = all.spelled;
      amount = amount_of base;
      price = is.price ∙ ap (λ (n : ℕ). Ok (record { quantity = quantities base.lines; amount = n })) (same_amount base is);
      shape = known.shape all.sealable;
      sound = is.sound;
      short = short;
    }

-- and it is the text of a set, in whole units
text_set : (base : BaseRecord) (control : ℕ) → control ≤ MOST_CONTROL_NUMBER → IsBase base → first_long (rows_of base control) ≡ None → length (text_of (rows_of base control)) ≤ SET_BYTES → IsSetText (text_of (rows_of base control))
text_set base control small is none short =
    let known = rows_known base control small is in
    let all = are_sealed (opened_rows base control) control small known.segments none short in
    written_set forms.Base (control_text control) (IsHead base) base.references base.lines base.extras (shared_of base (seal_of base control) (amount_of base)) (segments_of 0 (rows_of base control)) (text_of (rows_of base control))
    (known.shape all.sealable) all.written all.spelled

-- ---- what is answered

-- a record has a price
pub priced_so : (base : BaseRecord) (control : ℕ) → IsBase base → written_of base control ≡ whole (unless_too_long (first_long (rows_of base control)) (text_of (rows_of base control)))
priced_so base control is = ap (λ t. after_price t (whole (unless_too_long (first_long (rows_of base control)) (text_of (rows_of base control))))) is.price

-- a record whose rows are refused is
pub refused_so : (base : BaseRecord) (control : ℕ) (passed : WriteFault) → IsBase base → (passed ≡ Memory) ⊎ (unless_too_long (first_long (rows_of base control)) (text_of (rows_of base control)) ≡ Err passed) → (passed ≡ Memory) ⊎ (written_of base control ≡ Err passed)
refused_so base control passed is (inl none) = inl none
refused_so base control passed is (inr e) = inr (priced_so base control is ∙ ap whole e)

-- a text that is written of a record spells it, and is the text of a set
pub record IsRead (base : BaseRecord) (control : ℕ) (text : List ℕ) : Type 0 where
  pub spelled : Is894 base (seal_of base control) text
  pub set : IsSetText text

read_as : (base : BaseRecord) (control : ℕ) (text : List ℕ) → control ≤ MOST_CONTROL_NUMBER → IsBase base → first_long (rows_of base control) ≡ None → text_of (rows_of base control) ≡ text → length text ≤ SET_BYTES → IsRead base control text
read_as base control text small is none same short =
    let few : length (text_of (rows_of base control)) ≤ SET_BYTES = omega (arith, ap length same) in
    record {
      spelled = subst (Is894 base (seal_of base control)) same (text_spelled base control small is none few);
      set = subst IsSetText same (text_set base control small is none few);
    }

pub written_back : (base : BaseRecord) (control : ℕ) (text : List ℕ) → control ≤ MOST_CONTROL_NUMBER → IsBase base → written_of base control ≡ Ok text → IsRead base control text
written_back base control text small is e =
    let all = whole_is (first_long (rows_of base control)) (text_of (rows_of base control)) text (sym (priced_so base control is) ∙ e) in
    read_as base control text small is all.none all.same all.short

pub answer_read : (base : BaseRecord) (control : ℕ) (text : List ℕ) → control ≤ MOST_CONTROL_NUMBER → IsBase base
    → unless_too_long (first_long (rows_of base control)) (text_of (rows_of base control)) ≡ Ok text → length text ≤ SET_BYTES → IsRead base control text
answer_read base control text small is e short =
    let all = text_is (first_long (rows_of base control)) (text_of (rows_of base control)) text e in
    read_as base control text small is all.0 all.1 short
