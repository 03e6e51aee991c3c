-- Which lines and extras are sound, and that a set can be written of them.
use Rattle.std.proofs.Common.{◌≡◌, ℕ, ◌^◌, ◌<◌, ◌≤◌, Bool, true, false, List, [], length, position, codes, get_or, Option, Some, None, Result, Ok, refl, sym, ◌∙◌, ap, subst, arith, inl, inr}
use Rattle.std.specs.List.{All, join_with_byte}
use Rattle.std.proofs.lemmas.List.Elements.{All-nil}
use Rattle.dsd_values.specs.Reading.{cents_of, cost_of, decimal_of, filled_word_of, is_no_element_byte, number_of, percent_of, quantity_of, word_of}
use Rattle.dsd_values.specs.Writing.{cost_text, decimal_text, number_text, percent_text}
use Rattle.dsd_values.specs.declared.allowance.Allowance.{Allowance}
use Rattle.dsd_values.specs.declared.cost.TheConstants.Cost.{MAX as MOST_COST}
use Rattle.dsd_values.specs.declared.extra.Extra.TheVariants.{Allow, Note}
use Rattle.dsd_values.specs.declared.fault.ValueFault.{ValueFault}
use Rattle.dsd_values.specs.declared.limits.TheConstants.{WORD_BYTES}
use Rattle.dsd_values.specs.declared.line.Line.{Line}
use Rattle.dsd_values.specs.declared.quantity.TheConstants.Quantity.{MAX as MOST_QUANTITY}
use Rattle.dsd_values.proofs.Again.{IsReadAs, decimal_text_element}
use Rattle.dsd_values.proofs.Elements.{decimal_element}
use Rattle.dsd_values.proofs.ReadBack.{decimal_read_back, number_read_back}
use Rattle.dsd_values.proofs.Refusals.{bounded_gives, filled_gives}
use Rattle.segments.specs.Views.{Seg}
use Rattle.segments.specs.Elements.{optional}
use Rattle.transaction_set.specs.Extras.{HasExtras, is_note}
use Rattle.transaction_set.specs.Kinds.{kind_of}
use Rattle.segments.specs.SegmentWriting.{segment_of}
use Rattle.transaction_set.specs.SetWriting.{allowance_row, item_row, optional_text}
use Rattle.transaction_set.specs.SoundLines.{AreFew, AreSoundExtras, IsAtMost, IsNote, IsNoteId, IsPlainAllowance, IsPlainLine, IsPlainWord, IsSoundExtra, IsSoundLine}
use Rattle.transaction_set.specs.declared.kind.Form.{Form}
use Rattle.transaction_set.specs.declared.kind.Form.TheVariants as forms
use Rattle.transaction_set.proofs.KindsById.{kind_by_id}
use Rattle.transaction_set.proofs.PartedTexts.{IsTail, no_tail, text_is, trimmed_segment}
use Rattle.transaction_set.proofs.RowKinds.{allowance_kind, kind_row, line_note_kind, note_kind}
use Rattle.transaction_set.proofs.RowsSay.{ItemElements, allowance_written, item_elements_again, item_written, optional_some}
use Rattle.transaction_set.proofs.Tells.{IsSaid}

-- ---- elements that are right by themselves

pub word_plain : (text : List ℕ) → IsPlainWord text → IsReadAs word_of text text
word_plain text is = record { read = bounded_gives (List ℕ) WORD_BYTES (position is_no_element_byte text) text (Ok text) is.short is.characters; element = is.characters }

filled_word_plain : (text : List ℕ) → IsPlainWord text → 0 < length text → IsReadAs filled_word_of text text
filled_word_plain text is some = record { read = filled_gives (List ℕ) WORD_BYTES (position is_no_element_byte text) text (Ok text) some is.short is.characters; element = is.characters }

pub number_plain : (low high n : ℕ) → high < 10 ^ 15 → low ≤ n → n ≤ high → IsReadAs (number_of low high) n (number_text n)
number_plain low high n small least most = record { read = number_read_back low high n (number_text n) refl (omega arith) least most; element = decimal_text_element n (omega arith) }

decimal_plain : (places high n : ℕ) → places ≤ 4 → high ≤ 999_999_999 → n ≤ high → IsReadAs (decimal_of places high) n (decimal_text places n)
decimal_plain places high n few small most =
    let back : decimal_of places high (decimal_text places n) ≡ Ok n = decimal_read_back places high n (decimal_text places n) refl (omega arith) few most in
    record { read = back; element = decimal_element places high (decimal_text places n) n back }

cents_plain : (n : ℕ) → n ≤ 99_999_999_999 → IsReadAs cents_of n (number_text n)
cents_plain n most = number_plain 0 99_999_999_999 n (omega arith) (omega arith) most

quantity_plain : (n : ℕ) → n ≤ 99_999 → IsReadAs quantity_of n (number_text n)
quantity_plain n most = number_plain 0 99_999 n (omega arith) (omega arith) most

cost_plain : (n : ℕ) → n ≤ 999_999_999 → IsReadAs cost_of n (cost_text n)
cost_plain n most = decimal_plain 4 999_999_999 n (omega arith) (omega arith) most

module _ (reading : List ℕ → Result ℕ ValueFault) (writing : ℕ → List ℕ) (empty : (v : ℕ) → reading [] ≡ Ok v → ⊥) (most : ℕ) (plain : (n : ℕ) → n ≤ most → IsReadAs reading n (writing n)) where
  optional_plain : (value : Option ℕ) → IsAtMost most value → IsReadAs (optional reading) value (optional_text writing value)
  optional_plain None h = record { read = refl; element = refl }
  optional_plain (Some n) h =
      let is = plain n h in
      record { read = optional_some reading writing empty (writing n) n is.read; element = is.element }

-- ---- lines

line_elements : (line : Line) → IsPlainLine line → ItemElements line
line_elements line is = record {
  dsd = number_plain 1 9_999 line.dsd (omega arith) is.least is.most;
  quantity = quantity_plain line.quantity is.quantity;
  unit = filled_word_plain line.unit is.unit is.filled;
  upc = word_plain line.upc is.upc;
  qualifier = word_plain line.details.qualifier is.qualifier;
  id = word_plain line.details.id is.id;
  case_code = word_plain line.details.case_code is.case_code;
  cost = cost_plain line.cost is.cost;
  pack = word_plain line.details.pack is.pack;
  label = word_plain line.details.label is.label;
  tail = subst (λ (t : List ℕ). IsTail 11 t) (sym is.tail) (no_tail 11 (omega arith));
}

-- a line whose elements may be written is sound
written_line : (line : Line) → ItemElements line → AreSoundExtras true line.extras → IsSoundLine line
written_line line are extras =
    let written = item_written forms.Answer line are in
    record { item = segment_of 0 (item_row forms.Answer line); segment = trimmed_segment (item_row forms.Answer line) written.segment; says = written.says 0; extras = extras }

pub plain_line : (line : Line) → IsPlainLine line → AreSoundExtras true line.extras → IsSoundLine line
plain_line line is extras = written_line line (line_elements line is) extras

counted_elements : (line : Line) (quantity cost : ℕ) → quantity ≤ MOST_QUANTITY → cost ≤ MOST_COST → ItemElements line → ItemElements (record line { quantity = quantity; cost = cost })
counted_elements line quantity cost q c are = record {
  dsd = are.dsd;
  quantity = quantity_plain quantity q;
  unit = are.unit;
  upc = are.upc;
  qualifier = are.qualifier;
  id = are.id;
  case_code = are.case_code;
  cost = cost_plain cost c;
  pack = are.pack;
  label = are.label;
  tail = are.tail;
}

-- a sound line stays sound with another quantity and cost
pub counted_line : (line : Line) (quantity cost : ℕ) → IsSoundLine line → quantity ≤ MOST_QUANTITY → cost ≤ MOST_COST → IsSoundLine (record line { quantity = quantity; cost = cost })
counted_line line quantity cost is q c =
    written_line (record line { quantity = quantity; cost = cost }) (counted_elements line quantity cost q c (item_elements_again line is.item is.segment is.says)) is.extras

pub line_behind : (line : Line) → IsSoundLine line → HasExtras line
line_behind line is = is.extras.limit

-- ---- extras

pub no_extras : (in_line : Bool) → AreSoundExtras in_line []
no_extras in_line = record { each = All-nil (IsSoundExtra in_line); limit = record { sized = All-nil _; few = omega arith }; few = omega arith }

pub plain_allowance : (in_line : Bool) (allowance : Allowance) → IsPlainAllowance in_line allowance → IsSoundExtra in_line (Allow allowance)
plain_allowance in_line allowance is =
    let written = allowance_written in_line allowance (record {
      code = filled_word_plain allowance.code is.code is.code_filled;
      method = filled_word_plain allowance.method is.method is.method_filled;
      number = word_plain allowance.number is.number;
      exception = word_plain allowance.exception is.exception;
      rate = optional_plain cost_of cost_text (λ v h. cc (h)) 999_999_999 cost_plain allowance.rate is.rate;
      quantity = optional_plain quantity_of number_text (λ v h. cc (h)) 99_999 quantity_plain allowance.quantity is.quantity;
      unit = word_plain allowance.unit is.unit;
      total = optional_plain cents_of number_text (λ v h. cc (h)) 99_999_999_999 cents_plain allowance.total is.total;
      percent = optional_plain percent_of percent_text (λ v h. cc (h)) 99_999 (λ n most. decimal_plain 2 99_999 n (omega arith) (omega arith) most) allowance.percent is.percent;
      tail = subst (λ (t : List ℕ). IsTail 10 t) (sym is.tail) (no_tail 10 (omega arith));
      size = is.size;
    }) in
    record {
      saying = segment_of 0 (allowance_row allowance);
      segment = trimmed_segment (allowance_row allowance) written.segment;
      says = λ form. (kind_row form 0 (allowance_row allowance) ∙ allowance_kind form allowance.code, written.says 0);
    }

abbrev unplaced : List (List ℕ) → Seg
unplaced parts = record { start = 0; bytes = []; parts = parts }

note_by_id : (in_line : Bool) (form : Form) (parts : List (List ℕ)) → IsNoteId in_line (get_or parts 0 []) → is_note in_line (kind_of form (unplaced parts)) ≡ true
note_by_id true form parts (inl e) = ap (is_note true) (kind_by_id form (unplaced parts) (codes "G22") e ∙ line_note_kind form (get_or parts 1 []))
note_by_id true form parts (inr e) = ap (is_note true) (kind_by_id form (unplaced parts) (codes "G23") e ∙ note_kind form (get_or parts 1 []))
note_by_id false form parts e = ap (is_note false) (kind_by_id form (unplaced parts) (codes "G23") e ∙ note_kind form (get_or parts 1 []))

pub plain_note : (in_line : Bool) (text : List ℕ) → IsNote in_line text → IsSoundExtra in_line (Note text)
plain_note in_line text is = record {
  saying = unplaced is.parts;
  segment = is.segment;
  says = λ form. (note_by_id in_line form is.parts is.id, text_is is.parts is.segment.characters ∙ ap (join_with_byte 42) is.trimmed ∙ sym is.joined);
}

-- ---- the lines of sets

sound_said : (line : Line) → IsSaid line → HasExtras line → AreFew line.extras → IsSoundLine line
sound_said line is behind few = record { item = is.item; segment = is.segment; says = is.says; extras = record { each = is.each; limit = behind; few = few } }

abbrev pub HasFew : Line → Type 0
HasFew line = AreFew line.extras

pub sound_all : (lines : List Line) → All IsSaid lines → All HasExtras lines → All HasFew lines → All IsSoundLine lines
sound_all lines said behind few = λ k d inside. sound_said _ (said k d inside) (behind k d inside) (few k d inside)

pub said_all : (lines : List Line) → All IsSoundLine lines → All IsSaid lines
said_all lines sound = λ k d inside. record { item = (sound k d inside).item; segment = (sound k d inside).segment; says = (sound k d inside).says; each = (sound k d inside).extras.each }
