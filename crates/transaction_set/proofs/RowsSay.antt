-- What is written of what a segment says is a segment that says the same.
use Rattle.std.proofs.Common.{◌≡◌, ℕ, ◌+◌, ◌≤◌, Bool, IsTrue, List, [], ◌∷◌, ◌++◌, length, drop, codes, get_or, Option, Some, None, Result, Ok, Err, refl, sym, ◌∙◌, ap, subst, arith, length-append}
use Rattle.std.specs.List.{All, join_with_byte}
use Rattle.std.proofs.lemmas.List.Elements.{All-append, All-cons, All-nil}
use Rattle.dsd_values.specs.Reading.{IsElementText, cents_of, cost_of, dsd_of, filled_word_of, percent_of, quantity_of, total_quantity_of, word_between, word_of}
use Rattle.dsd_values.specs.Writing.{cost_text, number_text, percent_text}
use Rattle.dsd_values.specs.declared.allowance.Allowance.{Allowance}
use Rattle.dsd_values.specs.declared.fault.ValueFault.{ValueFault}
use Rattle.dsd_values.specs.declared.line.Line.{Line}
use Rattle.dsd_values.specs.declared.limits.TheConstants.{MARK_BYTES}
use Rattle.dsd_values.specs.SignatureRecord.{SignatureRecord}
use Rattle.dsd_values.proofs.Again.{IsReadAs, decimal_again, filled_word_again, number_again, word_again, word_between_again}
use Rattle.segments.specs.Views.{Seg, element_of}
use Rattle.transaction_set.specs.Allowances.{HasSize, IsAllowance}
use Rattle.segments.specs.Elements.{optional, some_of, tail_from, without_end_stars}
use Rattle.transaction_set.specs.Grammar.{AreEmpty, IsItem, IsLoopId, IsNoLonger, IsSignature, IsStart, IsTotals}
use Rattle.transaction_set.specs.Kinds.{item_id, set_code}
use Rattle.segments.specs.SegmentSpelling.{IsPart, IsSegment, is_id}
use Rattle.segments.specs.SegmentWriting.{segment_of, without_empty_end}
use Rattle.transaction_set.specs.SetWriting.{Row, allowance_elements, allowance_row, control_text, item_elements, item_row, loop_id, optional_text, parted, row_of, signature_row, start_row, totals_row}
use Rattle.transaction_set.specs.declared.kind.Form.{Form}
use Rattle.transaction_set.specs.declared.kind.Form.TheVariants as forms
use Rattle.transaction_set.specs.declared.stated.StatedTotals.{StatedTotals}
use Rattle.segments.specs.declared.segment_writer.TheConstants.{MOST_CONTROL_NUMBER}
use Rattle.transaction_set.proofs.ControlNumbers.{control_between, control_element}
use Rattle.segments.proofs.EmptyEnds.{trim_drop, trim_element, trim_tail}
use Rattle.transaction_set.proofs.PartedTexts.{IsTail, no_tail, tail_is}
use Rattle.segments.proofs.Written.{element_part, id_part}

-- ---- elements of a written row

-- the element is read as this value
pub reads_at : {V : Type 0} (reading : List ℕ → Result V ValueFault) (v : V) (place number : ℕ) (row : Row) → IsReadAs reading v (get_or row number []) → reading (element_of (segment_of place row) number) ≡ Ok v
reads_at reading v place number row is = ap reading (trim_element row number) ∙ is.read

-- these may all stand in elements
abbrev AreParts : List (List ℕ) → Type 0
AreParts [] = Unit {0}
AreParts (text ∷ more) = IsElementText text × AreParts more

all_parts : (texts : List (List ℕ)) → AreParts texts → All IsPart texts
all_parts [] h = All-nil IsPart
all_parts (text ∷ more) h = All-cons IsPart text more (element_part text h.0) (all_parts more h.1)

-- a row is a segment
pub row_segment : (id : List ℕ) (elements : List (List ℕ)) (tail : List ℕ) (before : ℕ) → IsTrue (is_id id) → AreParts elements → before ≡ length elements + 1 → IsTail before tail → IsSegment (row_of id elements tail)
row_segment id elements tail before i h size t = record {
  characters = All-cons IsPart id (elements ++ parted tail) (id_part id i) (All-append IsPart elements (parted tail) (all_parts elements h) t.characters);
  id = i;
  few = omega (arith, t.few, length-append elements (parted tail));
}

-- the tail of a row
pub tail_again : (place before : ℕ) (row : Row) (tail : List ℕ) → drop before row ≡ parted tail → IsTail before tail → tail_from before (segment_of place row) ≡ tail
tail_again place before row tail e t = trim_tail before row ∙ ap (λ (l : List (List ℕ)). without_end_stars (join_with_byte 42 l)) e ∙ t.same

-- nothing stands behind the last element
pub no_longer : (place last : ℕ) (row : Row) → drop (last + 1) row ≡ [] → IsNoLonger last (segment_of place row)
no_longer place last row e = subst AreEmpty (sym (trim_drop (last + 1) row ∙ ap without_empty_end e)) tt

-- ---- values that may be left out

some_is : {V : Type 0} (r : Result V ValueFault) (v : V) → some_of r ≡ Ok (Some v) → r ≡ Ok v
some_is (Ok x) v e = cc
some_is (Err f) v e = cc

none_is : {V : Type 0} (r : Result V ValueFault) → some_of r ≡ Ok None → ⊥
none_is (Ok x) e = cc
none_is (Err f) e = cc

none_some : {V : Type 0} (v : V) → (let none : Result (Option V) ValueFault = Ok None in none) ≡ Ok (Some v) → ⊥
none_some v e = cc

module _ {V : Type 0} (reading : List ℕ → Result V ValueFault) (writing : V → List ℕ) (empty : (v : V) → reading [] ≡ Ok v → ⊥) where
  pub optional_some : (text : List ℕ) (v : V) → reading text ≡ Ok v → optional reading text ≡ Ok (Some v)
  optional_some [] v e = absurd (empty v e)
  optional_some (byte ∷ more) v e = let some : optional reading (byte ∷ more) ≡ some_of (reading (byte ∷ more)) = grind arith in some ∙ ap some_of e

  some_optional : (text : List ℕ) (v : V) → optional reading text ≡ Ok (Some v) → reading text ≡ Ok v
  some_optional [] v e = absurd (none_some v e)
  some_optional (byte ∷ more) v e = let some : optional reading (byte ∷ more) ≡ some_of (reading (byte ∷ more)) = grind arith in some_is (reading (byte ∷ more)) v (sym some ∙ e)

  optional_again : ((v : V) (text : List ℕ) → reading text ≡ Ok v → IsReadAs reading v (writing v)) → (value : Option V) (text : List ℕ) → optional reading text ≡ Ok value → IsReadAs (optional reading) value (optional_text writing value)
  optional_again again None text e = record { read = refl; element = refl }
  optional_again again (Some v) text e =
      let is = again v text (some_optional text v e) in
      record { read = optional_some (writing v) v is.read; element = is.element }

dsd_again : (n : ℕ) (text : List ℕ) → dsd_of text ≡ Ok n → IsReadAs dsd_of n (number_text n)
dsd_again n text e = number_again 1 9_999 n text (omega arith) e

quantity_again : (n : ℕ) (text : List ℕ) → quantity_of text ≡ Ok n → IsReadAs quantity_of n (number_text n)
quantity_again n text e = number_again 0 99_999 n text (omega arith) e

total_quantity_again : (n : ℕ) (text : List ℕ) → total_quantity_of text ≡ Ok n → IsReadAs total_quantity_of n (number_text n)
total_quantity_again n text e = number_again 0 999_999_999 n text (omega arith) e

cents_again : (n : ℕ) (text : List ℕ) → cents_of text ≡ Ok n → IsReadAs cents_of n (number_text n)
cents_again n text e = number_again 0 99_999_999_999 n text (omega arith) e

cost_again : (n : ℕ) (text : List ℕ) → cost_of text ≡ Ok n → IsReadAs cost_of n (cost_text n)
cost_again n text e = decimal_again 4 999_999_999 n text (omega arith) (omega arith) e

percent_again : (n : ℕ) (text : List ℕ) → percent_of text ≡ Ok n → IsReadAs percent_of n (percent_text n)
percent_again n text e = decimal_again 2 99_999 n text (omega arith) (omega arith) e

optional_cost : (value : Option ℕ) (text : List ℕ) → optional cost_of text ≡ Ok value → IsReadAs (optional cost_of) value (optional_text cost_text value)
optional_cost value text e = optional_again cost_of cost_text (λ v h. cc (h)) cost_again value text e

optional_quantity : (value : Option ℕ) (text : List ℕ) → optional quantity_of text ≡ Ok value → IsReadAs (optional quantity_of) value (optional_text number_text value)
optional_quantity value text e = optional_again quantity_of number_text (λ v h. cc (h)) quantity_again value text e

optional_cents : (value : Option ℕ) (text : List ℕ) → optional cents_of text ≡ Ok value → IsReadAs (optional cents_of) value (optional_text number_text value)
optional_cents value text e = optional_again cents_of number_text (λ v h. cc (h)) cents_again value text e

optional_percent : (value : Option ℕ) (text : List ℕ) → optional percent_of text ≡ Ok value → IsReadAs (optional percent_of) value (optional_text percent_text value)
optional_percent value text e = optional_again percent_of percent_text (λ v h. cc (h)) percent_again value text e

-- ---- items

pub record SaysAgain (Says : Seg → Type 0) (row : Row) : Type 0 where
  pub says : (place : ℕ) → Says (segment_of place row)
  pub segment : IsSegment row

item_id_is : (form : Form) → IsTrue (is_id (item_id form))
item_id_is forms.Base = refl
item_id_is forms.Answer = refl

-- what is written of each element of an item is read as its field
pub record ItemElements (line : Line) : Type 0 where
  pub dsd : IsReadAs dsd_of line.dsd (number_text line.dsd)
  pub quantity : IsReadAs quantity_of line.quantity (number_text line.quantity)
  pub unit : IsReadAs filled_word_of line.unit line.unit
  pub upc : IsReadAs word_of line.upc line.upc
  pub qualifier : IsReadAs word_of line.details.qualifier line.details.qualifier
  pub id : IsReadAs word_of line.details.id line.details.id
  pub case_code : IsReadAs word_of line.details.case_code line.details.case_code
  pub cost : IsReadAs cost_of line.cost (cost_text line.cost)
  pub pack : IsReadAs word_of line.details.pack line.details.pack
  pub label : IsReadAs word_of line.details.label line.details.label
  pub tail : IsTail 11 line.tail

pub item_elements_again : (line : Line) (seg : Seg) → IsSegment seg.parts → IsItem line seg → ItemElements line
item_elements_again line seg s is = record {
  dsd = dsd_again line.dsd (element_of seg 1) is.dsd;
  quantity = quantity_again line.quantity (element_of seg 2) is.quantity;
  unit = filled_word_again (element_of seg 3) line.unit is.unit;
  upc = word_again (element_of seg 4) line.upc is.upc;
  qualifier = word_again (element_of seg 5) line.details.qualifier is.qualifier;
  id = word_again (element_of seg 6) line.details.id is.id;
  case_code = word_again (element_of seg 7) line.details.case_code is.case_code;
  cost = cost_again line.cost (element_of seg 8) is.cost;
  pack = word_again (element_of seg 9) line.details.pack is.pack;
  label = word_again (element_of seg 10) line.details.label is.label;
  tail = tail_is 11 seg line.tail (omega arith) s is.tail;
}

pub item_written : (form : Form) (line : Line) → ItemElements line → SaysAgain (IsItem line) (item_row form line)
item_written form line are = record {
  says = λ place. record {
    dsd = reads_at dsd_of line.dsd place 1 (item_row form line) are.dsd;
    quantity = reads_at quantity_of line.quantity place 2 (item_row form line) are.quantity;
    unit = reads_at filled_word_of line.unit place 3 (item_row form line) are.unit;
    upc = reads_at word_of line.upc place 4 (item_row form line) are.upc;
    qualifier = reads_at word_of line.details.qualifier place 5 (item_row form line) are.qualifier;
    id = reads_at word_of line.details.id place 6 (item_row form line) are.id;
    case_code = reads_at word_of line.details.case_code place 7 (item_row form line) are.case_code;
    cost = reads_at cost_of line.cost place 8 (item_row form line) are.cost;
    pack = reads_at word_of line.details.pack place 9 (item_row form line) are.pack;
    label = reads_at word_of line.details.label place 10 (item_row form line) are.label;
    tail = tail_again place 11 (item_row form line) line.tail refl are.tail;
  };
  segment = row_segment (item_id form) (item_elements line) line.tail 11 (item_id_is form)
      (are.dsd.element, (are.quantity.element, (are.unit.element, (are.upc.element, (are.qualifier.element, (are.id.element, (are.case_code.element, (are.cost.element, (are.pack.element, (are.label.element, tt)))))))))) (omega arith) are.tail;
}

pub item_again : (form : Form) (line : Line) (seg : Seg) → IsSegment seg.parts → IsItem line seg → SaysAgain (IsItem line) (item_row form line)
item_again form line seg s is = item_written form line (item_elements_again line seg s is)

-- ---- allowances

-- what is written of each element of an allowance is read as its field
pub record AllowanceElements (in_line : Bool) (allowance : Allowance) : Type 0 where
  pub code : IsReadAs filled_word_of allowance.code allowance.code
  pub method : IsReadAs filled_word_of allowance.method allowance.method
  pub number : IsReadAs word_of allowance.number allowance.number
  pub exception : IsReadAs word_of allowance.exception allowance.exception
  pub rate : IsReadAs (optional cost_of) allowance.rate (optional_text cost_text allowance.rate)
  pub quantity : IsReadAs (optional quantity_of) allowance.quantity (optional_text number_text allowance.quantity)
  pub unit : IsReadAs word_of allowance.unit allowance.unit
  pub total : IsReadAs (optional cents_of) allowance.total (optional_text number_text allowance.total)
  pub percent : IsReadAs (optional percent_of) allowance.percent (optional_text percent_text allowance.percent)
  pub tail : IsTail 10 allowance.tail
  pub size : HasSize in_line allowance

allowance_elements_again : (in_line : Bool) (allowance : Allowance) (seg : Seg) → IsSegment seg.parts → IsAllowance in_line allowance seg → AllowanceElements in_line allowance
allowance_elements_again in_line allowance seg s is = record {
  code = filled_word_again (element_of seg 1) allowance.code is.code;
  method = filled_word_again (element_of seg 2) allowance.method is.method;
  number = word_again (element_of seg 3) allowance.number is.number;
  exception = word_again (element_of seg 4) allowance.exception is.exception;
  rate = optional_cost allowance.rate (element_of seg 5) is.rate;
  quantity = optional_quantity allowance.quantity (element_of seg 6) is.quantity;
  unit = word_again (element_of seg 7) allowance.unit is.unit;
  total = optional_cents allowance.total (element_of seg 8) is.total;
  percent = optional_percent allowance.percent (element_of seg 9) is.percent;
  tail = tail_is 10 seg allowance.tail (omega arith) s is.tail;
  size = is.size;
}

pub allowance_written : (in_line : Bool) (allowance : Allowance) → AllowanceElements in_line allowance → SaysAgain (IsAllowance in_line allowance) (allowance_row allowance)
allowance_written in_line allowance are = record {
  says = λ place. record {
    code = reads_at filled_word_of allowance.code place 1 (allowance_row allowance) are.code;
    method = reads_at filled_word_of allowance.method place 2 (allowance_row allowance) are.method;
    number = reads_at word_of allowance.number place 3 (allowance_row allowance) are.number;
    exception = reads_at word_of allowance.exception place 4 (allowance_row allowance) are.exception;
    rate = reads_at (optional cost_of) allowance.rate place 5 (allowance_row allowance) are.rate;
    quantity = reads_at (optional quantity_of) allowance.quantity place 6 (allowance_row allowance) are.quantity;
    unit = reads_at word_of allowance.unit place 7 (allowance_row allowance) are.unit;
    total = reads_at (optional cents_of) allowance.total place 8 (allowance_row allowance) are.total;
    percent = reads_at (optional percent_of) allowance.percent place 9 (allowance_row allowance) are.percent;
    tail = tail_again place 10 (allowance_row allowance) allowance.tail refl are.tail;
    size = are.size;
  };
  segment = row_segment (codes "G72") (allowance_elements allowance) allowance.tail 10 refl
      (are.code.element, (are.method.element, (are.number.element, (are.exception.element, (are.rate.element, (are.quantity.element, (are.unit.element, (are.total.element, (are.percent.element, tt))))))))) (omega arith) are.tail;
}

pub allowance_again : (in_line : Bool) (allowance : Allowance) (seg : Seg) → IsSegment seg.parts → IsAllowance in_line allowance seg → SaysAgain (IsAllowance in_line allowance) (allowance_row allowance)
allowance_again in_line allowance seg s is = allowance_written in_line allowance (allowance_elements_again in_line allowance seg s is)

-- ---- round the items

pub totals_again : (totals : StatedTotals) (seg : Seg) → IsTotals totals seg → SaysAgain (IsTotals totals) (totals_row totals)
totals_again totals seg is =
    let quantity = total_quantity_again totals.quantity (element_of seg 1) is.quantity in
    let amount = cents_again totals.amount (element_of seg 2) is.amount in
    let deposit = optional_cents totals.deposit (element_of seg 3) is.deposit in
    record {
      says = λ place. record {
        quantity = reads_at total_quantity_of totals.quantity place 1 (totals_row totals) quantity;
        amount = reads_at cents_of totals.amount place 2 (totals_row totals) amount;
        deposit = reads_at (optional cents_of) totals.deposit place 3 (totals_row totals) deposit;
        ends = no_longer place 3 (totals_row totals) refl;
      };
      segment = row_segment (codes "G84") (number_text totals.quantity ∷ number_text totals.amount ∷ optional_text number_text totals.deposit ∷ []) [] 4 refl (quantity.element, (amount.element, (deposit.element, tt))) (omega arith) (no_tail 4 (omega arith));
    }

pub signature_again : (signature : SignatureRecord) (seg : Seg) → IsSignature signature seg → SaysAgain (IsSignature signature) (signature_row signature)
signature_again signature seg is =
    let mark = word_between_again 1 MARK_BYTES (element_of seg 1) signature.mark is.mark in
    let name = word_again (element_of seg 2) signature.name is.name in
    record {
      says = λ place. record {
        mark = reads_at (word_between 1 MARK_BYTES) signature.mark place 1 (signature_row signature) mark;
        name = reads_at word_of signature.name place 2 (signature_row signature) name;
        ends = no_longer place 2 (signature_row signature) refl;
      };
      segment = row_segment (codes "G86") (signature.mark ∷ signature.name ∷ []) [] 3 refl (mark.element, (name.element, tt)) (omega arith) (no_tail 3 (omega arith));
    }

pub loop_id_again : (id : List ℕ) → IsTrue (is_id id) → SaysAgain (IsLoopId loop_id) (row_of id (loop_id ∷ []) [])
loop_id_again id i = record {
  says = λ place. (ap (word_between 1 6) (trim_element (row_of id (loop_id ∷ []) []) 1), no_longer place 1 (row_of id (loop_id ∷ []) []) refl);
  segment = row_segment id (loop_id ∷ []) [] 2 i (refl, tt) (omega arith) (no_tail 2 (omega arith));
}

set_code_element : (form : Form) → IsElementText (set_code form)
set_code_element forms.Base = refl
set_code_element forms.Answer = refl

pub start_again : (form : Form) (control : ℕ) → control ≤ MOST_CONTROL_NUMBER → SaysAgain (IsStart (control_text control)) (start_row form control)
start_again form control small = record {
  says = λ place. (ap (word_between 4 9) (trim_element (start_row form control) 2) ∙ control_between control small, no_longer place 2 (start_row form control) refl);
  segment = row_segment (codes "ST") (set_code form ∷ control_text control ∷ []) [] 3 refl (set_code_element form, (control_element control (omega arith), tt)) (omega arith) (no_tail 3 (omega arith));
}
