-- What is written with the highest control number is written with each other one, whatever integrity value it names.
use Rattle.std.proofs.Common.{◌≡◌, ◌≤◌, ◌<◌, ◌+◌, ◌-◌, ◌^◌, ℕ, Bool, false, nat_lt, cond, length, replicate, List, [], ◌∷◌, ◌++◌, map, codes, Option, Some, None, Result, Ok, Err, refl, sym, ap, ◌∙◌, inl, inr, length-append, arith}
use Rattle.std.specs.Prelude.{decimal, ◌/◌, ◌%◌}
use Rattle.std.specs.List.{join_with_byte}
use Rattle.std.proofs.lemmas.Bool.{cases_Bool}
use Rattle.std.proofs.lemmas.Bool.Decides.{nat_tests}
use Rattle.std.specs.Int.{to_be_bytes, w16}
use Rattle.std.proofs.lemmas.Fmt.{decimal_digit, decimal_step, length-decimal-le}
use Rattle.std.proofs.lemmas.List.{length-replicate}
use Rattle.block_check.specs.Crc16.{crc_of}
use Rattle.hex.proofs.HexLemmas.{length-encode_with}
use Rattle.hex.specs.Hex.{upper_digits}
use Rattle.dsd_values.specs.Spelling.{flag_text, role_text}
use Rattle.dsd_values.specs.Writing.{check_text, number_text}
use Rattle.dsd_pricing.specs.WholeText.{unless_too_long, whole}
use Rattle.dsd_pricing.proofs.WholeTexts.{whole_is, whole_short}
use Rattle.transaction_set.specs.RowsWritten.{first_long}
use Rattle.segments.specs.SegmentWriting.{in_front, line_of, text_of, without_empty_end}
use Rattle.transaction_set.specs.SetWriting.{Row, control_text, integrity_row, kept_row, sealing_rows, start_row, trailer_row}
use Rattle.transaction_set.specs.Kinds.{set_code}
use Rattle.transaction_set.specs.declared.kind.Form.{Form}
use Rattle.transaction_set.specs.declared.kind.Form.TheVariants as forms
use Rattle.segments.specs.declared.segment_write_fault.TheConstants.{SEGMENT_WRITTEN}
use Rattle.dsd_pricing.specs.Pricing.{totals_of}
use Rattle.dsd_pricing.specs.declared.amounts.Totals.{Totals}
use Rattle.dsd_pricing.specs.declared.fault.PriceFault.{PriceFault}
use Rattle.base_record_894.specs.BaseRecord.{BaseRecord}
use Rattle.base_record_894.specs.WrittenText.{after_price, later_rows as base_later, opened_rows as base_opened, rows_of as base_rows, written_of as base_written}
use Rattle.adjustment_895.specs.AnswerRecord.{AnswerRecord}
use Rattle.adjustment_895.specs.WrittenText.{head_row, later_rows, note_rows, opened_rows, rows_of, written_of}
use Rattle.clean_sessions.specs.ChosenAnswers.{naming, nine_digits}
use Rattle.own_turn.proofs.Framing.{in_front_filled, in_front_some}

-- ---- rows that are no longer

abbrev pub IsNoLonger : Row → Row → Type 0
IsNoLonger row other = length (line_of row) ≤ length (line_of other)

abbrev pub AreNoLonger : List Row → List Row → Type 0
AreNoLonger [] [] = Unit {0}
AreNoLonger (row ∷ rows) (other ∷ others) = IsNoLonger row other × AreNoLonger rows others
AreNoLonger [] (other ∷ others) = ⊥
AreNoLonger (row ∷ rows) [] = ⊥

pub same_rows : (rows : List Row) → AreNoLonger rows rows
same_rows [] = tt
same_rows (row ∷ rows) = (omega arith, same_rows rows)

pub rows_then : (rows others more beside : List Row) → AreNoLonger rows others → AreNoLonger more beside → AreNoLonger (rows ++ more) (others ++ beside)
rows_then [] [] more beside a b = b
rows_then [] (other ∷ others) more beside a b = absurd a
rows_then (row ∷ rows) [] more beside a b = absurd a
rows_then (row ∷ rows) (other ∷ others) more beside a b = (a.0, rows_then rows others more beside a.1 b)

text_no_longer : (rows others : List Row) → AreNoLonger rows others → length (text_of rows) ≤ length (text_of others)
text_no_longer [] [] a = omega arith
text_no_longer [] (other ∷ others) a = absurd a
text_no_longer (row ∷ rows) [] a = absurd a
text_no_longer (row ∷ rows) (other ∷ others) a =
    let rest = text_no_longer rows others a.1 in
    let here = a.0 in
    omega (arith, rest, here, length-append (line_of row) (text_of rows), length-append (line_of other) (text_of others))

short_one : (row other : Row) (rows others : List Row) → IsNoLonger row other → (first_long others ≡ None → first_long rows ≡ None) → first_long (other ∷ others) ≡ None → first_long (row ∷ rows) ≡ None
short_one row other rows others le rest e = elim (cases_Bool (nat_lt SEGMENT_WRITTEN (length (line_of other)))) [
  | inl long ↦ absurd (never (length (line_of other)) (first_long others) (sym (ap (λ (b : Bool). cond b (Some (length (line_of other))) (first_long others)) long) ∙ e))
  | inr short ↦
      let low : nat_lt SEGMENT_WRITTEN (length (line_of row)) ≡ false = below (length (line_of row)) (length (line_of other)) le short in
      ap (λ (b : Bool). cond b (Some (length (line_of row))) (first_long rows)) low ∙ rest (sym (ap (λ (b : Bool). cond b (Some (length (line_of other))) (first_long others)) short) ∙ e)
]
  where
    never : (n : ℕ) (o : Option ℕ) → (let some : Option ℕ = Some n in some) ≡ None → ⊥
    never n o e = cc

    below : (a b : ℕ) → a ≤ b → nat_lt SEGMENT_WRITTEN b ≡ false → nat_lt SEGMENT_WRITTEN a ≡ false
    below a b le e = grind (arith, nat_tests)

none_long : (rows others : List Row) → AreNoLonger rows others → first_long others ≡ None → first_long rows ≡ None
none_long [] [] a e = refl
none_long [] (other ∷ others) a e = absurd a
none_long (row ∷ rows) [] a e = absurd a
none_long (row ∷ rows) (other ∷ others) a e = short_one row other rows others a.0 (none_long rows others a.1) e

-- what is written of such rows is written of these
pub written_too : (rows others : List Row) (text : List ℕ) → AreNoLonger rows others → whole (unless_too_long (first_long others) (text_of others)) ≡ Ok text → whole (unless_too_long (first_long rows) (text_of rows)) ≡ Ok (text_of rows)
written_too rows others text a e =
    let w = whole_is (first_long others) (text_of others) text e in
    let none = none_long rows others a w.none in
    let less = text_no_longer rows others a in
    let short = w.short in
    whole_short (first_long rows) (text_of rows) (text_of rows) (ap (λ (o : Option ℕ). unless_too_long o (text_of rows)) none) (omega (arith, less, short, ap length w.same))

-- ---- control numbers

longer : (n : ℕ) → 10 ≤ n → n < 2 ^ 64 → length (decimal n) ≡ length (decimal (n / 10)) + 1
longer n ten small = ap length (decimal_step n ten small) ∙ length-append (decimal (n / 10)) ((48 + n % 10) ∷ [])

nine : length (decimal 999_999_999) ≡ 9
nine =
    let a = longer 999_999_999 (omega arith) (omega arith) in
    let b = longer 99_999_999 (omega arith) (omega arith) in
    let c = longer 9_999_999 (omega arith) (omega arith) in
    let d = longer 999_999 (omega arith) (omega arith) in
    let e = longer 99_999 (omega arith) (omega arith) in
    let f = longer 9_999 (omega arith) (omega arith) in
    let g = longer 999 (omega arith) (omega arith) in
    let h = longer 99 (omega arith) (omega arith) in
    let one : length (decimal 9) ≡ 1 = ap length (decimal_digit 9 (omega arith)) in
    omega (arith, a, b, c, d, e, f, g, h, one)

control_size : (n : ℕ) → length (control_text n) ≡ (4 - length (decimal n)) + length (decimal n)
control_size n =
    let zeros = length-replicate {A = ℕ} (4 - length (decimal n)) 48 in
    let sum = length-append (replicate (4 - length (decimal n)) 48) (decimal n) in
    omega (arith, zeros, sum)

-- at least four digits, and no more than the highest one has
pub control_some : (n : ℕ) → 0 < length (control_text n)
control_some n = let size = control_size n in omega (arith, size)

pub control_most : (n : ℕ) → n ≤ 999_999_999 → length (control_text n) ≤ length (control_text 999_999_999)
control_most n few =
    let digits = length-decimal-le 9 n (omega arith) (omega arith) (omega arith) in
    omega (arith, control_size n, control_size 999_999_999, nine, digits)

-- ---- rows that state it

four : (check : ℕ) → length (check_text check) ≡ 4
four check = omega (arith, length-encode_with upper_digits (to_be_bytes w16 check))

ahead_size : (a X : List ℕ) → length (a ++ 42 ∷ X) ≡ length a + (length X + 1)
ahead_size a X = let all = length-append a (42 ∷ X) in omega (arith, all)

three_parts : (a b x : List ℕ) → 0 < length x → without_empty_end (a ∷ b ∷ x ∷ []) ≡ a ∷ b ∷ x ∷ []
three_parts a b x some = ap (λ (l : List (List ℕ)). in_front a (in_front b l)) (in_front_filled x [] some) ∙ ap (in_front a) (in_front_some b x []) ∙ in_front_some a b (x ∷ [])

three_size : (a b x : List ℕ) → 0 < length x → length (line_of (a ∷ b ∷ x ∷ [])) ≡ length a + length b + length x + 4
three_size a b x some =
    let parts = ap (λ (l : List (List ℕ)). length (join_with_byte 42 l ++ 13 ∷ 10 ∷ [])) (three_parts a b x some) in
    let all = length-append (a ++ 42 ∷ (b ++ 42 ∷ x)) (13 ∷ 10 ∷ []) in
    omega (arith, parts, all, ahead_size a (b ++ 42 ∷ x), ahead_size b x)

two_size : (a x : List ℕ) → 0 < length x → length (line_of (a ∷ x ∷ [])) ≡ length a + length x + 3
two_size a x some =
    let parts = ap (λ (l : List (List ℕ)). length (join_with_byte 42 l ++ 13 ∷ 10 ∷ [])) (ap (in_front a) (in_front_filled x [] some) ∙ in_front_some a x []) in
    let all = length-append (a ++ 42 ∷ x) (13 ∷ 10 ∷ []) in
    omega (arith, parts, all, ahead_size a x)

pub start_no_longer : (form : Form) (control : ℕ) → control ≤ 999_999_999 → IsNoLonger (start_row form control) (start_row form 999_999_999)
start_no_longer form control few =
    let a = three_size (codes "ST") (set_code form) (control_text control) (control_some control) in
    let b = three_size (codes "ST") (set_code form) (control_text 999_999_999) (control_some 999_999_999) in
    omega (arith, a, b, control_most control few)

pub sealing_no_longer : (before other : List ℕ) (count control : ℕ) → control ≤ 999_999_999 → AreNoLonger (sealing_rows before count control) (sealing_rows other count 999_999_999)
sealing_no_longer before other count control few = (integrity, (trailer, tt))
  where
    integrity : IsNoLonger (integrity_row before) (integrity_row other)
    integrity =
        let a = two_size (codes "G85") (check_text (crc_of before)) (omega (arith, four (crc_of before))) in
        let b = two_size (codes "G85") (check_text (crc_of other)) (omega (arith, four (crc_of other))) in
        omega (arith, a, b, four (crc_of before), four (crc_of other))

    trailer : IsNoLonger (trailer_row (count + 2) control) (trailer_row (count + 2) 999_999_999)
    trailer =
        let a = three_size (codes "SE") (number_text (count + 2)) (control_text control) (control_some control) in
        let b = three_size (codes "SE") (number_text (count + 2)) (control_text 999_999_999) (control_some 999_999_999) in
        omega (arith, a, b, control_most control few)

-- ---- the head of an answer

module _ (answer : AnswerRecord) where
  abbrev level_parts : List (List ℕ)
  level_parts = in_front (number_text answer.level) (in_front answer.receiver_number [])

  head_parts : (check : ℕ) → without_empty_end (head_row (naming answer check)) ≡ codes "G87" ∷ role_text answer.role ∷ flag_text answer.flag ∷ answer.number ∷ check_text check ∷ level_parts
  head_parts check =
      ap (λ (l : List (List ℕ)). in_front (codes "G87") (in_front (role_text answer.role) (in_front (flag_text answer.flag) (in_front answer.number l)))) (in_front_filled (check_text check) level_parts (omega (arith, four check)))
      ∙ ap (λ (l : List (List ℕ)). in_front (codes "G87") (in_front (role_text answer.role) (in_front (flag_text answer.flag) l))) (in_front_some answer.number (check_text check) level_parts)
      ∙ ap (λ (l : List (List ℕ)). in_front (codes "G87") (in_front (role_text answer.role) l)) (in_front_some (flag_text answer.flag) answer.number (check_text check ∷ level_parts))
      ∙ ap (λ (l : List (List ℕ)). in_front (codes "G87") l) (in_front_some (role_text answer.role) (flag_text answer.flag) (answer.number ∷ check_text check ∷ level_parts))

  from_check : (more : List (List ℕ)) (check other : ℕ) → length (join_with_byte 42 (check_text check ∷ more)) ≡ length (join_with_byte 42 (check_text other ∷ more))
  from_check [] check other = four check ∙ sym (four other)
  from_check (next ∷ more) check other = omega (arith, four check, four other, ahead_size (check_text check) (join_with_byte 42 (next ∷ more)), ahead_size (check_text other) (join_with_byte 42 (next ∷ more)))

  ahead_same : (a X Y : List ℕ) → length X ≡ length Y → length (a ++ 42 ∷ X) ≡ length (a ++ 42 ∷ Y)
  ahead_same a X Y e = omega (arith, e, ahead_size a X, ahead_size a Y)

  head_no_longer : (check other : ℕ) → IsNoLonger (head_row (naming answer check)) (head_row (naming answer other))
  head_no_longer check other =
      let x = join_with_byte 42 (check_text check ∷ level_parts) in
      let y = join_with_byte 42 (check_text other ∷ level_parts) in
      let same = ahead_same (codes "G87") _ _ (ahead_same (role_text answer.role) _ _ (ahead_same (flag_text answer.flag) _ _ (ahead_same answer.number x y (from_check level_parts check other)))) in
      let a = ap (λ (l : List (List ℕ)). length (join_with_byte 42 l ++ 13 ∷ 10 ∷ [])) (head_parts check) in
      let b = ap (λ (l : List (List ℕ)). length (join_with_byte 42 l ++ 13 ∷ 10 ∷ [])) (head_parts other) in
      omega (
        arith,
        a,
        b,
        same,
        length-append (codes "G87" ++ 42 ∷ (role_text answer.role ++ 42 ∷ (flag_text answer.flag ++ 42 ∷ (answer.number ++ 42 ∷ x)))) (13 ∷ 10 ∷ []),
        length-append (codes "G87" ++ 42 ∷ (role_text answer.role ++ 42 ∷ (flag_text answer.flag ++ 42 ∷ (answer.number ++ 42 ∷ y)))) (13 ∷ 10 ∷ []),
      )

  rows_no_longer : (check other control : ℕ) → control ≤ 999_999_999 → AreNoLonger (rows_of (naming answer check) control) (rows_of (naming answer other) 999_999_999)
  rows_no_longer check other control few =
      rows_then (opened_rows (naming answer check) control) (opened_rows (naming answer other) 999_999_999) _ _
      (start_no_longer forms.Answer control few, (head_no_longer check other, same_rows (note_rows answer ++ later_rows answer)))
      (sealing_no_longer (text_of (opened_rows (naming answer check) control)) (text_of (opened_rows (naming answer other) 999_999_999)) (length (opened_rows answer control)) control few)

-- an answer that is written with the highest control number is written with each other one, whatever integrity value it names
pub answer_written_too : (answer : AnswerRecord) (check control : ℕ) (text : List ℕ) → control ≤ nine_digits → written_of answer nine_digits ≡ Ok text → (other : List ℕ) × (written_of (naming answer check) control ≡ Ok other)
answer_written_too answer check control text few e =
    (text_of (rows_of (naming answer check) control), written_too (rows_of (naming answer check) control) (rows_of answer 999_999_999) text (rows_no_longer answer check answer.check control few) e)

-- ---- a base record

base_rows_no_longer : (base : BaseRecord) (control : ℕ) → control ≤ 999_999_999 → AreNoLonger (base_rows base control) (base_rows base 999_999_999)
base_rows_no_longer base control few =
    rows_then (base_opened base control) (base_opened base 999_999_999) _ _
    (start_no_longer forms.Base control few, (omega arith, same_rows (map kept_row base.references ++ base_later base)))
    (sealing_no_longer (text_of (base_opened base control)) (text_of (base_opened base 999_999_999)) (length (base_opened base control)) control few)

pub base_written_too : (base : BaseRecord) (control : ℕ) (text : List ℕ) → control ≤ nine_digits → base_written base nine_digits ≡ Ok text → (other : List ℕ) × (base_written base control ≡ Ok other)
base_written_too base control text few e = by (totals_of base.lines base.extras) e
  where
    by : (price : Result Totals PriceFault) → after_price price (whole (unless_too_long (first_long (base_rows base 999_999_999)) (text_of (base_rows base 999_999_999)))) ≡ Ok text
        → (other : List ℕ) × (after_price price (whole (unless_too_long (first_long (base_rows base control)) (text_of (base_rows base control)))) ≡ Ok other)
    by (Ok totals) e = (text_of (base_rows base control), written_too (base_rows base control) (base_rows base 999_999_999) text (base_rows_no_longer base control few) e)
    by (Err fault) e = absurd (cc)
