-- How the written text of a set begins: one text is not written of two sets, nor with two levels.
use Rattle.std.proofs.Common.{◌≡◌, ℕ, ◌+◌, suc, ◌<◌, false, List, [], ◌∷◌, ◌++◌, length, get_or, drop, codes, Result, Ok, Err, refl, sym, ◌∙◌, ap, subst, arith, append_assoc, length-append}
use Rattle.std.specs.List.{join_with_byte}
use Rattle.std.proofs.lemmas.Fmt.{decimal_digit, decimal_step}
use Rattle.std.proofs.lemmas.List.{append_cancel_left, drop_at}
use Rattle.std.specs.Int.{to_be_bytes, w16}
use Rattle.hex.proofs.HexLemmas.{length-encode_with}
use Rattle.hex.specs.Hex.{upper_digits}
use Rattle.dsd_values.specs.Reading.{IsNumberText, is_no_number_byte}
use Rattle.dsd_values.specs.Spelling.{flag_text, role_text}
use Rattle.dsd_values.specs.Writing.{check_text, number_text}
use Rattle.dsd_values.specs.declared.flag.Flag.{Flag}
use Rattle.dsd_values.specs.declared.flag.Flag.TheVariants.{Credit, Debit}
use Rattle.dsd_values.specs.declared.role.Role.{Role}
use Rattle.dsd_values.specs.declared.role.Role.TheVariants.{Receiver, Supplier}
use Rattle.dsd_values.proofs.Refusals.{all_pass}
use Rattle.dsd_pricing.specs.Pricing.{totals_of}
use Rattle.dsd_pricing.specs.declared.amounts.Totals.{Totals}
use Rattle.dsd_pricing.specs.declared.fault.PriceFault.{PriceFault}
use Rattle.dsd_pricing.specs.declared.fault.WriteFault.{WriteFault}
use Rattle.dsd_pricing.proofs.WholeTexts.{whole_is}
use Rattle.transaction_set.specs.RowsWritten.{first_long}
use Rattle.segments.specs.SegmentWriting.{in_front, line_of, text_of, without_empty_end}
use Rattle.transaction_set.specs.SetWriting.{control_text, sealing_rows, start_row}
use Rattle.transaction_set.specs.declared.kind.Form.TheVariants as forms
use Rattle.base_record_894.specs.BaseRecord.{BaseRecord}
use Rattle.base_record_894.specs.WrittenText.{after_price, rows_of as base_rows, written_of as base_written}
use Rattle.adjustment_895.specs.AnswerRecord.{AnswerRecord}
use Rattle.adjustment_895.specs.WrittenText.{head_row, later_rows, note_rows, opened_rows, rows_of, written_of}
use Rattle.own_turn.proofs.Framing.{in_front_filled, in_front_some}

-- ---- a text up to a star

abbrev NoStar : List ℕ → Type 0
NoStar [] = Unit {0}
NoStar (byte ∷ text) = (byte ≡ 42 → ⊥) × NoStar text

first_same : (a b : ℕ) (x y : List ℕ) → a ∷ x ≡ b ∷ y → a ≡ b
first_same a b x y e = ap (λ (l : List ℕ). get_or l 0 0) e

behind_star : (x y X Y : List ℕ) → NoStar x → NoStar y → x ++ 42 ∷ X ≡ y ++ 42 ∷ Y → X ≡ Y
behind_star [] [] X Y p q e = ap (λ (l : List ℕ). drop 1 l) e
behind_star [] (b ∷ y) X Y p q e = absurd (q.0 (sym (first_same 42 b X (y ++ 42 ∷ Y) e)))
behind_star (a ∷ x) [] X Y p q e = absurd (p.0 (first_same a 42 (x ++ 42 ∷ X) Y e))
behind_star (a ∷ x) (b ∷ y) X Y p q e = behind_star x y X Y p.1 q.1 (ap (λ (l : List ℕ). drop 1 l) e)

-- a part, a star and what is behind it, with more behind all of that
with_more : (x X Z : List ℕ) → (x ++ 42 ∷ X) ++ Z ≡ x ++ 42 ∷ (X ++ Z)
with_more x X Z = append_assoc x (42 ∷ X) Z

behind_part : (x y X Y Z W : List ℕ) → NoStar x → NoStar y → (x ++ 42 ∷ X) ++ Z ≡ (y ++ 42 ∷ Y) ++ W → X ++ Z ≡ Y ++ W
behind_part x y X Y Z W p q e = behind_star x y (X ++ Z) (Y ++ W) p q (sym (with_more x X Z) ∙ e ∙ with_more y Y W)

-- ---- parts without a star

role_plain : (role : Role) → NoStar (role_text role)
role_plain Supplier = (λ e. omega (arith, e), tt)
role_plain Receiver = (λ e. omega (arith, e), tt)

flag_plain : (flag : Flag) → NoStar (flag_text flag)
flag_plain Debit = (λ e. omega (arith, e), tt)
flag_plain Credit = (λ e. omega (arith, e), tt)

byte_plain : (b : ℕ) → is_no_number_byte b ≡ false → b ≡ 42 → ⊥
byte_plain b e same = let no : is_no_number_byte 42 ≡ false = subst (λ (n : ℕ). is_no_number_byte n ≡ false) same e in cc

-- no byte of a delivery number is a star
plain_all : (text : List ℕ) → ((k : ℕ) → k < length text → get_or text k 0 ≡ 42 → ⊥) → NoStar text
plain_all [] each = tt
plain_all (byte ∷ text) each = (each 0 (omega arith), plain_all text (λ k here. each (suc k) (omega (arith, here))))

number_plain : (text : List ℕ) → IsNumberText text → NoStar text
number_plain text is = plain_all text (λ k here. all_pass is_no_number_byte (λ b. b ≡ 42 → ⊥) byte_plain text is k 0 here)

-- ---- the head of an answer

module _ (answer : AnswerRecord) (control : ℕ) where
  -- the elements behind the level that count
  abbrev more : List (List ℕ)
  more = in_front answer.receiver_number []

  abbrev from_level : List ℕ
  from_level = join_with_byte 42 (number_text answer.level ∷ more)

  abbrev from_role : List ℕ
  from_role = role_text answer.role ++ 42 ∷ (flag_text answer.flag ++ 42 ∷ (answer.number ++ 42 ∷ (check_text answer.check ++ 42 ∷ from_level)))

  head_parts : 0 < length (number_text answer.level) → without_empty_end (head_row answer)
      ≡ codes "G87" ∷ role_text answer.role ∷ flag_text answer.flag ∷ answer.number ∷ check_text answer.check ∷ number_text answer.level ∷ more
  head_parts some =
      let level = in_front_filled (number_text answer.level) more some in
      ap (λ (l : List (List ℕ)). in_front (codes "G87") (in_front (role_text answer.role) (in_front (flag_text answer.flag) (in_front answer.number (in_front (check_text answer.check) l))))) level
      ∙ ap (λ (l : List (List ℕ)). in_front (codes "G87") (in_front (role_text answer.role) (in_front (flag_text answer.flag) (in_front answer.number l)))) (in_front_some (check_text answer.check) (number_text answer.level) more)
      ∙ ap (λ (l : List (List ℕ)). in_front (codes "G87") (in_front (role_text answer.role) (in_front (flag_text answer.flag) l))) (in_front_some answer.number (check_text answer.check) (number_text answer.level ∷ more))
      ∙ ap (λ (l : List (List ℕ)). in_front (codes "G87") (in_front (role_text answer.role) l)) (in_front_some (flag_text answer.flag) answer.number (check_text answer.check ∷ number_text answer.level ∷ more))
      ∙ ap (λ (l : List (List ℕ)). in_front (codes "G87") l) (in_front_some (role_text answer.role) (flag_text answer.flag) (answer.number ∷ check_text answer.check ∷ number_text answer.level ∷ more))

  -- the rows behind it
  abbrev rest : List ℕ
  rest = text_of (note_rows answer ++ later_rows answer ++ sealing_rows (text_of (opened_rows answer control)) (length (opened_rows answer control)) control)

  text_is : 0 < length (number_text answer.level) → text_of (rows_of answer control) ≡ line_of (start_row forms.Answer control) ++ (codes "G87*" ++ (from_role ++ 13 ∷ 10 ∷ rest))
  text_is some =
      ap (λ (l : List (List ℕ)). line_of (start_row forms.Answer control) ++ ((join_with_byte 42 l ++ 13 ∷ 10 ∷ []) ++ rest)) (head_parts some)
      ∙ ap (λ (l : List ℕ). line_of (start_row forms.Answer control) ++ l) (append_assoc (codes "G87*" ++ from_role) (13 ∷ 10 ∷ []) rest)

-- ---- the level

four : (check : ℕ) → length (check_text check) ≡ 4
four check = omega (arith, length-encode_with upper_digits (to_be_bytes w16 check))

behind_four : (x X Z : List ℕ) → length x ≡ 4 → drop 5 ((x ++ 42 ∷ X) ++ Z) ≡ X ++ Z
behind_four x X Z e =
    ap (λ (l : List ℕ). drop 5 (l ++ Z)) (sym (append_assoc x (42 ∷ []) X)) ∙ ap (drop 5) (append_assoc (x ++ 42 ∷ []) X Z)
    ∙ drop_at (x ++ 42 ∷ []) (X ++ Z) 5 (omega (arith, e, length-append x (42 ∷ [])))

ten : number_text 10 ≡ 49 ∷ 48 ∷ []
ten = decimal_step 10 (omega arith) (omega arith) ∙ ap (λ (l : List ℕ). l ++ 48 ∷ []) (decimal_digit 1 (omega arith))

second_ten : (more : List (List ℕ)) (Z : List ℕ) → get_or (join_with_byte 42 ((49 ∷ 48 ∷ []) ∷ more) ++ Z) 1 0 ≡ 48
second_ten [] Z = refl
second_ten (next ∷ others) Z = refl

second_digit : (digit : ℕ) (more : List (List ℕ)) (Z : List ℕ) → get_or (join_with_byte 42 ((digit ∷ []) ∷ more) ++ 13 ∷ Z) 1 0 ≡ 48 → ⊥
second_digit digit [] Z e = omega (arith, e)
second_digit digit (next ∷ others) Z e = omega (arith, e)

-- the same text is not written of an answer at level 10 and of one at a lower level
pub ten_apart : (a b : AnswerRecord) (control : ℕ) (text : List ℕ) → written_of a control ≡ Ok text → written_of b control ≡ Ok text → a.level ≡ 10 → b.level < 10 → IsNumberText a.number → IsNumberText b.number → ⊥
ten_apart a b control text first second level lower one other =
    let la : number_text a.level ≡ 49 ∷ 48 ∷ [] = ap number_text level ∙ ten in
    let lb : number_text b.level ≡ (48 + b.level) ∷ [] = decimal_digit b.level lower in
    let wa = whole_is (first_long (rows_of a control)) (text_of (rows_of a control)) text first in
    let wb = whole_is (first_long (rows_of b control)) (text_of (rows_of b control)) text second in
    let e0 = sym (text_is a control (omega (arith, ap length la))) ∙ wa.same ∙ sym wb.same ∙ text_is b control (omega (arith, ap length lb)) in
    let za = 13 ∷ 10 ∷ rest a control in
    let zb = 13 ∷ 10 ∷ rest b control in
    let e1 : from_role a control ++ za ≡ from_role b control ++ zb = ap (drop 4) (append_cancel_left (line_of (start_row forms.Answer control)) _ _ e0) in
    let e2 = behind_part (role_text a.role) (role_text b.role) _ _ za zb (role_plain a.role) (role_plain b.role) e1 in
    let e3 = behind_part (flag_text a.flag) (flag_text b.flag) _ _ za zb (flag_plain a.flag) (flag_plain b.flag) e2 in
    let e4 = behind_part a.number b.number _ _ za zb (number_plain a.number one) (number_plain b.number other) e3 in
    let e5 : from_level a control ++ za ≡ from_level b control ++ zb =
    sym (behind_four (check_text a.check) (from_level a control) za (four a.check)) ∙ ap (drop 5) e4 ∙ behind_four (check_text b.check) (from_level b control) zb (four b.check) in
    let e6 = sym (ap (λ (l : List ℕ). join_with_byte 42 (l ∷ more a control) ++ za) la) ∙ e5 ∙ ap (λ (l : List ℕ). join_with_byte 42 (l ∷ more b control) ++ zb) lb in
    second_digit (48 + b.level) (more b control) (10 ∷ rest b control) (sym (ap (λ (l : List ℕ). get_or l 1 0) e6) ∙ second_ten (more a control) za)

-- ---- the two sets

after_ok : (price : Result Totals PriceFault) (written : Result (List ℕ) WriteFault) (text : List ℕ) → after_price price written ≡ Ok text → written ≡ Ok text
after_ok (Ok totals) written text e = e
after_ok (Err fault) written text e = cc

sixth_base : (more : List (List ℕ)) (Z : List ℕ) → get_or ((join_with_byte 42 (codes "ST" ∷ codes "894" ∷ more) ++ 13 ∷ 10 ∷ []) ++ Z) 5 0 ≡ 52
sixth_base [] Z = refl
sixth_base (next ∷ others) Z = refl

sixth_answer : (more : List (List ℕ)) (Z : List ℕ) → get_or ((join_with_byte 42 (codes "ST" ∷ codes "895" ∷ more) ++ 13 ∷ 10 ∷ []) ++ Z) 5 0 ≡ 53
sixth_answer [] Z = refl
sixth_answer (next ∷ others) Z = refl

-- the same text is not written of a base record and of an answer
pub sets_apart : (base : BaseRecord) (answer : AnswerRecord) (one other : ℕ) (text : List ℕ) → base_written base one ≡ Ok text → written_of answer other ≡ Ok text → ⊥
sets_apart base answer one other text first second =
    let wa = whole_is (first_long (base_rows base one)) (text_of (base_rows base one)) text (after_ok (totals_of base.lines base.extras) _ text first) in
    let wb = whole_is (first_long (rows_of answer other)) (text_of (rows_of answer other)) text second in
    let fifty_two : get_or text 5 0 ≡ 52 = ap (λ (l : List ℕ). get_or l 5 0) (sym wa.same) ∙ sixth_base (in_front (control_text one) []) _ in
    let fifty_three : get_or text 5 0 ≡ 53 = ap (λ (l : List ℕ). get_or l 5 0) (sym wb.same) ∙ sixth_answer (in_front (control_text other) []) _ in
    omega (arith, fifty_two, fifty_three)
