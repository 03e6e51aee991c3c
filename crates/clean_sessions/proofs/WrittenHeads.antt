-- How the written text of a set begins: it has one number, and one level.
use Rattle.std.proofs.Common.{◌≡◌, ℕ, ◌+◌, ◌<◌, List, [], ◌∷◌, ◌++◌, length, get_or, drop, map, codes, Result, Ok, Err, refl, sym, ◌∙◌, ap, inl, inr, arith, append_assoc, length-append}
use Rattle.std.specs.List.{join_with_byte}
use Rattle.std.specs.Int.{to_be_bytes, w16}
use Rattle.std.proofs.lemmas.Fmt.{decimal_digit}
use Rattle.std.proofs.lemmas.List.{append_cancel_left, drop_at}
use Rattle.hex.proofs.HexLemmas.{length-encode_with}
use Rattle.hex.specs.Hex.{upper_digits}
use Rattle.dsd_values.specs.Spelling.{flag_text, role_text}
use Rattle.dsd_values.specs.Writing.{check_text, day_text, number_text}
use Rattle.dsd_values.specs.declared.flag.Flag.{Flag}
use Rattle.dsd_values.specs.declared.flag.Flag.TheVariants.{Credit, Debit}
use Rattle.dsd_values.specs.declared.role.Role.{Role}
use Rattle.dsd_values.specs.declared.role.Role.TheVariants.{Receiver, Supplier}
use Rattle.dsd_pricing.specs.Pricing.{totals_of}
use Rattle.dsd_pricing.specs.declared.amounts.Totals.{Totals}
use Rattle.dsd_pricing.specs.declared.fault.PriceFault.{PriceFault}
use Rattle.dsd_pricing.specs.declared.fault.WriteFault.{WriteFault}
use Rattle.dsd_pricing.proofs.WholeTexts.{whole_is}
use Rattle.transaction_set.specs.RowsWritten.{first_long}
use Rattle.segments.specs.SegmentWriting.{in_front, line_of, text_of, without_empty_end}
use Rattle.transaction_set.specs.SetWriting.{kept_row, parted, sealing_rows, start_row}
use Rattle.transaction_set.specs.declared.kind.Form.TheVariants as forms
use Rattle.base_record_894.specs.BaseRecord.{BaseRecord}
use Rattle.base_record_894.specs.WrittenText.{after_price, head_row as base_head_row, later_rows as base_later, opened_rows as base_opened, rows_of as base_rows, written_of as base_written}
use Rattle.adjustment_895.specs.AnswerRecord.{AnswerRecord}
use Rattle.adjustment_895.specs.WrittenText.{head_row, later_rows, note_rows, opened_rows, rows_of, written_of}
use Rattle.own_turn.proofs.Framing.{in_front_filled, in_front_some}
use Rattle.clean_sessions.proofs.NumberTexts.{IsNumber, IsStop, NoStop, behind_same, front_same, number_plain}

-- ---- letters

no_stop : (byte : ℕ) → (byte ≡ 42 → ⊥) → (byte ≡ 13 → ⊥) → IsStop byte → ⊥
no_stop byte star end (inl e) = star e
no_stop byte star end (inr e) = end e

role_plain : (role : Role) → NoStop (role_text role)
role_plain Supplier = (no_stop 83 (λ e. omega (arith, e)) (λ e. omega (arith, e)), tt)
role_plain Receiver = (no_stop 82 (λ e. omega (arith, e)) (λ e. omega (arith, e)), tt)

flag_plain : (flag : Flag) → NoStop (flag_text flag)
flag_plain Debit = (no_stop 68 (λ e. omega (arith, e)) (λ e. omega (arith, e)), tt)
flag_plain Credit = (no_stop 67 (λ e. omega (arith, e)) (λ e. omega (arith, e)), tt)

star : IsStop 42
star = inl refl

-- a part, a star and what is behind it, with more behind all of that
with_more : (x X Z : List ℕ) → (x ++ 42 ∷ X) ++ Z ≡ x ++ 42 ∷ (X ++ Z)
with_more x X Z = append_assoc x (42 ∷ X) Z

part_same : (x y X Y Z W : List ℕ) → NoStop x → NoStop y → (x ++ 42 ∷ X) ++ Z ≡ (y ++ 42 ∷ Y) ++ W → x ≡ y
part_same x y X Y Z W p q e = front_same x y (X ++ Z) (Y ++ W) 42 42 p q star star (sym (with_more x X Z) ∙ e ∙ with_more y Y W)

part_behind : (x y X Y Z W : List ℕ) → NoStop x → NoStop y → (x ++ 42 ∷ X) ++ Z ≡ (y ++ 42 ∷ Y) ++ W → X ++ Z ≡ Y ++ W
part_behind x y X Y Z W p q e = behind_same x y (X ++ Z) (Y ++ W) 42 42 p q star star (sym (with_more x X Z) ∙ e ∙ with_more y Y W)

-- ---- the head of an answer

module _ (answer : AnswerRecord) (control : ℕ) where
  -- the elements behind the level that count
  abbrev more : List (List ℕ)
  more = in_front answer.receiver_number []

  abbrev from_level : List ℕ
  from_level = join_with_byte 42 (number_text answer.level ∷ more)

  abbrev from_role : List ℕ
  from_role = role_text answer.role ++ 42 ∷ (flag_text answer.flag ++ 42 ∷ (answer.number ++ 42 ∷ (check_text answer.check ++ 42 ∷ from_level)))

  head_parts : 0 < length (number_text answer.level) → without_empty_end (head_row answer)
      ≡ codes "G87" ∷ role_text answer.role ∷ flag_text answer.flag ∷ answer.number ∷ check_text answer.check ∷ number_text answer.level ∷ more
  head_parts some =
      let level = in_front_filled (number_text answer.level) more some in
      ap (λ (l : List (List ℕ)). in_front (codes "G87") (in_front (role_text answer.role) (in_front (flag_text answer.flag) (in_front answer.number (in_front (check_text answer.check) l))))) level
      ∙ ap (λ (l : List (List ℕ)). in_front (codes "G87") (in_front (role_text answer.role) (in_front (flag_text answer.flag) (in_front answer.number l)))) (in_front_some (check_text answer.check) (number_text answer.level) more)
      ∙ ap (λ (l : List (List ℕ)). in_front (codes "G87") (in_front (role_text answer.role) (in_front (flag_text answer.flag) l))) (in_front_some answer.number (check_text answer.check) (number_text answer.level ∷ more))
      ∙ ap (λ (l : List (List ℕ)). in_front (codes "G87") (in_front (role_text answer.role) l)) (in_front_some (flag_text answer.flag) answer.number (check_text answer.check ∷ number_text answer.level ∷ more))
      ∙ ap (λ (l : List (List ℕ)). in_front (codes "G87") l) (in_front_some (role_text answer.role) (flag_text answer.flag) (answer.number ∷ check_text answer.check ∷ number_text answer.level ∷ more))

  -- the rows behind it
  abbrev rest : List ℕ
  rest = text_of (note_rows answer ++ later_rows answer ++ sealing_rows (text_of (opened_rows answer control)) (length (opened_rows answer control)) control)

  text_is : 0 < length (number_text answer.level) → text_of (rows_of answer control) ≡ line_of (start_row forms.Answer control) ++ (codes "G87*" ++ (from_role ++ 13 ∷ 10 ∷ rest))
  text_is some =
      ap (λ (l : List (List ℕ)). line_of (start_row forms.Answer control) ++ ((join_with_byte 42 l ++ 13 ∷ 10 ∷ []) ++ rest)) (head_parts some)
      ∙ ap (λ (l : List ℕ). line_of (start_row forms.Answer control) ++ l) (append_assoc (codes "G87*" ++ from_role) (13 ∷ 10 ∷ []) rest)

four : (check : ℕ) → length (check_text check) ≡ 4
four check = omega (arith, length-encode_with upper_digits (to_be_bytes w16 check))

behind_four : (x X Z : List ℕ) → length x ≡ 4 → drop 5 ((x ++ 42 ∷ X) ++ Z) ≡ X ++ Z
behind_four x X Z e =
    ap (λ (l : List ℕ). drop 5 (l ++ Z)) (sym (append_assoc x (42 ∷ []) X)) ∙ ap (drop 5) (append_assoc (x ++ 42 ∷ []) X Z)
    ∙ drop_at (x ++ 42 ∷ []) (X ++ Z) 5 (omega (arith, e, length-append x (42 ∷ [])))

first_digit : (digit : ℕ) (more : List (List ℕ)) (Z : List ℕ) → get_or (join_with_byte 42 ((digit ∷ []) ∷ more) ++ 13 ∷ Z) 0 0 ≡ digit
first_digit digit [] Z = refl
first_digit digit (next ∷ others) Z = refl

-- one text is written of answers of one delivery and one level
pub answers_same : (a b : AnswerRecord) (control : ℕ) (text : List ℕ) → written_of a control ≡ Ok text → written_of b control ≡ Ok text → a.level < 10 → b.level < 10 → IsNumber a.number → IsNumber b.number
    → (a.number ≡ b.number) × (a.level ≡ b.level)
answers_same a b control text first second low lower one other =
    let la : number_text a.level ≡ (48 + a.level) ∷ [] = decimal_digit a.level low in
    let lb : number_text b.level ≡ (48 + b.level) ∷ [] = decimal_digit b.level lower in
    let wa = whole_is (first_long (rows_of a control)) (text_of (rows_of a control)) text first in
    let wb = whole_is (first_long (rows_of b control)) (text_of (rows_of b control)) text second in
    let e0 = sym (text_is a control (omega (arith, ap length la))) ∙ wa.same ∙ sym wb.same ∙ text_is b control (omega (arith, ap length lb)) in
    let za = 13 ∷ 10 ∷ rest a control in
    let zb = 13 ∷ 10 ∷ rest b control in
    let e1 : from_role a control ++ za ≡ from_role b control ++ zb = ap (drop 4) (append_cancel_left (line_of (start_row forms.Answer control)) _ _ e0) in
    let e2 = part_behind (role_text a.role) (role_text b.role) _ _ za zb (role_plain a.role) (role_plain b.role) e1 in
    let e3 = part_behind (flag_text a.flag) (flag_text b.flag) _ _ za zb (flag_plain a.flag) (flag_plain b.flag) e2 in
    let e4 = part_behind a.number b.number _ _ za zb (number_plain a.number one.plain) (number_plain b.number other.plain) e3 in
    let e5 : from_level a control ++ za ≡ from_level b control ++ zb =
    sym (behind_four (check_text a.check) (from_level a control) za (four a.check)) ∙ ap (drop 5) e4 ∙ behind_four (check_text b.check) (from_level b control) zb (four b.check) in
    let e6 = sym (ap (λ (l : List ℕ). join_with_byte 42 (l ∷ more a control) ++ za) la) ∙ e5 ∙ ap (λ (l : List ℕ). join_with_byte 42 (l ∷ more b control) ++ zb) lb in
    let digits : 48 + a.level ≡ 48 + b.level =
    sym (first_digit (48 + a.level) (more a control) (10 ∷ rest a control)) ∙ ap (λ (l : List ℕ). get_or l 0 0) e6 ∙ first_digit (48 + b.level) (more b control) (10 ∷ rest b control) in
    (part_same a.number b.number _ _ za zb (number_plain a.number one.plain) (number_plain b.number other.plain) e3, omega (arith, digits))

-- ---- the head of a base record

module _ (base : BaseRecord) (control : ℕ) where
  abbrev behind_number : List (List ℕ)
  behind_number =
      without_empty_end (base.receiver_duns ∷ base.receiver_place ∷ base.supplier_duns ∷ base.supplier_place ∷ day_text base.day ∷ ([] ++ parted base.tail))

  base_parts : 0 < length base.number → without_empty_end (base_head_row base) ≡ codes "G82" ∷ flag_text base.flag ∷ base.number ∷ behind_number
  base_parts some =
      ap (λ (l : List (List ℕ)). in_front (codes "G82") (in_front (flag_text base.flag) l)) (in_front_filled base.number behind_number some)
      ∙ ap (in_front (codes "G82")) (in_front_some (flag_text base.flag) base.number behind_number)

  abbrev base_rest : List ℕ
  base_rest = text_of (map kept_row base.references ++ base_later base ++ sealing_rows (text_of (base_opened base control)) (length (base_opened base control)) control)

  abbrev from_number : List ℕ
  from_number = join_with_byte 42 (base.number ∷ behind_number)

  base_text : 0 < length base.number → text_of (base_rows base control) ≡ line_of (start_row forms.Base control) ++ (codes "G82*" ++ ((flag_text base.flag ++ 42 ∷ from_number) ++ 13 ∷ 10 ∷ base_rest))
  base_text some =
      ap (λ (l : List (List ℕ)). line_of (start_row forms.Base control) ++ ((join_with_byte 42 l ++ 13 ∷ 10 ∷ []) ++ base_rest)) (base_parts some)
      ∙ ap (λ (l : List ℕ). line_of (start_row forms.Base control) ++ l) (append_assoc (codes "G82*" ++ (flag_text base.flag ++ 42 ∷ from_number)) (13 ∷ 10 ∷ []) base_rest)

after_ok : (price : Result Totals PriceFault) (written : Result (List ℕ) WriteFault) (text : List ℕ) → after_price price written ≡ Ok text → written ≡ Ok text
after_ok (Ok totals) written text e = e
after_ok (Err fault) written text e = absurd (cc)

-- a number ends at a star or at the end of the line
record Ended (number joined : List ℕ) : Type 0 where
  stop : ℕ
  behind : List ℕ
  is : joined ≡ number ++ stop ∷ behind
  stops : IsStop stop

ended : (number : List ℕ) (more : List (List ℕ)) (Z : List ℕ) → Ended number (join_with_byte 42 (number ∷ more) ++ 13 ∷ Z)
ended number [] Z = record { stop = 13; behind = Z; is = refl; stops = inr refl }
ended number (next ∷ others) Z = record { stop = 42; behind = join_with_byte 42 (next ∷ others) ++ 13 ∷ Z; is = with_more number (join_with_byte 42 (next ∷ others)) (13 ∷ Z); stops = star }

-- one text is written of base records of one delivery
pub bases_same : (a b : BaseRecord) (control : ℕ) (text : List ℕ) → base_written a control ≡ Ok text → base_written b control ≡ Ok text → IsNumber a.number → IsNumber b.number → a.number ≡ b.number
bases_same a b control text first second one other =
    let wa = whole_is (first_long (base_rows a control)) (text_of (base_rows a control)) text (after_ok (totals_of a.lines a.extras) _ text first) in
    let wb = whole_is (first_long (base_rows b control)) (text_of (base_rows b control)) text (after_ok (totals_of b.lines b.extras) _ text second) in
    let e0 = sym (base_text a control one.some) ∙ wa.same ∙ sym wb.same ∙ base_text b control other.some in
    let za = 13 ∷ 10 ∷ base_rest a control in
    let zb = 13 ∷ 10 ∷ base_rest b control in
    let e1 : (flag_text a.flag ++ 42 ∷ from_number a control) ++ za ≡ (flag_text b.flag ++ 42 ∷ from_number b control) ++ zb = ap (drop 4) (append_cancel_left (line_of (start_row forms.Base control)) _ _ e0) in
    let e2 = part_behind (flag_text a.flag) (flag_text b.flag) _ _ za zb (flag_plain a.flag) (flag_plain b.flag) e1 in
    let ea = ended a.number (behind_number a control) (10 ∷ base_rest a control) in
    let eb = ended b.number (behind_number b control) (10 ∷ base_rest b control) in
    front_same a.number b.number ea.behind eb.behind ea.stop eb.stop (number_plain a.number one.plain) (number_plain b.number other.plain) ea.stops eb.stops (sym ea.is ∙ e2 ∙ eb.is)
