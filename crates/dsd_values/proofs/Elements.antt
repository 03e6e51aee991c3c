-- A text that spells a value may stand in an element.
use Rattle.std.proofs.Common.{◌≡◌, ◌⊎◌, ℕ, false, List, ◌∷◌, Ok, refl, inl, inr, subst, sym, arith}
use Rattle.std.specs.Char.{IsAsciiDigit}
use Rattle.std.specs.List.{All}
use Rattle.std.proofs.lemmas.Bool.Decides.{nat_tests}
use Rattle.std.proofs.lemmas.List.Elements.{All-append, All-cons}
use Rattle.dsd_values.specs.Calendar.{Date, day_of}
use Rattle.dsd_values.specs.Reading.{IsElementText, IsIdText, IsNumberText, check_of, decimal_of, is_no_element_byte, is_no_id_byte, is_no_number_byte, number_of}
use Rattle.dsd_values.specs.Spelling.{HasParts, IsCheckDigit}
use Rattle.dsd_values.proofs.Dates.{day_read}
use Rattle.dsd_values.proofs.Hexadecimal.{check_read}
use Rattle.dsd_values.proofs.Laws.{number_law}
use Rattle.dsd_values.proofs.Points.{decimal_read}
use Rattle.dsd_values.proofs.Refusals.{all_pass, none_outside}

pub digit_element : (b : ℕ) → IsAsciiDigit b → is_no_element_byte b ≡ false
digit_element b h = grind (arith, nat_tests)

check_digit_element : (b : ℕ) → IsCheckDigit b → is_no_element_byte b ≡ false
check_digit_element b (inl h) = grind (arith, nat_tests)
check_digit_element b (inr h) = grind (arith, nat_tests)

pub number_element : (low high : ℕ) (text : List ℕ) (n : ℕ) → number_of low high text ≡ Ok n → IsElementText text
number_element low high text n e = none_outside is_no_element_byte IsAsciiDigit digit_element text ((number_law low high text n).0 e).digits

-- a digit or the point
abbrev IsDecimalByte : ℕ → Type 0
IsDecimalByte b = IsAsciiDigit b ⊎ (b ≡ 46)

decimal_byte_element : (b : ℕ) → IsDecimalByte b → is_no_element_byte b ≡ false
decimal_byte_element b (inl h) = grind (arith, nat_tests)
decimal_byte_element b (inr h) = grind (arith, nat_tests)

digits_are : (text : List ℕ) → All IsAsciiDigit text → All IsDecimalByte text
digits_are text all k d here = inl (all k d here)

parts_are : (w d text : List ℕ) → All IsAsciiDigit w → All IsAsciiDigit d → HasParts w d text → All IsDecimalByte text
parts_are w d text hw hd (inl pointed) =
    subst (All IsDecimalByte) (sym pointed)
    (All-append IsDecimalByte w (46 ∷ d) (digits_are w hw) (All-cons IsDecimalByte 46 d (inr refl) (digits_are d hd)))
parts_are w d text hw hd (inr plain) = subst (All IsDecimalByte) (sym plain.0) (digits_are w hw)

pub decimal_element : (places high : ℕ) (text : List ℕ) (n : ℕ) → decimal_of places high text ≡ Ok n → IsElementText text
decimal_element places high text n e =
    let s = decimal_read places high text n e in
    none_outside is_no_element_byte IsDecimalByte decimal_byte_element text
    (parts_are s.whole s.decimals text s.whole_digits s.decimal_digits s.parts)

pub check_element : (text : List ℕ) (n : ℕ) → check_of text ≡ Ok n → IsElementText text
check_element text n e = none_outside is_no_element_byte IsCheckDigit check_digit_element text (check_read text n e).digits

pub day_element : (text : List ℕ) (date : Date) → day_of text ≡ Ok date → IsElementText text
day_element text date e = none_outside is_no_element_byte IsAsciiDigit digit_element text (day_read text date e).digits

-- ---- delivery numbers and ids

delivery_byte : (b : ℕ) → is_no_number_byte b ≡ false → is_no_element_byte b ≡ false
delivery_byte b h = grind (arith, nat_tests)

pub delivery_element : (text : List ℕ) → IsNumberText text → IsElementText text
delivery_element text none =
    none_outside is_no_element_byte (λ b. is_no_number_byte b ≡ false) delivery_byte text
    (all_pass is_no_number_byte (λ b. is_no_number_byte b ≡ false) (λ b h. h) text none)

id_byte : (b : ℕ) → is_no_id_byte b ≡ false → is_no_element_byte b ≡ false
id_byte b h = grind (arith, nat_tests)

pub id_element : (text : List ℕ) → IsIdText text → IsElementText text
id_element text none =
    none_outside is_no_element_byte (λ b. is_no_id_byte b ≡ false) id_byte text
    (all_pass is_no_id_byte (λ b. is_no_id_byte b ≡ false) (λ b h. h) text none)
