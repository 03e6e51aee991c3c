-- A value that some text spells is read of the text that is written of it, which may stand in an element.
use Rattle.std.proofs.Common.{◌≡◌, ℕ, ◌^◌, ◌<◌, ◌≤◌, List, false, length, Result, Ok, refl, subst, arith}
use Rattle.std.specs.Char.{IsAsciiDigit}
use Rattle.std.specs.Fmt.{decimal}
use Rattle.std.specs.List.{All}
use Rattle.std.proofs.lemmas.Fmt.{decimal_is_IsNumeral, length-decimal-le}
use Rattle.dsd_values.specs.Calendar.{Date, day_of}
use Rattle.dsd_values.specs.Reading.{IsElementText, check_of, decimal_of, delivery_number_of, filled_word_of, flag_of, is_no_element_byte, number_of, plain_number_of, word_between, word_of}
use Rattle.dsd_values.specs.Spelling.{IsElementCharacter, IsNumberCharacter, flag_text}
use Rattle.dsd_values.specs.Writing.{check_text, day_text, decimal_text, number_text}
use Rattle.dsd_values.specs.declared.flag.Flag.{Flag}
use Rattle.dsd_values.specs.declared.flag.Flag.TheVariants.{Debit, Credit}
use Rattle.dsd_values.proofs.Dates.{date_passes, day_read, day_read_back}
use Rattle.dsd_values.proofs.Elements.{check_element, day_element, decimal_element, digit_element, number_element}
use Rattle.dsd_values.proofs.Hexadecimal.{check_read_back}
use Rattle.dsd_values.proofs.Laws.{delivery_number_of_spelled, element_fails, filled_word_of_spelled, number_law, plain_number_of_spelled, word_between_spelled, word_of_spelled}
use Rattle.dsd_values.proofs.Points.{decimal_read}
use Rattle.dsd_values.proofs.ReadBack.{all_are, decimal_read_back, number_read_back, number_spells}
use Rattle.dsd_values.proofs.Refusals.{none_outside}

-- a text that is read as this value, and that may stand in an element
pub record IsReadAs {V E : Type 0} (reading : List ℕ → Result V E) (v : V) (text : List ℕ) : Type 0 where
  pub read : reading text ≡ Ok v
  pub element : IsElementText text

-- ---- numbers

pub twenty_digits : (n : ℕ) → n < 2 ^ 64 → length (decimal n) ≤ 20
twenty_digits n small = length-decimal-le 20 n (omega arith) (omega arith) (omega arith)

pub decimal_text_element : (n : ℕ) → n < 2 ^ 64 → IsElementText (number_text n)
decimal_text_element n small = none_outside is_no_element_byte IsAsciiDigit digit_element (decimal n) (all_are (decimal n) (decimal_is_IsNumeral n small).0.1)

pub plain_read_back : (n : ℕ) → n < 10 ^ 15 → plain_number_of (number_text n) ≡ Ok n
plain_read_back n small =
    (plain_number_of_spelled (number_text n) (plain_number_of (number_text n)) refl n).1
    (number_spells 0 999_999_999_999_999 n (omega arith) (omega arith) small)

pub number_again : (low high n : ℕ) (text : List ℕ) → high < 10 ^ 15 → number_of low high text ≡ Ok n → IsReadAs (number_of low high) n (number_text n)
number_again low high n text bound e =
    let s = (number_law low high text n).0 e in
    let most = s.at_most in
    let back : number_of low high (number_text n) ≡ Ok n = number_read_back low high n (number_text n) refl (omega arith) s.at_least s.at_most in
    record { read = back; element = number_element low high (number_text n) n back }

pub decimal_again : (places high n : ℕ) (text : List ℕ) → high ≤ 999_999_999 → places ≤ 4 → decimal_of places high text ≡ Ok n → IsReadAs (decimal_of places high) n (decimal_text places n)
decimal_again places high n text bound few e =
    let most : n ≤ high = (decimal_read places high text n e).at_most in
    let back : decimal_of places high (decimal_text places n) ≡ Ok n = decimal_read_back places high n (decimal_text places n) refl (omega arith) few most in
    record { read = back; element = decimal_element places high (decimal_text places n) n back }

pub check_again : (n : ℕ) → n < 2 ^ 16 → IsReadAs check_of n (check_text n)
check_again n small =
    let back : check_of (check_text n) ≡ Ok n = check_read_back n (check_text n) small refl in
    record { read = back; element = check_element (check_text n) n back }

pub day_again : (date : Date) (text : List ℕ) → day_of text ≡ Ok date → IsReadAs day_of date (day_text date)
day_again date text e =
    let there = (day_read text date e).there in
    let back : day_of (day_text date) ≡ Ok date = day_read_back date (day_text date) refl (date_passes date.year date.month date.day there) in
    record { read = back; element = day_element (day_text date) date back }

-- ---- texts that are their own values

characters_element : (text : List ℕ) → All IsElementCharacter text → IsElementText text
characters_element text h = none_outside is_no_element_byte IsElementCharacter element_fails text h

pub word_again : (text word : List ℕ) → word_of text ≡ Ok word → IsReadAs word_of word word
word_again text word e =
    let s = (word_of_spelled text (word_of text) refl word).0 e in
    record { read = subst (λ (t : List ℕ). word_of t ≡ Ok word) s.same e; element = subst IsElementText s.same (characters_element text s.characters) }

pub filled_word_again : (text word : List ℕ) → filled_word_of text ≡ Ok word → IsReadAs filled_word_of word word
filled_word_again text word e =
    let s = (filled_word_of_spelled text (filled_word_of text) refl word).0 e in
    record { read = subst (λ (t : List ℕ). filled_word_of t ≡ Ok word) s.same e; element = subst IsElementText s.same (characters_element text s.characters) }

pub word_between_again : (least most : ℕ) (text word : List ℕ) → word_between least most text ≡ Ok word → IsReadAs (word_between least most) word word
word_between_again least most text word e =
    let s = (word_between_spelled least most text (word_between least most text) refl word).0 e in
    record { read = subst (λ (t : List ℕ). word_between least most t ≡ Ok word) s.same e; element = subst IsElementText s.same (characters_element text s.characters) }

number_character : (b : ℕ) → IsNumberCharacter b → is_no_element_byte b ≡ false
number_character b h = element_fails b h.0

pub delivery_number_again : (text number : List ℕ) → delivery_number_of text ≡ Ok number → IsReadAs delivery_number_of number number
delivery_number_again text number e =
    let s = (delivery_number_of_spelled text (delivery_number_of text) refl number).0 e in
    record { read = subst (λ (t : List ℕ). delivery_number_of t ≡ Ok number) s.same e; element = subst IsElementText s.same (none_outside is_no_element_byte IsNumberCharacter number_character text s.characters) }

pub flag_again : (flag : Flag) → IsReadAs flag_of flag (flag_text flag)
flag_again Debit = record { read = refl; element = refl }
flag_again Credit = record { read = refl; element = refl }
