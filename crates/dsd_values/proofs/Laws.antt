-- A text is read as a value exactly where it spells the value.
use Rattle.std.proofs.Common.{◌≡◌, ◌∙◌, ℕ, ◌^◌, ◌<◌, ◌≤◌, false, List, [], ◌∷◌, length, position, Result, Ok, refl, sym, ap, inl, inr, arith}
use Rattle.std.specs.Prelude.{◌↔◌}
use Rattle.std.specs.Char.{IsAsciiDigit}
use Rattle.std.specs.List.{All}
use Rattle.std.specs.Str.Parse.{AllDigits, digits_value}
use Rattle.std.proofs.lemmas.Int.Digits.{digits_value-lt}
use Rattle.std.proofs.lemmas.List.Elements.{All-head, All-tail}
use Rattle.std.proofs.lemmas.Bool.Decides.{nat_tests}
use Rattle.dsd_values.specs.Reading.{is_no_digit, is_no_element_byte, is_no_number_byte, is_no_id_byte, within, complete, filled, number_of, plain_number_of, decimal_of, filled_word_of, word_of, word_between, delivery_number_of, comm_id_of, check_of}
use Rattle.dsd_values.specs.Spelling.{SpellsNumber, SpellsPlainNumber, SpellsDecimal, SpellsFilledWord, SpellsWord, SpellsWordBetween, SpellsDeliveryNumber, SpellsCommId, SpellsCheck, IsElementCharacter, IsNumberCharacter, IsIdCharacter}
use Rattle.dsd_values.specs.declared.comm_id.TheConstants.{COMM_ID_BYTES}
use Rattle.dsd_values.specs.declared.delivery_number.TheConstants.{DELIVERY_NUMBER_BYTES}
use Rattle.dsd_values.specs.declared.fault.ValueFault.{ValueFault}
use Rattle.dsd_values.specs.declared.limits.TheConstants.{WORD_BYTES}
use Rattle.dsd_values.specs.declared.number.TheConstants.{NUMBER_BYTES}
use Rattle.dsd_values.proofs.Digits.{below_fifteen, digit_low, digit_passes, digit_fails}
use Rattle.dsd_values.specs.Calendar.{Date, day_of}
use Rattle.dsd_values.specs.Spelling.{SpellsDay}
use Rattle.dsd_values.proofs.Dates.{day_read, day_spelled}
use Rattle.dsd_values.proofs.Hexadecimal.{check_read, check_spelled}
use Rattle.dsd_values.proofs.Points.{decimal_read, decimal_spelled}
use Rattle.dsd_values.proofs.Refusals.{filled_ok, filled_gives, bounded_ok, bounded_gives, complete_ok, complete_gives, within_ok, within_gives, all_pass, none_outside, ok_is}

-- ---- what each test says of a byte

pub element_passes : (b : ℕ) → is_no_element_byte b ≡ false → IsElementCharacter b
element_passes b h = ((grind (arith, nat_tests), grind (arith, nat_tests)), grind (arith, nat_tests))

pub element_fails : (b : ℕ) → IsElementCharacter b → is_no_element_byte b ≡ false
element_fails b h = grind (arith, nat_tests)

-- ---- numbers

pub number_law : (low high : ℕ) (text : List ℕ) (n : ℕ) → (number_of low high text ≡ Ok n) ↔ SpellsNumber low high n text
number_law low high text n = (read, spelled)
  where
    read : number_of low high text ≡ Ok n → SpellsNumber low high n text
    read e =
        let h = filled_ok ℕ NUMBER_BYTES (position is_no_digit text) text (within low high (digits_value 10 text)) n e in
        let w = within_ok low high (digits_value 10 text) n h.is in
        record { filled = h.some; short = h.short; digits = all_pass is_no_digit IsAsciiDigit digit_passes text h.none; value = w.0; at_least = w.1; at_most = w.2 }

    spelled : SpellsNumber low high n text → number_of low high text ≡ Ok n
    spelled s =
        filled_gives ℕ NUMBER_BYTES (position is_no_digit text) text (within low high (digits_value 10 text)) s.filled s.short (none_outside is_no_digit IsAsciiDigit digit_fails text s.digits)
        ∙ within_gives low high (digits_value 10 text) n s.value s.at_least s.at_most

pub number_spelled : (low high : ℕ) (text : List ℕ) (answer : Result ℕ ValueFault) → answer ≡ number_of low high text → (n : ℕ) → (answer ≡ Ok n) ↔ SpellsNumber low high n text
number_spelled low high text answer is n = rw is (number_law low high text n)

decimal_law : (places high : ℕ) (text : List ℕ) (n : ℕ) → (decimal_of places high text ≡ Ok n) ↔ SpellsDecimal places high n text
decimal_law places high text n = (decimal_read places high text n, decimal_spelled places high text n)

pub decimal_of_spelled : (places high : ℕ) (text : List ℕ) (answer : Result ℕ ValueFault) → answer ≡ decimal_of places high text → (n : ℕ) → (answer ≡ Ok n) ↔ SpellsDecimal places high n text
decimal_of_spelled places high text answer is n = rw is (decimal_law places high text n)

pub day_of_spelled : (text : List ℕ) (answer : Result Date ValueFault) → answer ≡ day_of text → (d : Date) → (answer ≡ Ok d) ↔ SpellsDay d text
day_of_spelled text answer is d = rw is (day_read text d, day_spelled text d)

-- any number of 1 to 15 digits is below 10 ^ 15
all_digits : (text : List ℕ) → All IsAsciiDigit text → AllDigits 10 text
all_digits [] h = tt
all_digits (c ∷ cs) h = (digit_low c (All-head IsAsciiDigit c cs h), all_digits cs (All-tail IsAsciiDigit c cs h))

below_all : (text : List ℕ) → All IsAsciiDigit text → length text ≤ NUMBER_BYTES → digits_value 10 text ≤ 999_999_999_999_999
below_all text digits short =
    let under : digits_value 10 text < 10 ^ length text = digits_value-lt 10 text (all_digits text digits) in
    let far : digits_value 10 text < 10 ^ 15 = below_fifteen (digits_value 10 text) (length text) under short in
    omega arith

plain_read : (text : List ℕ) (n : ℕ) → plain_number_of text ≡ Ok n → SpellsPlainNumber n text
plain_read text n e =
    let h = filled_ok ℕ NUMBER_BYTES (position is_no_digit text) text (Ok (digits_value 10 text)) n e in
    let digits = all_pass is_no_digit IsAsciiDigit digit_passes text h.none in
    let same : digits_value 10 text ≡ n = ok_is ℕ (digits_value 10 text) n h.is in
    let most = below_all text digits h.short in
    record { filled = h.some; short = h.short; digits = digits; value = same; at_least = omega arith; at_most = omega arith }

plain_spelled : (text : List ℕ) (n : ℕ) → SpellsPlainNumber n text → plain_number_of text ≡ Ok n
plain_spelled text n s =
    filled_gives ℕ NUMBER_BYTES (position is_no_digit text) text (Ok (digits_value 10 text)) s.filled s.short (none_outside is_no_digit IsAsciiDigit digit_fails text s.digits)
    ∙ ap Ok s.value

pub plain_number_of_spelled : (text : List ℕ) (answer : Result ℕ ValueFault) → answer ≡ plain_number_of text → (n : ℕ) → (answer ≡ Ok n) ↔ SpellsPlainNumber n text
plain_number_of_spelled text answer is n = rw is (plain_read text n, plain_spelled text n)

-- ---- words

word_read : (text word : List ℕ) → word_of text ≡ Ok word → SpellsWord word text
word_read text word e =
    let h = bounded_ok (List ℕ) WORD_BYTES (position is_no_element_byte text) text (Ok text) word e in
    record { same = ok_is (List ℕ) text word h.2; characters = all_pass is_no_element_byte IsElementCharacter element_passes text h.1; short = h.0 }

word_spelled : (text word : List ℕ) → SpellsWord word text → word_of text ≡ Ok word
word_spelled text word s =
    bounded_gives (List ℕ) WORD_BYTES (position is_no_element_byte text) text (Ok text) s.short (none_outside is_no_element_byte IsElementCharacter element_fails text s.characters)
    ∙ ap Ok s.same

pub word_of_spelled : (text : List ℕ) (answer : Result (List ℕ) ValueFault) → answer ≡ word_of text → (word : List ℕ) → (answer ≡ Ok word) ↔ SpellsWord word text
word_of_spelled text answer is word = rw is (word_read text word, word_spelled text word)

between_read : (least most : ℕ) (text word : List ℕ) → word_between least most text ≡ Ok word → SpellsWordBetween least most word text
between_read least most text word e =
    let h = filled_ok (List ℕ) most (position is_no_element_byte text) text (complete least text (Ok text)) word e in
    let c = complete_ok (List ℕ) least text (Ok text) word h.is in
    record { same = ok_is (List ℕ) text word c.1; characters = all_pass is_no_element_byte IsElementCharacter element_passes text h.none; filled = h.some; long = c.0; short = h.short }

between_spelled : (least most : ℕ) (text word : List ℕ) → SpellsWordBetween least most word text → word_between least most text ≡ Ok word
between_spelled least most text word s =
    filled_gives (List ℕ) most (position is_no_element_byte text) text (complete least text (Ok text)) s.filled s.short (none_outside is_no_element_byte IsElementCharacter element_fails text s.characters)
    ∙ complete_gives (List ℕ) least text (Ok text) s.long
    ∙ ap Ok s.same

pub word_between_spelled : (least most : ℕ) (text : List ℕ) (answer : Result (List ℕ) ValueFault) → answer ≡ word_between least most text → (word : List ℕ) → (answer ≡ Ok word) ↔ SpellsWordBetween least most word text
word_between_spelled least most text answer is word = rw is (between_read least most text word, between_spelled least most text word)

filled_is : (text : List ℕ) → filled_word_of text ≡ word_between 1 WORD_BYTES text
filled_is [] = refl
filled_is (b ∷ bs) = ap (λ value. filled WORD_BYTES (position is_no_element_byte (b ∷ bs)) (b ∷ bs) value) (sym (complete_gives (List ℕ) 1 (b ∷ bs) (Ok (b ∷ bs)) (omega arith)))

pub filled_word_of_spelled : (text : List ℕ) (answer : Result (List ℕ) ValueFault) → answer ≡ filled_word_of text → (word : List ℕ) → (answer ≡ Ok word) ↔ SpellsFilledWord word text
filled_word_of_spelled text answer is word = word_between_spelled 1 WORD_BYTES text answer (is ∙ filled_is text) word

delivery_passes : (b : ℕ) → is_no_number_byte b ≡ false → IsNumberCharacter b
delivery_passes b h = (((grind (arith, nat_tests), grind (arith, nat_tests)), grind (arith, nat_tests)), grind (arith, nat_tests))

delivery_fails : (b : ℕ) → IsNumberCharacter b → is_no_number_byte b ≡ false
delivery_fails b h = grind (arith, nat_tests)

delivery_read : (text number : List ℕ) → delivery_number_of text ≡ Ok number → SpellsDeliveryNumber number text
delivery_read text number e =
    let h = filled_ok (List ℕ) DELIVERY_NUMBER_BYTES (position is_no_number_byte text) text (Ok text) number e in
    record { same = ok_is (List ℕ) text number h.is; characters = all_pass is_no_number_byte IsNumberCharacter delivery_passes text h.none; filled = h.some; short = h.short }

delivery_spelled : (text number : List ℕ) → SpellsDeliveryNumber number text → delivery_number_of text ≡ Ok number
delivery_spelled text number s =
    filled_gives (List ℕ) DELIVERY_NUMBER_BYTES (position is_no_number_byte text) text (Ok text) s.filled s.short (none_outside is_no_number_byte IsNumberCharacter delivery_fails text s.characters)
    ∙ ap Ok s.same

pub delivery_number_of_spelled : (text : List ℕ) (answer : Result (List ℕ) ValueFault) → answer ≡ delivery_number_of text → (number : List ℕ) → (answer ≡ Ok number) ↔ SpellsDeliveryNumber number text
delivery_number_of_spelled text answer is number = rw is (delivery_read text number, delivery_spelled text number)

-- ---- ids and checks

id_passes : (b : ℕ) → is_no_id_byte b ≡ false → IsIdCharacter b
id_passes b h = grind (arith, nat_tests)

id_fails : (b : ℕ) → IsIdCharacter b → is_no_id_byte b ≡ false
id_fails b (inl h) = grind (arith, nat_tests)
id_fails b (inr h) = grind (arith, nat_tests)

id_read : (text id : List ℕ) → comm_id_of text ≡ Ok id → SpellsCommId id text
id_read text id e =
    let h = filled_ok (List ℕ) COMM_ID_BYTES (position is_no_id_byte text) text (complete COMM_ID_BYTES text (Ok text)) id e in
    let c = complete_ok (List ℕ) COMM_ID_BYTES text (Ok text) id h.is in
    let most = h.short in
    record { same = ok_is (List ℕ) text id c.1; characters = all_pass is_no_id_byte IsIdCharacter id_passes text h.none; ten = omega arith }

id_spelled : (text id : List ℕ) → SpellsCommId id text → comm_id_of text ≡ Ok id
id_spelled text id s =
    filled_gives (List ℕ) COMM_ID_BYTES (position is_no_id_byte text) text (complete COMM_ID_BYTES text (Ok text)) (omega arith) (omega arith) (none_outside is_no_id_byte IsIdCharacter id_fails text s.characters)
    ∙ complete_gives (List ℕ) COMM_ID_BYTES text (Ok text) (omega arith)
    ∙ ap Ok s.same

pub comm_id_of_spelled : (text : List ℕ) (answer : Result (List ℕ) ValueFault) → answer ≡ comm_id_of text → (id : List ℕ) → (answer ≡ Ok id) ↔ SpellsCommId id text
comm_id_of_spelled text answer is id = rw is (id_read text id, id_spelled text id)

pub check_of_spelled : (text : List ℕ) (answer : Result ℕ ValueFault) → answer ≡ check_of text → (n : ℕ) → (answer ≡ Ok n) ↔ SpellsCheck n text
check_of_spelled text answer is n = rw is (check_read text n, check_spelled text n)
