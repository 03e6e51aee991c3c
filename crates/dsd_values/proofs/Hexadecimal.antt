-- Four upper-case hexadecimal digits, and what `hex` makes of them.
use Rattle.std.proofs.Common.{◌≡◌, ◌∙◌, ℕ, zero, suc, ◌+◌, ◌*◌, ◌/◌, ◌%◌, ◌^◌, ◌<◌, ◌≤◌, false, List, [], ◌∷◌, length, map, get_or, slice_index, position, take, Some, None, Result, Ok, Err, refl, sym, ap, inl, inr, lit<, arith}
use Rattle.std.specs.Prelude.{MatchResult}
use Rattle.std.specs.Char.{digit_value, to_ascii_uppercase}
use Rattle.std.specs.Int.{w16, from_be_bytes, to_be_bytes}
use Rattle.std.specs.List.{All, position_or_len}
use Rattle.std.specs.Str.Parse.{digits_value}
use Rattle.std.proofs.Math.ListN.{get_or-map}
use Rattle.std.proofs.lemmas.Bool.Decides.{nat_tests}
use Rattle.std.proofs.lemmas.List.{take_all}
use Rattle.std.proofs.lemmas.List.Elements.{All-nil, All-cons}
use Rattle.std.proofs.lemmas.List.Sums.{fails_before_first}
use Rattle.std.proofs.lemmas.Nat.{from_be_bytes-to_be_bytes_2}
use Rattle.hex.specs.Hex.{IsBytes, decode_pairs, decode_sized, encode_with, encode_lower, encode_upper, hex_digit_value, lower_digits, upper_digits}
use Rattle.hex.specs.declared.error.FromHexError.{FromHexError}
use Rattle.hex.proofs.HexLemmas.{decode_of-encode_upper, decode_sized-twice, length-encode_with}
use Rattle.dsd_values.specs.Reading.{check_of, complete, is_no_check_byte}
use Rattle.dsd_values.specs.Spelling.{IsCheckDigit, SpellsCheck}
use Rattle.dsd_values.specs.Writing.{check_text}
use Rattle.dsd_values.proofs.Digits.{none_all}
use Rattle.dsd_values.proofs.Refusals.{all_pass, complete_gives, complete_ok, filled_gives, filled_ok, none_outside, ok_is}

digit_is : (c : ℕ) → is_no_check_byte c ≡ false → (hex_digit_value c ≡ Some (digit_value c)) × (digit_value c < 16)
digit_is c h = grind (arith, nat_tests)

digit_at : (text : List ℕ) (i : ℕ) → position is_no_check_byte text ≡ None → i < length text → (hex_digit_value (get_or text i 0) ≡ Some (digit_value (get_or text i 0))) × (digit_value (get_or text i 0) < 16)
digit_at text i none here =
    let far : length text ≤ position_or_len is_no_check_byte text = none_all is_no_check_byte text none in
    digit_is (get_or text i 0) (fails_before_first is_no_check_byte text i 0 (omega arith))

abbrev Ok_of : List ℕ → Result (List ℕ) FromHexError
Ok_of bytes = Ok bytes

-- the two bytes of four digits
pub pairs_of : (a b c d : ℕ) → position is_no_check_byte (a ∷ b ∷ c ∷ d ∷ []) ≡ None → decode_sized (a ∷ b ∷ c ∷ d ∷ []) 2 ≡ Ok ((digit_value a * 16 + digit_value b) ∷ (digit_value c * 16 + digit_value d) ∷ [])
unfolding decode_pairs
pairs_of a b c d none =
    let first : hex_digit_value a ≡ Some (digit_value a) = (digit_at (a ∷ b ∷ c ∷ d ∷ []) 0 none (omega arith)).0 in
    let second : hex_digit_value b ≡ Some (digit_value b) = (digit_at (a ∷ b ∷ c ∷ d ∷ []) 1 none (omega arith)).0 in
    let third : hex_digit_value c ≡ Some (digit_value c) = (digit_at (a ∷ b ∷ c ∷ d ∷ []) 2 none (omega arith)).0 in
    let fourth : hex_digit_value d ≡ Some (digit_value d) = (digit_at (a ∷ b ∷ c ∷ d ∷ []) 3 none (omega arith)).0 in
    rw (first, second, third, fourth) refl

pub number_of_pairs : (a b c d : ℕ) → from_be_bytes w16 ((digit_value a * 16 + digit_value b) ∷ (digit_value c * 16 + digit_value d) ∷ []) ≡ digits_value 16 (a ∷ b ∷ c ∷ d ∷ [])
number_of_pairs a b c d = omega arith

-- the number of what four digits decode to
pub value_of : (text bytes : List ℕ) → position is_no_check_byte text ≡ None → length text ≡ 4 → decode_sized text 2 ≡ Ok bytes → from_be_bytes w16 bytes ≡ digits_value 16 text
value_of (a ∷ b ∷ c ∷ d ∷ []) bytes none four is =
    let same : Ok_of ((digit_value a * 16 + digit_value b) ∷ (digit_value c * 16 + digit_value d) ∷ []) ≡ Ok_of bytes = sym (pairs_of a b c d none) ∙ is in
    let bytes_are : (digit_value a * 16 + digit_value b) ∷ (digit_value c * 16 + digit_value d) ∷ [] ≡ bytes = cc in
    ap (from_be_bytes w16) (sym bytes_are) ∙ number_of_pairs a b c d
value_of [] bytes none four is = absurd (omega arith)
value_of (a ∷ []) bytes none four is = absurd (omega arith)
value_of (a ∷ b ∷ []) bytes none four is = absurd (omega arith)
value_of (a ∷ b ∷ c ∷ []) bytes none four is = absurd (omega arith)
value_of (a ∷ b ∷ c ∷ d ∷ e ∷ more) bytes none four is = absurd (omega arith)

two_of : (text : List ℕ) → position is_no_check_byte text ≡ None → length text ≡ 4 → (bytes : List ℕ) × (decode_sized text 2 ≡ Ok bytes)
two_of (a ∷ b ∷ c ∷ d ∷ []) none four = ((digit_value a * 16 + digit_value b) ∷ (digit_value c * 16 + digit_value d) ∷ [], pairs_of a b c d none)
two_of [] none four = absurd (omega arith)
two_of (a ∷ []) none four = absurd (omega arith)
two_of (a ∷ b ∷ []) none four = absurd (omega arith)
two_of (a ∷ b ∷ c ∷ []) none four = absurd (omega arith)
two_of (a ∷ b ∷ c ∷ d ∷ e ∷ more) none four = absurd (omega arith)

-- what decoding writes, at four digits
pub decoded : (text bytes : List ℕ) (result : Result (Unit {0}) FromHexError) → position is_no_check_byte text ≡ None → length text ≡ 4 → MatchResult (decode_sized text 2) (λ want. (result ≡ Ok tt) × (bytes ≡ want)) (λ e. result ≡ Err e) → from_be_bytes w16 bytes ≡ digits_value 16 text
decoded text bytes result none four wrote =
    let want = two_of text none four in
    let is = rw want.1 at wrote in
    ap (from_be_bytes w16) is.1 ∙ value_of text want.0 none four want.1

-- ---- a check is read exactly where it is spelled

pub check_passes : (b : ℕ) → is_no_check_byte b ≡ false → IsCheckDigit b
check_passes b h = grind (arith, nat_tests)

pub check_fails : (b : ℕ) → IsCheckDigit b → is_no_check_byte b ≡ false
check_fails b (inl h) = grind (arith, nat_tests)
check_fails b (inr h) = grind (arith, nat_tests)

pub check_read : (text : List ℕ) (n : ℕ) → check_of text ≡ Ok n → SpellsCheck n text
check_read text n e =
    let h = filled_ok ℕ 4 (position is_no_check_byte text) text (complete 4 text (Ok (digits_value 16 text))) n e in
    let c = complete_ok ℕ 4 text (Ok (digits_value 16 text)) n h.is in
    let most = h.short in
    record { digits = all_pass is_no_check_byte IsCheckDigit check_passes text h.none; four = omega arith; value = ok_is ℕ (digits_value 16 text) n c.1 }

pub check_spelled : (text : List ℕ) (n : ℕ) → SpellsCheck n text → check_of text ≡ Ok n
check_spelled text n s =
    filled_gives ℕ 4 (position is_no_check_byte text) text (complete 4 text (Ok (digits_value 16 text))) (omega arith) (omega arith) (none_outside is_no_check_byte IsCheckDigit check_fails text s.digits)
    ∙ complete_gives ℕ 4 text (Ok (digits_value 16 text)) (omega arith)
    ∙ ap Ok s.value

-- ---- a check as it is written

digits_at : (d : ℕ) → d < 16 → IsCheckDigit (slice_index upper_digits d)
digits_at d below =
    let far : 16 ≤ position_or_len is_no_check_byte upper_digits = none_all is_no_check_byte upper_digits refl in
    check_passes (slice_index upper_digits d) (fails_before_first is_no_check_byte upper_digits d 0 (omega arith))

-- both digits of each byte are upper-case ones
encoded_digits : (bytes : List ℕ) → IsBytes bytes → All IsCheckDigit (encode_upper bytes)
unfolding encode_with
encoded_digits [] fits = All-nil IsCheckDigit
encoded_digits (b ∷ bs) fits =
    let low : b % 16 < 16 = omega arith in
    let byte : b < 256 = fits 0 in
    let high : b / 16 < 16 = omega arith in
    All-cons IsCheckDigit (slice_index upper_digits (b / 16)) (slice_index upper_digits (b % 16) ∷ encode_upper bs) (digits_at (b / 16) high)
    (All-cons IsCheckDigit (slice_index upper_digits (b % 16)) (encode_upper bs) (digits_at (b % 16) low) (encoded_digits bs (λ i. fits (suc i))))

upper_is : map to_ascii_uppercase lower_digits ≡ upper_digits
upper_is = refl

upper_at : (d : ℕ) → to_ascii_uppercase (slice_index lower_digits d) ≡ slice_index upper_digits d
upper_at d = sym (get_or-map to_ascii_uppercase lower_digits d 0) ∙ ap (λ t. slice_index t d) upper_is

-- lower-case digits, raised
pub raised : (bytes : List ℕ) → map to_ascii_uppercase (encode_lower bytes) ≡ encode_upper bytes
unfolding encode_with
raised [] = refl
raised (b ∷ bs) =
    ap (λ x. x ∷ to_ascii_uppercase (slice_index lower_digits (b % 16)) ∷ map to_ascii_uppercase (encode_lower bs)) (upper_at (b / 16))
    ∙ ap (λ x. slice_index upper_digits (b / 16) ∷ x ∷ map to_ascii_uppercase (encode_lower bs)) (upper_at (b % 16))
    ∙ ap (λ xs. slice_index upper_digits (b / 16) ∷ slice_index upper_digits (b % 16) ∷ xs) (raised bs)

two_bytes : (n : ℕ) → IsBytes (to_be_bytes w16 n)
two_bytes n zero = omega arith
two_bytes n (suc zero) = omega arith
two_bytes n (suc (suc i)) = lit< tt

pub check_spells : (n : ℕ) → n < 2 ^ 16 → SpellsCheck n (check_text n)
check_spells n small =
    let digits = encoded_digits (to_be_bytes w16 n) (two_bytes n) in
    let four : length (check_text n) ≡ 4 = length-encode_with upper_digits (to_be_bytes w16 n) in
    let none : position is_no_check_byte (check_text n) ≡ None = none_outside is_no_check_byte IsCheckDigit check_fails (check_text n) digits in
    let decodes : decode_sized (check_text n) 2 ≡ Ok (to_be_bytes w16 n) = decode_sized-twice (check_text n) 2 four ∙ decode_of-encode_upper (to_be_bytes w16 n) (two_bytes n) in
    record {
      digits = digits;
      four = four;
      value = sym (value_of (check_text n) (to_be_bytes w16 n) none four decodes) ∙ from_be_bytes-to_be_bytes_2 n small;
    }

-- the digits, one after the other, raised
pub check_written : (n : ℕ) (text : List ℕ) (digits : List ℕ) (i : ℕ) → text ≡ map to_ascii_uppercase (take i digits) → 4 ≤ i → digits ≡ encode_lower (to_be_bytes w16 n) → text ≡ check_text n
check_written n text digits i is far lower =
    let four : length digits ≡ 4 = ap length lower ∙ length-encode_with lower_digits (to_be_bytes w16 n) in
    let all : length digits ≤ i = omega arith in
    is ∙ ap (map to_ascii_uppercase) (take_all i digits all ∙ lower) ∙ raised (to_be_bytes w16 n)

pub check_read_back : (n : ℕ) (text : List ℕ) → n < 2 ^ 16 → text ≡ check_text n → check_of text ≡ Ok n
check_read_back n text small is = ap check_of is ∙ check_spelled (check_text n) n (check_spells n small)
