-- Numbers and costs that are written as words are read as what they are.
use Rattle.std.proofs.Common.{◌≡◌, ℕ, ◌<◌, ◌≤◌, ◌^◌, ◌&&◌, Bool, true, List, [], ◌∷◌, ◌++◌, length, Ok, refl, sym, ap, ◌∙◌, arith, inl, inr}
use Rattle.std.specs.Char.{IsAsciiDigit}
use Rattle.std.specs.Fmt.{decimal}
use Rattle.std.specs.List.{All, list_all}
use Rattle.std.specs.Str.{bytes_eq}
use Rattle.std.specs.Str.Parse.{digits_value}
use Rattle.std.proofs.lemmas.Bool.Decides.{nat_tests}
use Rattle.std.proofs.lemmas.Fmt.{decimal_is_IsNumeral, length-decimal-le}
use Rattle.std.proofs.lemmas.List.Elements.{All-head, All-tail, All-weaker}
use Rattle.std.proofs.lemmas.Slice.Eq.{bytes_eq-Decides}
use Rattle.dsd_values.specs.Reading.{cost_of, delivery_number_of, number_of}
use Rattle.dsd_values.specs.Spelling.{IsNumberCharacter}
use Rattle.dsd_values.specs.Writing.{cost_text, number_text}
use Rattle.dsd_values.proofs.Laws.{delivery_number_of_spelled}
use Rattle.dsd_values.proofs.ReadBack.{all_are, decimal_read_back, decimal_spells, number_read_back}
use Rattle.plain_lines.specs.PlainText.{unless_dash}
use Rattle.load_route.proofs.WrittenLines.{IsValueWord, all_of, is_past_dash, value_word}

-- ---- they are words

digit_past : (b : ℕ) → IsAsciiDigit b → is_past_dash b ≡ true
digit_past b h = let least : 48 ≤ b = h.0 in grind (arith, nat_tests)

digits_past : (text : List ℕ) → All IsAsciiDigit text → list_all is_past_dash text ≡ true
digits_past [] h = refl
digits_past (b ∷ text) h =
    let first : is_past_dash b ≡ true = digit_past b (All-head IsAsciiDigit b text h) in
    ap (λ (x : Bool). x && list_all is_past_dash text) first ∙ digits_past text (All-tail IsAsciiDigit b text h)

pub number_word : (n : ℕ) → n < 2 ^ 64 → IsValueWord (number_text n)
number_word n small = let is = decimal_is_IsNumeral n small in value_word (decimal n) is.0.0 (digits_past (decimal n) (all_are (decimal n) is.0.1))

some_of : (whole decimals text : List ℕ) → text ≡ whole ++ 46 ∷ decimals → 0 < length text
some_of [] decimals text is = omega (arith, ap length is)
some_of (b ∷ whole) decimals text is = omega (arith, ap length is)

pub cost_word : (cost : ℕ) → cost ≤ 999_999_999 → IsValueWord (cost_text cost)
cost_word cost most =
    let s = decimal_spells 4 999_999_999 cost most (omega arith) most in
    let whole = digits_past s.whole s.whole_digits in
    let rest = digits_past s.decimals s.decimal_digits in
    elim s.parts [
      | inl is ↦ value_word (cost_text cost) (some_of s.whole s.decimals (cost_text cost) is) (ap (list_all is_past_dash) is ∙ all_of is_past_dash s.whole (46 ∷ s.decimals) whole rest)
      | inr is ↦ value_word (cost_text cost) (omega (arith, s.filled, ap length is.0, ap length is.1)) (ap (list_all is_past_dash) is.0 ∙ whole)
    ]

-- ---- they are read again

pub number_said : (low high n : ℕ) → n < 10 ^ 15 → low ≤ n → n ≤ high → number_of low high (unless_dash (number_text n)) ≡ Ok n
number_said low high n small least most = ap (number_of low high) (number_word n (omega arith)).itself ∙ number_read_back low high n (number_text n) refl small least most

pub cost_said : (cost : ℕ) → cost ≤ 999_999_999 → cost_of (unless_dash (cost_text cost)) ≡ Ok cost
cost_said cost most = ap cost_of (cost_word cost most).itself ∙ decimal_read_back 4 999_999_999 cost (cost_text cost) refl most (omega arith) most

digit_numbers : (b : ℕ) → IsAsciiDigit b → IsNumberCharacter b
digit_numbers b h = (((omega (arith, h.0), omega (arith, h.1)), λ e. omega (arith, h.0, h.1)), λ e. omega (arith, h.0, h.1))

pub delivery_said : (n : ℕ) → n < 10 ^ 15 → delivery_number_of (unless_dash (number_text n)) ≡ Ok (number_text n)
delivery_said n small =
    let is = decimal_is_IsNumeral n (omega arith) in
    let text : List ℕ = number_text n in
    ap delivery_number_of (number_word n (omega arith)).itself
    ∙ (delivery_number_of_spelled text (delivery_number_of text) refl text).1 (record {
      same = refl;
      characters = All-weaker IsAsciiDigit IsNumberCharacter digit_numbers text (all_are text is.0.1);
      filled = is.0.0;
      short = omega (arith, length-decimal-le 15 n (omega arith) (omega arith) (omega arith));
    })

-- ---- two numbers are written apart

pub number_apart : (n other : ℕ) → n < 2 ^ 64 → other < 2 ^ 64 → bytes_eq (number_text n) (number_text other) ≡ true → n ≡ other
number_apart n other small little same =
    let text : number_text n ≡ number_text other = (bytes_eq-Decides (number_text n) (number_text other)).0 same in
    sym (decimal_is_IsNumeral n small).1 ∙ ap (digits_value 10) text ∙ (decimal_is_IsNumeral other little).1
