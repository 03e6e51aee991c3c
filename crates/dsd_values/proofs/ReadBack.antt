-- What is written spells its value, so that it is read as the same value.
use Rattle.std.proofs.Common.{◌≡◌, ◌∙◌, subst, ℕ, zero, suc, ◌+◌, ◌-◌, ◌*◌, ◌/◌, ◌%◌, ◌^◌, ◌<◌, ◌≤◌, List, [], ◌∷◌, ◌++◌, length, Ok, refl, sym, ap, inl, inr, append-nil, length-append, arith}
use Rattle.std.specs.Char.{IsAsciiDigit, digit_value}
use Rattle.std.specs.Fmt.{decimal}
use Rattle.std.specs.List.{All}
use Rattle.std.specs.Str.Parse.{AllDigits, digits_value}
use Rattle.std.proofs.lemmas.Bool.{cases_lt}
use Rattle.std.proofs.lemmas.Bool.Decides.{nat_tests}
use Rattle.std.proofs.lemmas.Fmt.{decimal_is_IsNumeral, length-decimal-le}
use Rattle.std.proofs.lemmas.List.Elements.{All-nil, All-cons}
use Rattle.dsd_values.specs.Reading.{number_of, decimal_of}
use Rattle.dsd_values.specs.Spelling.{SpellsNumber, SpellsDecimal}
use Rattle.dsd_values.specs.Writing.{decimals_text, whole_text, rest_text, decimal_text}
use Rattle.dsd_values.proofs.Decimals.{glyph_value, decimals_none, decimals_more, digit_below, rest_below, ten_pos, length-decimals_text, value-decimals_text}
use Rattle.dsd_values.proofs.Laws.{number_law}
use Rattle.dsd_values.proofs.Points.{decimal_spelled}

is_digit : (c : ℕ) → digit_value c < 10 → IsAsciiDigit c
is_digit c h = (grind (arith, nat_tests), grind (arith, nat_tests))

pub all_are : (text : List ℕ) → AllDigits 10 text → All IsAsciiDigit text
all_are [] h = All-nil IsAsciiDigit
all_are (c ∷ cs) h = All-cons IsAsciiDigit c cs (is_digit c h.0) (all_are cs h.1)

-- ---- whole numbers

pub number_spells : (low high n : ℕ) → low ≤ n → n ≤ high → n < 10 ^ 15 → SpellsNumber low high n (decimal n)
number_spells low high n least most small =
    let numeral = decimal_is_IsNumeral n (omega arith) in
    record {
      filled = numeral.0.0;
      short = length-decimal-le 15 n (omega arith) (omega arith) (omega arith);
      digits = all_are (decimal n) numeral.0.1;
      value = numeral.1;
      at_least = least;
      at_most = most;
    }

pub number_read_back : (low high n : ℕ) (text : List ℕ) → text ≡ decimal n → n < 10 ^ 15 → low ≤ n → n ≤ high → number_of low high text ≡ Ok n
number_read_back low high n text is small least most = ap (number_of low high) is ∙ (number_law low high (decimal n) n).1 (number_spells low high n least most small)

-- ---- numbers with a point

abbrev IsWhole : ℕ → List ℕ → Type 0
IsWhole w text = All IsAsciiDigit text × (digits_value 10 text ≡ w) × (length text ≤ 9)

decimal_whole : (w : ℕ) → w ≤ 999_999_999 → IsWhole w (decimal w) × (0 < length (decimal w))
decimal_whole w most =
    let n = decimal_is_IsNumeral w (omega arith) in
    ((all_are (decimal w) n.0.1, n.1, length-decimal-le 9 w (omega arith) (omega arith) (omega arith)), n.0.0)

whole_none : (w r : ℕ) → w ≡ 0 → 0 < r → whole_text w r ≡ []
whole_none w r e some = grind (arith, nat_tests)

whole_some : (w r : ℕ) → 0 < w → whole_text w r ≡ decimal w
whole_some w r some = grind (arith, nat_tests)

whole_alone : (w : ℕ) → whole_text w 0 ≡ decimal w
whole_alone w = grind (arith, nat_tests)

rest_some : (places r : ℕ) → 0 < r → rest_text places r ≡ 46 ∷ decimals_text places r
rest_some places r some = grind (arith, nat_tests)

whole_facts : (w r : ℕ) → w ≤ 999_999_999 → 0 < r → IsWhole w (whole_text w r)
whole_facts w r most some =
    elim (cases_lt 0 w) [
      | inl front ↦ rw (whole_some w r front) ((decimal_whole w most).0)
      | inr none ↦
          let zero_is : w ≡ 0 = omega arith in
          rw (whole_none w r zero_is some) (All-nil IsAsciiDigit, sym zero_is, omega arith)
    ]

decimals_digits : (k n : ℕ) → n < 10 ^ k → AllDigits 10 (decimals_text k n)
decimals_digits zero n under = rw (decimals_none 0 n (omega arith)) tt
decimals_digits (suc k) n under =
    elim (cases_lt 0 n) [
      | inl some ↦
          let next : suc k ≡ k + 1 = omega arith in
          let small = digit_below (suc k) k n next under in
          let glyph : digit_value (48 + n / 10 ^ k) < 10 = omega (arith, glyph_value (n / 10 ^ k) small) in
          let rest = decimals_digits k (n % 10 ^ k) (rest_below k n) in
          rw (decimals_more (suc k) k n next some) (glyph, rest)
      | inr none ↦ rw (decimals_none (suc k) n (omega arith)) tt
    ]

some_decimals : (k n : ℕ) → n < 10 ^ k → 0 < n → 0 < length (decimals_text k n)
some_decimals zero n under some = absurd (omega arith)
some_decimals (suc k) n under some =
    let next : suc k ≡ k + 1 = omega arith in
    rw (decimals_more (suc k) k n next some) (omega arith)

joined_units : (places v : ℕ) → v / 10 ^ places * 10 ^ places + v % 10 ^ places ≡ v
joined_units places v = let p : 0 < 10 ^ places = ten_pos places in omega arith

quotient_le : (places v : ℕ) → v ≤ 999_999_999 → v / 10 ^ places ≤ 999_999_999
quotient_le places v most = let p : 0 < 10 ^ places = ten_pos places in omega arith

-- decimals follow
pointed : (places high v : ℕ) → v ≤ 999_999_999 → v ≤ high → places ≤ 4 → 0 < v % 10 ^ places → SpellsDecimal places high v (whole_text (v / 10 ^ places) (v % 10 ^ places) ++ 46 ∷ decimals_text places (v % 10 ^ places))
pointed places high v small most few some =
    let w : List ℕ = whole_text (v / 10 ^ places) (v % 10 ^ places) in
    let d : List ℕ = decimals_text places (v % 10 ^ places) in
    let under = rest_below places v in
    let front = whole_facts (v / 10 ^ places) (v % 10 ^ places) (quotient_le places v small) some in
    let four = length-decimals_text places (v % 10 ^ places) in
    let there = some_decimals places (v % 10 ^ places) under some in
    let long = length-append w (46 ∷ d) in
    let short = front.2 in
    let all = joined_units places v in
    record {
      whole = w;
      decimals = d;
      parts = inl refl;
      whole_digits = front.0;
      decimal_digits = all_are d (decimals_digits places (v % 10 ^ places) under);
      filled = omega arith;
      short = omega arith;
      few = four;
      value = ap (λ x. x * 10 ^ places + digits_value 10 d * 10 ^ (places - length d)) front.1
          ∙ ap (λ x. v / 10 ^ places * 10 ^ places + x) (value-decimals_text places (v % 10 ^ places) 0 under)
          ∙ omega arith;
      at_most = most;
    }

-- none follow
alone : (places high v : ℕ) → v ≤ 999_999_999 → v ≤ high → v % 10 ^ places ≡ 0 → SpellsDecimal places high v (decimal (v / 10 ^ places))
alone places high v small most none =
    let n = decimal_whole (v / 10 ^ places) (quotient_le places v small) in
    let short = n.0.2 in
    let all = joined_units places v in
    record {
      whole = decimal (v / 10 ^ places);
      decimals = [];
      parts = inr (refl, refl);
      whole_digits = n.0.0;
      decimal_digits = All-nil IsAsciiDigit;
      filled = omega (arith, n.1);
      short = omega arith;
      few = omega arith;
      value = ap (λ x. x * 10 ^ places + 0 * 10 ^ (places - 0)) n.0.1 ∙ omega arith;
      at_most = most;
    }

pub decimal_spells : (places high v : ℕ) → v ≤ 999_999_999 → places ≤ 4 → v ≤ high → SpellsDecimal places high v (decimal_text places v)
decimal_spells places high v small few most =
    elim (cases_lt 0 (v % 10 ^ places)) [
      | inl some ↦
          let text : decimal_text places v ≡ whole_text (v / 10 ^ places) (v % 10 ^ places) ++ 46 ∷ decimals_text places (v % 10 ^ places) =
          ap (λ t. whole_text (v / 10 ^ places) (v % 10 ^ places) ++ t) (rest_some places (v % 10 ^ places) some) in
          subst (SpellsDecimal places high v) (sym text) (pointed places high v small most few some)
      | inr none ↦
          let zero_is : v % 10 ^ places ≡ 0 = omega arith in
          let text : decimal_text places v ≡ decimal (v / 10 ^ places) =
          ap (λ r. whole_text (v / 10 ^ places) r ++ rest_text places r) zero_is
          ∙ append-nil (whole_text (v / 10 ^ places) 0) ∙ whole_alone (v / 10 ^ places) in
          subst (SpellsDecimal places high v) (sym text) (alone places high v small most zero_is)
    ]

pub decimal_read_back : (places high v : ℕ) (text : List ℕ) → text ≡ decimal_text places v → v ≤ 999_999_999 → places ≤ 4 → v ≤ high → decimal_of places high text ≡ Ok v
decimal_read_back places high v text is small few most = ap (decimal_of places high) is ∙ decimal_spelled places high (decimal_text places v) v (decimal_spells places high v small few most)
