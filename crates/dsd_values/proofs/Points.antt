-- Texts of digits with a point, by their parts.
use Rattle.std.proofs.Common.{◌≡◌, ◌∙◌, ℕ, ◌+◌, ◌-◌, ◌*◌, ◌^◌, ◌<◌, ◌≤◌, Bool, true, false, cond, List, [], ◌∷◌, ◌++◌, length, take, drop, get_or, position, Option, Some, None, Result, Ok, refl, sym, ap, inl, inr, add-zero, append-nil, length-append, drop-drop, arith}
use Rattle.std.proofs.Math.Seq.{take-append_seam, drop-append_seam, take-length, drop-length}
use Rattle.std.proofs.Math.ListN.{drop_of_length-le}
use Rattle.std.specs.Char.{IsAsciiDigit, is_ascii_digit}
use Rattle.std.specs.List.{All, position_or_len, list_any}
use Rattle.std.specs.Option.{option_or, option_map}
use Rattle.std.specs.Str.Parse.{digits_value}
use Rattle.std.proofs.lemmas.Bool.{cases_lt, false≢true}
use Rattle.std.proofs.lemmas.Bool.Decides.{nat_tests}
use Rattle.std.proofs.lemmas.List.{take_all}
use Rattle.std.proofs.lemmas.List.Elements.{All-head, All-tail}
use Rattle.std.proofs.lemmas.List.Sums.{passes_at_first, split_at_first}
use Rattle.dsd_values.specs.Reading.{is_no_digit, is_point, whole_part, decimal_part, outside_parts, decimal_outside, decimal_value, few_decimals, within, decimal_of}
use Rattle.dsd_values.specs.Spelling.{HasParts, SpellsDecimal}
use Rattle.dsd_values.specs.declared.fault.ValueFault.{ValueFault}
use Rattle.dsd_values.proofs.Refusals.{filled_ok, filled_gives, within_ok, within_gives, all_pass, none_outside}
use Rattle.dsd_values.proofs.Digits.{digit_passes, digit_fails}

digit_facts : (c : ℕ) → IsAsciiDigit c → (is_point c ≡ false) × (is_ascii_digit c ≡ true)
digit_facts c h = (grind (arith, nat_tests), grind (arith, nat_tests))

past_digits : (w ys : List ℕ) → All IsAsciiDigit w → position_or_len is_point (w ++ ys) ≡ length w + position_or_len is_point ys
past_digits [] ys h = omega arith
past_digits (c ∷ cs) ys h =
    let d = digit_facts c (All-head IsAsciiDigit c cs h) in
    let ih = past_digits cs ys (All-tail IsAsciiDigit c cs h) in
    rw d.0 (omega arith)

-- ---- the parts of a text are those that it is made of

module _ (w d : List ℕ) (hw : All IsAsciiDigit w) where
  point_at : position_or_len is_point (w ++ 46 ∷ d) ≡ length w
  point_at = past_digits w (46 ∷ d) hw ∙ add-zero (length w)

  whole_is : whole_part (w ++ 46 ∷ d) ≡ w
  whole_is = ap (λ n. take n (w ++ 46 ∷ d)) point_at ∙ take-append_seam w (46 ∷ d)

  decimals_are : decimal_part (w ++ 46 ∷ d) ≡ d
  decimals_are =
      ap (λ n. drop (n + 1) (w ++ 46 ∷ d)) point_at
      ∙ sym (drop-drop 1 (length w) (w ++ 46 ∷ d)) ∙ ap (drop 1) (drop-append_seam w (46 ∷ d))

module _ (w : List ℕ) (hw : All IsAsciiDigit w) where
  no_point : position_or_len is_point w ≡ length w
  no_point = ap (position_or_len is_point) (sym (append-nil w)) ∙ past_digits w [] hw ∙ add-zero (length w)

  whole_all : whole_part w ≡ w
  whole_all = ap (λ n. take n w) no_point ∙ take-length w

  decimals_empty : decimal_part w ≡ []
  decimals_empty = ap (λ n. drop (n + 1) w) no_point ∙ sym (drop-drop 1 (length w) w) ∙ ap (drop 1) (drop-length w)

parts_are : (w d text : List ℕ) → All IsAsciiDigit w → HasParts w d text → (whole_part text ≡ w) × (decimal_part text ≡ d)
parts_are w d text hw (inl pointed) = (ap whole_part pointed ∙ whole_is w d hw, ap decimal_part pointed ∙ decimals_are w d hw)
parts_are w d text hw (inr plain) = (ap whole_part plain.0 ∙ whole_all w hw, ap decimal_part plain.0 ∙ decimals_empty w hw ∙ sym plain.1)

-- a text has the parts that are read of it
point_is : (b : ℕ) → is_point b ≡ true → b ≡ 46
point_is b h = grind (arith, nat_tests)

has_parts : (text : List ℕ) → HasParts (whole_part text) (decimal_part text) text
has_parts text =
    elim (cases_lt (position_or_len is_point text) (length text)) [
      | inl there ↦
          let at : get_or text (position_or_len is_point text) 0 ≡ 46 = point_is (get_or text (position_or_len is_point text) 0) (passes_at_first is_point text 0 there) in
          inl (split_at_first is_point text 0 there ∙ ap (λ b. whole_part text ++ b ∷ decimal_part text) at)
      | inr none ↦ let far : length text ≤ position_or_len is_point text + 1 = omega arith in
          inr (sym (take_all (position_or_len is_point text) text none), drop_of_length-le text far)
    ]

-- ---- a digit, and no byte that may not stand

digit_there : (w ys : List ℕ) → All IsAsciiDigit w → 0 < length w → list_any is_ascii_digit (w ++ ys) ≡ true
digit_there [] ys h some = absurd (omega arith)
digit_there (c ∷ cs) ys h some = rw (digit_facts c (All-head IsAsciiDigit c cs h)).1 refl

digit_behind : (w d : List ℕ) → list_any is_ascii_digit d ≡ true → list_any is_ascii_digit (w ++ 46 ∷ d) ≡ true
digit_behind [] d h = h
digit_behind (c ∷ cs) d h = let ih = digit_behind cs d h in grind (arith, nat_tests, ih)

some_digit : (w d text : List ℕ) → All IsAsciiDigit w → All IsAsciiDigit d → HasParts w d text → 0 < length w + length d → list_any is_ascii_digit text ≡ true
some_digit [] d text hw hd (inl pointed) some =
    let behind : list_any is_ascii_digit d ≡ true = ap (list_any is_ascii_digit) (sym (append-nil d)) ∙ digit_there d [] hd (omega arith) in
    ap (list_any is_ascii_digit) pointed ∙ digit_behind [] d behind
some_digit (c ∷ cs) d text hw hd (inl pointed) some = ap (list_any is_ascii_digit) pointed ∙ digit_there (c ∷ cs) (46 ∷ d) hw (omega arith)
some_digit w d text hw hd (inr plain) some =
    let empty : length d ≡ 0 = ap length plain.1 in
    ap (list_any is_ascii_digit) (plain.0 ∙ sym (append-nil w)) ∙ digit_there w [] hw (omega arith)

no_digit : (w d text : List ℕ) → HasParts w d text → length w + length d ≡ 0 → list_any is_ascii_digit text ≡ false
no_digit [] [] text (inl pointed) none = rw pointed refl
no_digit [] [] text (inr plain) none = rw plain.0 refl
no_digit (c ∷ cs) d text parts none = absurd (omega arith)
no_digit [] (c ∷ cs) text parts none = absurd (omega arith)

some_of : (w d text : List ℕ) → HasParts w d text → list_any is_ascii_digit text ≡ true → 0 < length w + length d
some_of w d text parts there =
    elim (cases_lt 0 (length w + length d)) [
      | inl some ↦ some
      | inr none ↦ absurd (false≢true (sym (no_digit w d text parts (omega arith)) ∙ there))
    ]

some_byte : (w d text : List ℕ) → HasParts w d text → 0 < length w + length d → 0 < length text
some_byte w d text (inl pointed) some = rw pointed (omega (arith, length-append {A = ℕ}))
some_byte w d text (inr plain) some =
    let empty : length d ≡ 0 = ap length plain.1 in rw plain.0 (omega arith)

outside_none : (some : Bool) (a b : Option ℕ) (n : ℕ) → cond some (option_or a (option_map (λ i. n + 1 + i) b)) (Some 0) ≡ None → (some ≡ true) × (a ≡ None) × (b ≡ None)
outside_none true None None n e = (refl, refl, refl)
outside_none true None (Some j) n e = absurd (cc)
outside_none true (Some i) b n e = absurd (cc)
outside_none false a b n e = absurd (cc)

-- ---- the law

few_ok : (places : ℕ) (text : List ℕ) (value : Result ℕ ValueFault) (v : ℕ) → few_decimals places text value ≡ Ok v → (length (decimal_part text) ≤ places) × (value ≡ Ok v)
few_ok places text value v e = (grind (arith, nat_tests), grind (arith, nat_tests))

few_gives : (places : ℕ) (text : List ℕ) (value : Result ℕ ValueFault) → length (decimal_part text) ≤ places → few_decimals places text value ≡ value
few_gives places text value few = grind (arith, nat_tests)

module _ (places high : ℕ) (text : List ℕ) (n : ℕ) where
  abbrev parsed : Result ℕ ValueFault
  parsed = few_decimals places text (within 0 high (decimal_value places text))

  pub decimal_read : decimal_of places high text ≡ Ok n → SpellsDecimal places high n text
  unfolding decimal_value
  decimal_read e =
      let h = filled_ok ℕ 15 (decimal_outside text) text parsed n e in
      let bytes = outside_none (list_any is_ascii_digit text) (position is_no_digit (whole_part text)) (position is_no_digit (decimal_part text)) (length (whole_part text)) h.none in
      let few = few_ok places text (within 0 high (decimal_value places text)) n h.is in
      let in_range = within_ok 0 high (decimal_value places text) n few.1 in
      let parts = has_parts text in
      record {
        whole = whole_part text;
        decimals = decimal_part text;
        parts = parts;
        whole_digits = all_pass is_no_digit IsAsciiDigit digit_passes (whole_part text) bytes.1;
        decimal_digits = all_pass is_no_digit IsAsciiDigit digit_passes (decimal_part text) bytes.2;
        filled = some_of (whole_part text) (decimal_part text) text parts bytes.0;
        short = h.short;
        few = few.0;
        value = in_range.0;
        at_most = in_range.2;
      }

  pub decimal_spelled : SpellsDecimal places high n text → decimal_of places high text ≡ Ok n
  unfolding decimal_value
  decimal_spelled s =
      let are = parts_are s.whole s.decimals text s.whole_digits s.parts in
      let there = some_digit s.whole s.decimals text s.whole_digits s.decimal_digits s.parts s.filled in
      let none : decimal_outside text ≡ None =
      ap (λ b. cond b (outside_parts (whole_part text) (decimal_part text)) (Some 0)) there
      ∙ ap (λ x. outside_parts x (decimal_part text)) are.0 ∙ ap (outside_parts s.whole) are.1
      ∙ ap (λ o. option_or o (option_map (λ i. length s.whole + 1 + i) (position is_no_digit s.decimals))) (none_outside is_no_digit IsAsciiDigit digit_fails s.whole s.whole_digits)
      ∙ ap (λ o. option_map (λ i. length s.whole + 1 + i) o) (none_outside is_no_digit IsAsciiDigit digit_fails s.decimals s.decimal_digits) in
      let value : decimal_value places text ≡ n =
      ap (λ x. digits_value 10 x * 10 ^ places + digits_value 10 (decimal_part text) * 10 ^ (places - length (decimal_part text))) are.0
      ∙ ap (λ x. digits_value 10 s.whole * 10 ^ places + digits_value 10 x * 10 ^ (places - length x)) are.1
      ∙ s.value in
      let few : length (decimal_part text) ≤ places = rw are.1 s.few in
      filled_gives ℕ 15 (decimal_outside text) text parsed (some_byte s.whole s.decimals text s.parts s.filled) s.short none
      ∙ few_gives places text (within 0 high (decimal_value places text)) few
      ∙ within_gives 0 high (decimal_value places text) n value (omega arith) s.at_most
