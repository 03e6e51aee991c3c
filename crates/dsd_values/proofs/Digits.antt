-- Texts of digits, and their numbers.
use Rattle.std.proofs.Common.{◌≡◌, ℕ, ◌+◌, ◌-◌, ◌*◌, ◌^◌, ◌<◌, ◌≤◌, Bool, true, false, List, length, get_or, take, position, Some, None, suc, add-one, lit<, sym, ◌∙◌, ap, inl, inr, arith}
use Rattle.std.proofs.Math.Nat.{pow-suc, pow-le-pow_right}
use Rattle.std.specs.Char.{IsAsciiDigit, digit_value, is_ascii_digit}
use Rattle.std.specs.List.{position_or_len}
use Rattle.std.proofs.lemmas.Bool.{cases_lt, false≢true}
use Rattle.std.proofs.lemmas.Bool.Decides.{nat_tests}
use Rattle.std.specs.Str.Parse.{digits_value}
use Rattle.std.proofs.lemmas.Int.Digits.{digits_value_more}
use Rattle.std.proofs.lemmas.List.Sums.{fails_before_first, passes_at_first}
use Rattle.dsd_values.specs.Reading.{is_no_digit}

-- no byte passes before the end
pub none_all : (p : ℕ → Bool) (text : List ℕ) → position p text ≡ None → length text ≤ position_or_len p text
none_all p text none = grind (arith, nat_tests)

-- the first i fail and the next passes: it is the first
pub first_is : (p : ℕ → Bool) (text : List ℕ) (i : ℕ) → i < length text → i ≤ position_or_len p text → p (get_or text i 0) ≡ true → position p text ≡ Some i
first_is p text i here so_far passes =
    elim (cases_lt i (position_or_len p text)) [
      | inl further ↦ absurd (false≢true (sym (fails_before_first p text i 0 further) ∙ passes))
      | inr there ↦ let is : position_or_len p text ≡ i = omega arith in grind (arith, nat_tests)
    ]

-- the first i fail and the next too
pub first_after : (p : ℕ → Bool) (text : List ℕ) (i : ℕ) → i < length text → i ≤ position_or_len p text → p (get_or text i 0) ≡ false → i + 1 ≤ position_or_len p text
first_after p text i here so_far fails =
    elim (cases_lt i (position_or_len p text)) [
      | inl further ↦ omega arith
      | inr there ↦
          let is : position_or_len p text ≡ i = omega arith in
          let within : position_or_len p text < length text = omega arith in
          absurd (false≢true (sym fails ∙ ap (λ k. p (get_or text k 0)) (sym is) ∙ passes_at_first p text 0 within))
    ]

pub digit_range : (c : ℕ) → is_ascii_digit c ≡ true → (48 ≤ c) × (c ≤ 57) × (digit_value c ≡ c - 48) × (is_no_digit c ≡ false)
digit_range c h = grind (arith, nat_tests)

-- one more digit, among at most fifteen
pub one_more : (n d i : ℕ) → n < 10 ^ i → d < 10 → i < 15 → (n * 10 + d < 10 ^ (i + 1)) × (n * 10 + d < 10 ^ 15)
one_more n d i under digit short =
    let e : 10 ^ suc i ≡ 10 ^ i * 10 = pow-suc 10 i in
    let here : n * 10 + d < 10 ^ (i + 1) = rw (add-one, e) (omega arith) in
    let far : i + 1 ≤ 15 = omega arith in
    let most : 10 ^ (i + 1) ≤ 10 ^ 15 = pow-le-pow_right (lit< tt) far in
    (here, omega arith)

-- a number of so many digits, at most fifteen
pub below_fifteen : (n i : ℕ) → n < 10 ^ i → i ≤ 15 → n < 10 ^ 15
below_fifteen n i under short =
    let most : 10 ^ i ≤ 10 ^ 15 = pow-le-pow_right (lit< tt) short in omega arith

-- what one more digit of a text makes of the number so far
pub record Next (text : List ℕ) (n v i : ℕ) : Type 0 where
  pub value : n * 10 + v ≡ digits_value 10 (take (i + 1) text)
  pub under : n * 10 + v < 10 ^ (i + 1)
  pub digits : i + 1 ≤ position_or_len is_no_digit text
  pub small : n * 10 + v < 10 ^ 15

pub next_digit : (text : List ℕ) (n v i : ℕ) → i < length text → length text ≤ 15 → is_ascii_digit (get_or text i 0) ≡ true → v ≡ get_or text i 0 - 48 → n ≡ digits_value 10 (take i text) → n < 10 ^ i → i ≤ position_or_len is_no_digit text → Next text n v i
next_digit text n v i here short is_digit is value under digits =
    let d : (48 ≤ get_or text i 0) × (get_or text i 0 ≤ 57) × (digit_value (get_or text i 0) ≡ get_or text i 0 - 48) × (is_no_digit (get_or text i 0) ≡ false) = digit_range (get_or text i 0) is_digit in
    let low : v < 10 = omega arith in
    let far : i < 15 = omega arith in
    let more = digits_value_more 10 text i here in
    let both = one_more n v i under low far in
    record {
      value = rw (is, value) (ap (λ x. digits_value 10 (take i text) * 10 + x) (sym d.2) ∙ sym more);
      under = both.0;
      digits = first_after is_no_digit text i here digits d.3;
      small = both.1;
    }

-- ---- the test of a digit, and the fact

pub digit_passes : (b : ℕ) → is_no_digit b ≡ false → IsAsciiDigit b
digit_passes b h = (grind (arith, nat_tests), grind (arith, nat_tests))

pub digit_fails : (b : ℕ) → IsAsciiDigit b → is_no_digit b ≡ false
digit_fails b h = grind (arith, nat_tests)

pub digit_low : (b : ℕ) → IsAsciiDigit b → digit_value b < 10
digit_low b h = grind (arith, nat_tests)
