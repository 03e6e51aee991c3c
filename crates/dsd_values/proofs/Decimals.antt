-- What the writers' texts are, and that they are read back.
use Rattle.std.proofs.Common.{◌≡◌, ℕ, zero, suc, ◌+◌, ◌-◌, ◌*◌, ◌/◌, ◌%◌, ◌^◌, ◌<◌, ◌≤◌, List, [], ◌∷◌, length, true, false, cond, nat_eq, lit<, inl, inr, refl, ap, arith}
use Rattle.std.proofs.Math.Nat.{pow-suc, one-le-pow, mul-div-le, div-le_self, lt_of_mul-lt-mul_left}
use Rattle.std.specs.Char.{digit_value}
use Rattle.std.specs.Fmt.{decimal}
use Rattle.std.specs.Str.Parse.{digits_value_after}
use Rattle.std.proofs.lemmas.Bool.{cases_lt}
use Rattle.std.proofs.lemmas.Bool.Decides.{nat_tests}
use Rattle.std.proofs.lemmas.Fmt.{length-decimal-le}
use Rattle.dsd_values.specs.Writing.{decimals_text}

pub ten_pos : (k : ℕ) → 0 < 10 ^ k
ten_pos k = one-le-pow k 10 (lit< tt)

pub decimals_none : (k n : ℕ) → n ≡ 0 → decimals_text k n ≡ []
unfolding decimals_text
decimals_none zero n e = refl
decimals_none (suc k) n e = rw e refl

pub decimals_more : (k j n : ℕ) → k ≡ j + 1 → 0 < n → decimals_text k n ≡ (48 + n / 10 ^ j) ∷ decimals_text j (n % 10 ^ j)
unfolding decimals_text
decimals_more zero j n e some = absurd (omega arith)
decimals_more (suc k) j n e some = let same : k ≡ j = omega arith in rw same (grind (arith, nat_tests))

pub digit_below : (k j n : ℕ) → k ≡ j + 1 → n < 10 ^ k → n / 10 ^ j < 10
digit_below k j n e under =
    let s : 10 ^ suc j ≡ 10 ^ j * 10 = pow-suc 10 j in
    let k_is : k ≡ suc j = omega arith in
    let wide : 10 ^ k ≡ 10 ^ j * 10 = rw k_is s in
    let front : 10 ^ j * (n / 10 ^ j) ≤ n = mul-div-le n (10 ^ j) in
    let less : 10 ^ j * (n / 10 ^ j) < 10 ^ j * 10 = omega arith in
    lt_of_mul-lt-mul_left (10 ^ j) less

pub rest_below : (j n : ℕ) → n % 10 ^ j < 10 ^ j
rest_below j n = let p : 0 < 10 ^ j = ten_pos j in omega arith

pub length-decimals_text : (k n : ℕ) → length (decimals_text k n) ≤ k
unfolding decimals_text
length-decimals_text zero n = omega arith
length-decimals_text (suc k) n = elim (nat_eq n 0) as (λ b. length (cond b [] ((48 + n / 10 ^ k) ∷ decimals_text k (n % 10 ^ k))) ≤ suc k) [ true ↦ omega arith | false ↦ omega (arith, length-decimals_text k (n % 10 ^ k)) ]

pub short_quotient : (v u : ℕ) → v ≤ 999_999_999 → length (decimal (v / u)) ≤ 9
short_quotient v u most =
    let less : v / u ≤ v = div-le_self v u in
    length-decimal-le 9 (v / u) (omega arith) (omega arith) (omega arith)

pub short_decimal : (n : ℕ) → n < 10 ^ 15 → length (decimal n) ≤ 15
short_decimal n small = length-decimal-le 15 n (omega arith) (omega arith) (omega arith)

pub glyph_value : (d : ℕ) → d < 10 → digit_value (48 + d) ≡ d
glyph_value d small = grind (arith, nat_tests)

after_glyph : (m d : ℕ) (ds : List ℕ) → d < 10 → digits_value_after 10 m ((48 + d) ∷ ds) ≡ digits_value_after 10 (m * 10 + d) ds
after_glyph m d ds small = ap (λ v. digits_value_after 10 (m * 10 + v) ds) (glyph_value d small)

-- read from the left after the number m, the text gives m and n at k places
pub value-decimals_text : (k n m : ℕ) → n < 10 ^ k → digits_value_after 10 m (decimals_text k n) * 10 ^ (k - length (decimals_text k n)) ≡ m * 10 ^ k + n
value-decimals_text zero n m under = rw (decimals_none 0 n (omega arith)) (omega arith)
value-decimals_text (suc k) n m under =
    elim (cases_lt 0 n) [
      | inl some ↦
          let next : suc k ≡ k + 1 = omega arith in
          let d : n / 10 ^ k < 10 = digit_below (suc k) k n next under in
          let g = after_glyph m (n / 10 ^ k) (decimals_text k (n % 10 ^ k)) d in
          let p : 0 < 10 ^ k = ten_pos k in
          let ih = value-decimals_text k (n % 10 ^ k) (m * 10 + n / 10 ^ k) (rest_below k n) in
          let less : suc k - suc (length (decimals_text k (n % 10 ^ k))) ≡ k - length (decimals_text k (n % 10 ^ k)) = omega arith in
          rw (decimals_more (suc k) k n next some, g, less, ih, pow-suc 10 k) (omega arith)
      | inr none ↦
          let zero_is : n ≡ 0 = omega arith in
          let all : suc k - 0 ≡ suc k = omega arith in
          let plain : m * 10 ^ suc k ≡ m * 10 ^ suc k + n = omega arith in
          rw (decimals_none (suc k) n zero_is, all) plain
    ]
