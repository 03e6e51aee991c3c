-- Levels of two digits.
use Rattle.std.proofs.Common.{◌≡◌, ℕ, ◌+◌, ◌-◌, ◌*◌, ◌<◌, ◌≤◌, ◌&&◌, ◌==◌, Bool, true, false, not, [], ◌∷◌, Ok, refl, arith}
use Rattle.std.specs.Char.{digit_value, is_ascii_digit}
use Rattle.std.specs.Str.Parse.{digits_value}
use Rattle.std.proofs.lemmas.Bool.Decides.{nat_tests}
use Rattle.dsd_values.proofs.Laws.{number_spelled}
use Rattle.dsd_values.specs.Reading.{level_of}
use Rattle.dsd_values.specs.declared.level.TheConstants.Level.{MAX as HIGHEST_LEVEL}
use Rattle.adjustment_895.specs.HeadTable.{is_past_levels}

value_of : (first second : ℕ) → digits_value 10 (first ∷ second ∷ []) ≡ digit_value first * 10 + digit_value second
value_of first second = omega arith

digit_is : (byte : ℕ) → is_ascii_digit byte ≡ true → (48 ≤ byte) × (digit_value byte ≡ byte - 48)
digit_is byte e = (grind (arith, nat_tests), grind (arith, nat_tests))

-- a first digit that is not 0 makes ten at least
ten : (first second : ℕ) → is_ascii_digit first ≡ true → (first == 48) ≡ false → 10 ≤ digits_value 10 (first ∷ second ∷ [])
ten first second e other =
    let d = digit_is first e in
    let low : 48 ≤ first = d.0 in
    let value : digit_value first ≡ first - 48 = d.1 in
    let apart : 48 < first = grind (arith, nat_tests) in
    omega (arith, value_of first second, value, apart)

not_both : (a b c : Bool) → (a ≡ true → c ≡ true → ⊥) → (a && b && c) ≡ false
not_both false b c h = refl
not_both true false c h = refl
not_both true true false h = refl
not_both true true true h = absurd (h refl refl)

-- two digits that a level spells begin with a 0
pub small_levels : (first second level : ℕ) → level_of (first ∷ second ∷ []) ≡ Ok level → is_past_levels (first ∷ second ∷ []) ≡ false
small_levels first second level e =
    let s = (number_spelled 0 HIGHEST_LEVEL (first ∷ second ∷ []) (level_of (first ∷ second ∷ [])) refl level).0 e in
    let value : digits_value 10 (first ∷ second ∷ []) ≡ level = s.value in
    let most : level ≤ 9 = s.at_most in
    not_both (is_ascii_digit first) (is_ascii_digit second) (not (first == 48))
    (λ a c. let other : (first == 48) ≡ false = negated (first == 48) c in absurd (omega (arith, ten first second a other, value, most)))
  where
    negated : (b : Bool) → not b ≡ true → b ≡ false
    negated true e = cc
    negated false e = refl
