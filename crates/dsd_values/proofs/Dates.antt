-- Eight digits as a day.
use Rattle.std.proofs.Common.{◌≡◌, ◌∙◌, ◌&&◌, ℕ, ℤ, ◌+◌, ◌*◌, ◌/◌, ◌%◌, ◌<◌, ◌≤◌, nat_le, Bool, true, false, List, [], ◌∷◌, ◌++◌, length, take, drop, position, Ok, Err, pos, refl, sym, ap, arith}
use Rattle.std.specs.Char.{IsAsciiDigit, digit_value}
use Rattle.std.specs.List.{All}
use Rattle.std.specs.Str.Parse.{digits_value}
use Rattle.std.proofs.lemmas.List.Elements.{All-nil, All-cons}
use Rattle.dsd_values.specs.Writing.{two_digits, day_text}
use Rattle.std.proofs.lemmas.Bool.{and_parts}
use Rattle.std.proofs.lemmas.Bool.Decides.{nat_tests}
use Rattle.std.specs.Prelude.{if◌then◌else◌}
use Rattle.std.proofs.lemmas.Int.{ints}
use Rattle.dsd_values.specs.declared.fault.ValueFault.TheVariants.{NoSuchDay}
use Rattle.jiff_core.specs.Calendar.{IsDate, days_in_month}
use Rattle.dsd_values.specs.Reading.{is_no_digit, complete}
use Rattle.dsd_values.specs.Calendar.{Date, is_date, date_at, date_numbered, day_of}
use Rattle.dsd_values.specs.Spelling.{SpellsDay}
use Rattle.dsd_values.proofs.Digits.{digit_low, digit_passes, digit_fails}
use Rattle.dsd_values.proofs.Refusals.{filled_ok, filled_gives, complete_ok, complete_gives, all_pass, none_outside}

-- the parts of a number of eight digits
parts_of_eight : (a b c d e f g h n : ℕ) → e < 10 → f < 10 → g < 10 → h < 10 → n ≡ ((((((a * 10 + b) * 10 + c) * 10 + d) * 10 + e) * 10 + f) * 10 + g) * 10 + h → (n / 10_000 ≡ ((a * 10 + b) * 10 + c) * 10 + d) × (n / 100 % 100 ≡ e * 10 + f) × (n % 100 ≡ g * 10 + h)
parts_of_eight a b c d e f g h n le lf lg lh is = (omega arith, omega arith, omega arith)

two : (a b : ℕ) → digit_value a * 10 + digit_value b ≡ digits_value 10 (a ∷ b ∷ [])
two a b = omega arith

pub record Parts (text : List ℕ) : Type 0 where
  pub year : digits_value 10 text / 10_000 ≡ digits_value 10 (take 4 text)
  pub month : digits_value 10 text / 100 % 100 ≡ digits_value 10 (take 2 (drop 4 text))
  pub day : digits_value 10 text % 100 ≡ digits_value 10 (drop 6 text)

pub parts_of : (text : List ℕ) → length text ≡ 8 → All IsAsciiDigit text → Parts text
parts_of (a ∷ b ∷ c ∷ d ∷ e ∷ f ∷ g ∷ h ∷ []) eight digits =
    let le : digit_value e < 10 = digit_low e (digits 4 0 (omega arith)) in
    let lf : digit_value f < 10 = digit_low f (digits 5 0 (omega arith)) in
    let lg : digit_value g < 10 = digit_low g (digits 6 0 (omega arith)) in
    let lh : digit_value h < 10 = digit_low h (digits 7 0 (omega arith)) in
    let parts = parts_of_eight (digits_value 10 (a ∷ [])) (digit_value b) (digit_value c) (digit_value d) (digit_value e) (digit_value f) (digit_value g) (digit_value h) (digits_value 10 (a ∷ b ∷ c ∷ d ∷ e ∷ f ∷ g ∷ h ∷ [])) le lf lg lh refl in
    record { year = parts.0; month = parts.1 ∙ two e f; day = parts.2 ∙ two g h }
parts_of [] eight digits = absurd (omega arith)
parts_of (a ∷ []) eight digits = absurd (omega arith)
parts_of (a ∷ b ∷ []) eight digits = absurd (omega arith)
parts_of (a ∷ b ∷ c ∷ []) eight digits = absurd (omega arith)
parts_of (a ∷ b ∷ c ∷ d ∷ []) eight digits = absurd (omega arith)
parts_of (a ∷ b ∷ c ∷ d ∷ e ∷ []) eight digits = absurd (omega arith)
parts_of (a ∷ b ∷ c ∷ d ∷ e ∷ f ∷ []) eight digits = absurd (omega arith)
parts_of (a ∷ b ∷ c ∷ d ∷ e ∷ f ∷ g ∷ []) eight digits = absurd (omega arith)
parts_of (a ∷ b ∷ c ∷ d ∷ e ∷ f ∷ g ∷ h ∷ i ∷ more) eight digits = absurd (omega arith)

-- ---- the test of a date, and the fact

below : (a b : ℕ) → nat_le a b ≡ true → a ≤ b
below a b h = grind (arith, nat_tests)

passes : (a b : ℕ) → a ≤ b → nat_le a b ≡ true
passes a b h = grind (arith, nat_tests)

both : (x y : Bool) → x ≡ true → y ≡ true → (x && y) ≡ true
both x y h k = rw (h, k) refl

pub date_there : (y m d : ℕ) → is_date y m d ≡ true → IsDate (pos y) (pos m) (pos d)
date_there y m d h =
    let last = and_parts (nat_le y 9999 && nat_le 1 m && nat_le m 12 && nat_le 1 d) (nat_le d (days_in_month (pos y) m)) h in
    let first = and_parts (nat_le y 9999 && nat_le 1 m && nat_le m 12) (nat_le 1 d) last.0 in
    let high = and_parts (nat_le y 9999 && nat_le 1 m) (nat_le m 12) first.0 in
    let low = and_parts (nat_le y 9999) (nat_le 1 m) high.0 in
    let year : y ≤ 9999 = below y 9999 low.0 in
    let month_low : 1 ≤ m = below 1 m low.1 in
    let month_high : m ≤ 12 = below m 12 high.1 in
    let day_low : 1 ≤ d = below 1 d first.1 in
    let day_high : d ≤ days_in_month (pos y) m = below d (days_in_month (pos y) m) last.1 in
    ((omega (arith, ints), omega (arith, ints)), (omega (arith, ints), omega (arith, ints)), (omega (arith, ints), omega (arith, ints)))

pub date_passes : (y m d : ℕ) → IsDate (pos y) (pos m) (pos d) → is_date y m d ≡ true
date_passes y m d h =
    let year : y ≤ 9999 = omega (arith, ints, h.0.1) in
    let month_low : 1 ≤ m = omega (arith, ints, h.1.0) in
    let month_high : m ≤ 12 = omega (arith, ints, h.1.1) in
    let day_low : 1 ≤ d = omega (arith, ints, h.2.0) in
    let day_high : d ≤ days_in_month (pos y) m = omega (arith, ints, h.2.1) in
    both (nat_le y 9999 && nat_le 1 m && nat_le m 12 && nat_le 1 d) (nat_le d (days_in_month (pos y) m))
    (both (nat_le y 9999 && nat_le 1 m && nat_le m 12) (nat_le 1 d)
    (both (nat_le y 9999 && nat_le 1 m) (nat_le m 12) (both (nat_le y 9999) (nat_le 1 m) (passes y 9999 year) (passes 1 m month_low)) (passes m 12 month_high))
    (passes 1 d day_low))
    (passes d (days_in_month (pos y) m) day_high)

chosen : (b : Bool) (x date : Date) → (if b then Ok x else Err NoSuchDay) ≡ Ok date → (b ≡ true) × (x ≡ date)
chosen true x date e = (refl, cc)
chosen false x date e = absurd cc

date_ok : (y m d : ℕ) (date : Date) → date_at y m d ≡ Ok date → (is_date y m d ≡ true) × (y ≡ date.year) × (m ≡ date.month) × (d ≡ date.day)
date_ok y m d date e =
    let c = chosen (is_date y m d) (record { year = y; month = m; day = d }) date e in
    (c.0, ap (λ x. x.year) c.1, ap (λ x. x.month) c.1, ap (λ x. x.day) c.1)

date_gives : (date : Date) → is_date date.year date.month date.day ≡ true → date_at date.year date.month date.day ≡ Ok date
date_gives date h = grind (arith, nat_tests)

pub day_read : (text : List ℕ) (date : Date) → day_of text ≡ Ok date → SpellsDay date text
day_read text date e =
    let h = filled_ok Date 8 (position is_no_digit text) text (complete 8 text (date_numbered (digits_value 10 text))) date e in
    let c = complete_ok Date 8 text (date_numbered (digits_value 10 text)) date h.is in
    let digits = all_pass is_no_digit IsAsciiDigit digit_passes text h.none in
    let most = h.short in
    let least = c.0 in
    let eight : length text ≡ 8 = omega arith in
    let parts = parts_of text eight digits in
    let d = date_ok (digits_value 10 text / 10_000) (digits_value 10 text / 100 % 100) (digits_value 10 text % 100) date c.1 in
    let there : IsDate (pos date.year) (pos date.month) (pos date.day) = date_there date.year date.month date.day (rw (← d.1, ← d.2, ← d.3) d.0) in
    record { digits = digits; eight = eight; year = sym parts.year ∙ d.1; month = sym parts.month ∙ d.2; day = sym parts.day ∙ d.3; there = there }

pub day_spelled : (text : List ℕ) (date : Date) → SpellsDay date text → day_of text ≡ Ok date
day_spelled text date s =
    let parts = parts_of text s.eight s.digits in
    let eight = s.eight in
    let value : date_numbered (digits_value 10 text) ≡ Ok date =
    ap (λ y. date_at y (digits_value 10 text / 100 % 100) (digits_value 10 text % 100)) (parts.year ∙ s.year)
    ∙ ap (λ m. date_at date.year m (digits_value 10 text % 100)) (parts.month ∙ s.month)
    ∙ ap (λ d. date_at date.year date.month d) (parts.day ∙ s.day)
    ∙ date_gives date (date_passes date.year date.month date.day s.there) in
    filled_gives Date 8 (position is_no_digit text) text (complete 8 text (date_numbered (digits_value 10 text))) (omega arith) (omega arith) (none_outside is_no_digit IsAsciiDigit digit_fails text s.digits)
    ∙ complete_gives Date 8 text (date_numbered (digits_value 10 text)) (omega arith)
    ∙ value

-- ---- a day as it is written

few_days : (y : ℤ) (m : ℕ) → days_in_month y m ≤ 31
few_days y m = grind (arith, nat_tests)

glyph_digit : (d : ℕ) → d < 10 → IsAsciiDigit (48 + d) × (digit_value (48 + d) ≡ d)
glyph_digit d small = ((grind (arith, nat_tests), grind (arith, nat_tests)), grind (arith, nat_tests))

two_all : (n : ℕ) (rest : List ℕ) → n < 100 → All IsAsciiDigit rest → All IsAsciiDigit (two_digits n ++ rest)
two_all n rest small all =
    let high : n / 10 < 10 = omega arith in
    let low : n % 10 < 10 = omega arith in
    All-cons IsAsciiDigit (48 + n / 10) ((48 + n % 10) ∷ rest) ((glyph_digit (n / 10) high).0)
    (All-cons IsAsciiDigit (48 + n % 10) rest ((glyph_digit (n % 10) low).0) all)

two_value : (n : ℕ) → n < 100 → digits_value 10 (two_digits n) ≡ n
two_value n small =
    let high : n / 10 < 10 = omega arith in
    let low : n % 10 < 10 = omega arith in
    sym (two (48 + n / 10) (48 + n % 10))
    ∙ ap (λ x. x * 10 + digit_value (48 + n % 10)) ((glyph_digit (n / 10) high).1)
    ∙ ap (λ x. n / 10 * 10 + x) ((glyph_digit (n % 10) low).1)
    ∙ omega arith

four_value : (a b : ℕ) → digits_value 10 (two_digits a ++ two_digits b) ≡ digits_value 10 (two_digits a) * 100 + digits_value 10 (two_digits b)
four_value a b = omega arith

pub day_spells : (date : Date) → is_date date.year date.month date.day ≡ true → SpellsDay date (day_text date)
day_spells date h =
    let there = date_there date.year date.month date.day h in
    let year : date.year ≤ 9999 = omega (arith, ints, there.0.1) in
    let month : date.month < 100 = omega (arith, ints, there.1.1) in
    let few = few_days (pos date.year) date.month in
    let day : date.day < 100 = omega (arith, ints, there.2.1) in
    let century : date.year / 100 < 100 = omega arith in
    let rest : date.year % 100 < 100 = omega arith in
    record {
      digits = two_all (date.year / 100) (two_digits (date.year % 100) ++ two_digits date.month ++ two_digits date.day ++ []) century
          (two_all (date.year % 100) (two_digits date.month ++ two_digits date.day ++ []) rest
          (two_all date.month (two_digits date.day ++ []) month (two_all date.day [] day (All-nil IsAsciiDigit))));
      eight = refl;
      year = four_value (date.year / 100) (date.year % 100)
          ∙ ap (λ x. x * 100 + digits_value 10 (two_digits (date.year % 100))) (two_value (date.year / 100) century)
          ∙ ap (λ x. date.year / 100 * 100 + x) (two_value (date.year % 100) rest)
          ∙ omega arith;
      month = two_value date.month month;
      day = two_value date.day day;
      there = there;
    }

pub day_read_back : (date : Date) (text : List ℕ) → text ≡ day_text date → is_date date.year date.month date.day ≡ true → day_of text ≡ Ok date
day_read_back date text is h = ap day_of is ∙ day_spelled (day_text date) date (day_spells date h)
