-- The lines of a delivery of a route are right, apart, and have a price; its deliveries are apart.
use Rattle.std.proofs.Common.{◌≡◌, ℕ, ℤ, pos, zero, suc, ◌+◌, ◌-◌, ◌*◌, ◌/◌, ◌%◌, ◌<◌, ◌≤◌, ◌==◌, ◌&&◌, ◌||◌, nat_eq, Bool, true, false, List, [], ◌∷◌, length, map, ◌+ℤ◌, refl, ap, ◌∙◌, if◌then◌else◌, arith, inl, inr}
use Rattle.std.specs.List.{All, range_with_len}
use Rattle.std.specs.Result.{IsOk}
use Rattle.std.specs.Str.{bytes_eq}
use Rattle.std.proofs.lemmas.Bool.{cases_Bool}
use Rattle.std.proofs.lemmas.Bool.Decides.{nat_tests}
use Rattle.std.proofs.lemmas.Int.{ints}
use Rattle.std.proofs.lemmas.List.Elements.{All-cons, All-nil}
use Rattle.std.proofs.lemmas.List.FromFn.{length-map-range_with_len}
use Rattle.std.proofs.lemmas.List.Sums.{sum_by-le}
use Rattle.std.proofs.lemmas.Nat.{row_fits}
use Rattle.dsd_values.specs.declared.line.Line.{Line}
use Rattle.transaction_set.specs.Extras.{IsSized}
use Rattle.transaction_set.specs.Grammar.{AreApart}
use Rattle.transaction_set.specs.Reasons.{has_line}
use Rattle.transaction_set.specs.SoundLines.{IsPlainWord, IsSoundExtra}
use Rattle.dsd_pricing.specs.Pricing.{extension_of, extensions, line_effects, priced, signed_sum_by, totals_of}
use Rattle.base_record_894.proofs.Amounts.{priced_totals}
use Rattle.plain_lines.specs.Counting.{AreCounts, IsRightCounted, number_of as number_of_counted}
use Rattle.plain_lines.specs.Keyed.{AreApartBy, is_there}
use Rattle.handheld_core.specs.DraftRows.{AreAllowances, AreRows, IsItem}
use Rattle.load_route.specs.Deliveries.{cost_at, count_at, counted_at, first_numbers, line_at, lines_of, number_at, quantity_at}
use Rattle.load_route.proofs.WrittenValues.{number_apart}

-- ---- bounds

pub quantity_few : (delivery number : ℕ) → quantity_at delivery number ≤ 24
quantity_few delivery number = omega arith

pub cost_few : (delivery number : ℕ) → cost_at delivery number ≤ 90_000
cost_few delivery number = omega arith

counted_by : (line_is fourth : Bool) (quantity : ℕ) → quantity ≤ 24 → (if line_is && fourth then quantity - 1 else quantity) ≤ 24
counted_by true true quantity few = omega arith
counted_by true false quantity few = few
counted_by false fourth quantity few = few

pub counted_few : (delivery number : ℕ) → counted_at delivery number ≤ 24
counted_few delivery number = counted_by (number == 1) (delivery % 4 == 0) (quantity_at delivery number) (quantity_few delivery number)

pub lines_few : (delivery : ℕ) → lines_of delivery ≤ 5
lines_few delivery = omega arith

-- ---- numbers of a range, each in its own thing

module _ {K X : Type 0} (eq : K → K → Bool) (key : X → K) (thing : ℕ → X) (most : ℕ) (differ : (x y : ℕ) → x < y → y ≤ most → eq (key (thing x)) (key (thing y)) ≡ false) where
  not_behind : (x a n : ℕ) → x < a → a + n ≤ most + 1 → is_there eq key (key (thing x)) (map thing (range_with_len a n)) ≡ false
  not_behind x a zero below inside = refl
  not_behind x a (suc n) below inside =
      let other : eq (key (thing x)) (key (thing a)) ≡ false = differ x a below (omega arith) in
      rw other (not_behind x (a + 1) n (omega arith) (omega arith))

  pub apart_from : (a n : ℕ) → a + n ≤ most + 1 → AreApartBy eq key (map thing (range_with_len a n))
  apart_from a zero inside = tt
  apart_from a (suc n) inside = (not_behind a (a + 1) n (omega arith) (omega arith), apart_from (a + 1) n (omega arith))

all_from : {X : Type 0} (P : X → Type 0) (thing : ℕ → X) (most : ℕ) → ((x : ℕ) → 1 ≤ x → x ≤ most → P (thing x)) → (a n : ℕ) → 1 ≤ a → a + n ≤ most + 1 → All P (map thing (range_with_len a n))
all_from P thing most each a zero some inside = All-nil P
all_from P thing most each a (suc n) some inside =
    All-cons P (thing a) (map thing (range_with_len (a + 1) n)) (each a some (omega arith)) (all_from P thing most each (a + 1) n (omega arith) (omega arith))

-- something that holds of each of the first numbers' things
pub all_first : {X : Type 0} (P : X → Type 0) (thing : ℕ → X) (most : ℕ) → ((x : ℕ) → 1 ≤ x → x ≤ most → P (thing x)) → (n : ℕ) → n ≤ most → All P (map thing (first_numbers n))
all_first P thing most each n few = all_from P thing most each 1 n (omega arith) (omega arith)

below_differ : (x y : ℕ) → x < y → nat_eq x y ≡ false
below_differ x y below = grind (arith, nat_tests)

pub numbers_differ : (x y : ℕ) → x < y → y ≤ 200 → bytes_eq (number_at x) (number_at y) ≡ false
numbers_differ x y below most = elim (cases_Bool (bytes_eq (number_at x) (number_at y))) [
  | inl same ↦ absurd (omega (arith, number_apart (500_000 + x) (500_000 + y) (omega arith) (omega arith) same))
  | inr other ↦ other
]

-- ---- items

no_extras : (in_line : Bool) → AreAllowances in_line []
no_extras in_line = record {
  sound = record {
    each = All-nil (IsSoundExtra in_line);
    limit = record { sized = All-nil (IsSized in_line); few = omega arith };
    few = omega arith;
  };
  few = omega arith;
}

empty_word : IsPlainWord []
empty_word = record { characters = refl; short = omega arith }

is_item : (delivery number : ℕ) → 1 ≤ number → number ≤ 5 → IsItem (line_at delivery number)
is_item delivery number least most = record {
  plain = record {
    least = least;
    most = omega arith;
    quantity = omega (arith, quantity_few delivery number);
    unit = record { characters = refl; short = omega arith };
    filled = omega arith;
    upc = empty_word;
    qualifier = empty_word;
    id = empty_word;
    case_code = empty_word;
    cost = omega (arith, cost_few delivery number);
    pack = empty_word;
    label = empty_word;
    tail = refl;
  };
  behind = no_extras true;
}

no_line_behind : (delivery dsd a n : ℕ) → dsd < a → has_line dsd (map (line_at delivery) (range_with_len a n)) ≡ false
no_line_behind delivery dsd a zero below = refl
no_line_behind delivery dsd a (suc n) below =
    let other : (a == dsd) ≡ false = grind (arith, nat_tests) in
    ap (λ (b : Bool). b || has_line dsd (map (line_at delivery) (range_with_len (a + 1) n))) other ∙ no_line_behind delivery dsd (a + 1) n (omega arith)

lines_apart : (delivery a n : ℕ) → AreApart (map (line_at delivery) (range_with_len a n))
lines_apart delivery a zero = tt
lines_apart delivery a (suc n) = (no_line_behind delivery a (a + 1) n (omega arith), lines_apart delivery (a + 1) n)

pub are_rows : (delivery : ℕ) → AreRows (record { extras = []; lines = map (line_at delivery) (first_numbers (lines_of delivery)) })
are_rows delivery = record {
  items = all_first IsItem (line_at delivery) 5 (is_item delivery) (lines_of delivery) (lines_few delivery);
  apart = lines_apart delivery 1 (lines_of delivery);
  few = omega (arith, lines_few delivery, length-map-range_with_len (line_at delivery) 1 (lines_of delivery));
  beside = no_extras false;
}

-- ---- counted lines

right_counted : (delivery number : ℕ) → 1 ≤ number → number ≤ 5 → IsRightCounted (count_at delivery number)
right_counted delivery number least most = record {
  least = least;
  most = omega arith;
  quantity = omega (arith, counted_few delivery number);
  cost = omega (arith, cost_few delivery number);
}

pub are_counts : (delivery : ℕ) → AreCounts (map (count_at delivery) (first_numbers (lines_of delivery)))
are_counts delivery = record {
  right = all_first IsRightCounted (count_at delivery) 5 (right_counted delivery) (lines_of delivery) (lines_few delivery);
  apart = apart_from nat_eq number_of_counted (count_at delivery) 5 (λ x y below most. below_differ x y below) 1 (lines_of delivery) (omega (arith, lines_few delivery));
  few = omega (arith, lines_few delivery, length-map-range_with_len (count_at delivery) 1 (lines_of delivery));
}

pub no_counts : AreCounts []
no_counts = record { right = All-nil IsRightCounted; apart = tt; few = omega arith }

-- ---- the price

extension_few : (quantity cost : ℕ) → quantity ≤ 24 → cost ≤ 90_000 → (quantity * cost + 50) / 100 ≤ 25_000
extension_few quantity cost few small = let fits : quantity * cost + cost ≤ 25 * 90_000 = row_fits quantity cost 25 90_000 (omega arith) small in omega arith

none_changed : (delivery : ℕ) (numbers : List ℕ) → signed_sum_by line_effects (map (line_at delivery) numbers) ≡ pos 0
none_changed delivery [] = refl
none_changed delivery (number ∷ numbers) = none_changed delivery numbers

small_from : (delivery a n : ℕ) → All (λ (line : Line). extension_of line ≤ 25_000) (map (line_at delivery) (range_with_len a n))
small_from delivery a zero = All-nil (λ (line : Line). extension_of line ≤ 25_000)
small_from delivery a (suc n) =
    All-cons (λ (line : Line). extension_of line ≤ 25_000) (line_at delivery a) (map (line_at delivery) (range_with_len (a + 1) n))
    (extension_few (quantity_at delivery a) (cost_at delivery a) (quantity_few delivery a) (cost_few delivery a)) (small_from delivery (a + 1) n)

plain_sum : (sum : ℕ) (effects : ℤ) → effects ≡ pos 0 → pos sum ≡ pos sum +ℤ effects +ℤ pos 0
plain_sum sum effects none = omega (arith, ints)

pub is_priced : (delivery : ℕ) → IsOk (totals_of (map (line_at delivery) (first_numbers (lines_of delivery))) [])
is_priced delivery =
    let lines : List Line = map (line_at delivery) (first_numbers (lines_of delivery)) in
    let few : extensions lines ≤ length lines * 25_000 = sum_by-le extension_of 25_000 lines (small_from delivery 1 (lines_of delivery)) in
    let count : length lines ≡ lines_of delivery = length-map-range_with_len (line_at delivery) 1 (lines_of delivery) in
    let sum : pos (extensions lines) ≡ priced lines [] = plain_sum (extensions lines) (signed_sum_by line_effects lines) (none_changed delivery (first_numbers (lines_of delivery))) in
    let given = priced_totals lines [] (extensions lines) (omega (arith, lines_few delivery)) sum in
    rw given refl
