-- What is spoken of a delivery has at most twice the blocks of its new sets and of both last signed ones.
use Rattle.std.proofs.Common.{◌≡◌, ◌≤◌, ◌+◌, ◌-◌, ◌*◌, ◌<◌, ℕ, suc, Bool, true, false, not, ◌&&◌, ◌||◌, ◌==◌, nat_lt, if◌then◌else◌, refl, sym, ap, subst, ◌∙◌, inl, inr, arith}
use Rattle.std.proofs.lemmas.Bool.{cases_eq}
use Rattle.std.proofs.lemmas.Bool.Decides.{nat_tests}
use Rattle.clean_sessions.specs.Courses.{Course, Stand, TakesTurn, is_complete, has_signed, is_wanted, is_due, may_speak, hears, meets, signs, awaits, answers, proposes, prepares, flips, speaks, rest_from, weight_of_last, blocks_left, blocks_spoken}
use Rattle.clean_sessions.proofs.ReadyPlaces.{less_is}
use Rattle.clean_sessions.proofs.TurnsRunOut.{first_room, may_is}
use Rattle.clean_sessions.proofs.BoolTests.{both_true, twice_not}

module _ (weight : ℕ → ℕ) where
  rest_of : (n k m : ℕ) → m ≡ suc k → rest_from weight n m ≡ weight n + rest_from weight (n + 1) k
  rest_of n k m e = ap (rest_from weight n) e

  rest_more : (n m : ℕ) → n < m → rest_from weight n (m - n) ≡ weight n + rest_from weight (n + 1) (m - (n + 1))
  rest_more n m room = let e : m - n ≡ suc (m - (n + 1)) = omega (arith, room) in rest_of n (m - (n + 1)) (m - n) e

  -- the set that is signed now
  newest : (n : ℕ) → weight_of_last weight true (n + 1) ≡ weight n
  newest n =
      let some : nat_lt 0 (n + 1) ≡ true = grind (arith, nat_tests) in
      let same : n + 1 - 1 ≡ n = omega arith in
      ap (λ (b : Bool). if b then weight (n + 1 - 1) else 0) some ∙ ap weight same

  -- the partner's last one stays the same behind it
  before_newest : (n : ℕ) → weight_of_last weight false (n + 1) ≡ weight_of_last weight true n
  before_newest n =
      let test : nat_lt 1 (n + 1) ≡ nat_lt 0 n = grind (arith, nat_tests) in
      let same : n + 1 - 2 ≡ n - 1 = omega arith in
      ap (λ (b : Bool). if b then weight (n + 1 - 2) else 0) test ∙ ap (λ (k : ℕ). if nat_lt 0 n then weight k else 0) same

  none_before : (last_own : Bool) → weight_of_last weight last_own 0 ≡ 0
  none_before true = refl
  none_before false = refl

  -- a step that signs, where the other's last signed set stays
  signs_less : (course : Course) (at : Stand) → at.sets < course.sets → weight_of_last weight (not at.last_own) at.sets ≡ weight_of_last weight true at.sets
      → blocks_left weight course (signs course at) ≤ blocks_left weight course at
  signs_less course at room stays =
      let more = rest_more at.sets course.sets room in
      let new : 2 * weight_of_last weight true (at.sets + 1) ≡ 2 * weight at.sets = ap (λ (k : ℕ). 2 * k) (newest at.sets) in
      let old : (2 - at.partner.times) * weight_of_last weight false (at.sets + 1) ≡ (2 - at.partner.times) * weight_of_last weight (not at.last_own) at.sets =
      ap (λ (k : ℕ). (2 - at.partner.times) * k) (before_newest at.sets ∙ sym stays) in
      add_up (rest_from weight at.sets (course.sets - at.sets)) (weight at.sets) (rest_from weight (at.sets + 1) (course.sets - (at.sets + 1)))
      ((2 - at.own.times) * weight_of_last weight at.last_own at.sets) ((2 - at.partner.times) * weight_of_last weight (not at.last_own) at.sets)
      (2 * weight_of_last weight true (at.sets + 1)) ((2 - at.partner.times) * weight_of_last weight false (at.sets + 1)) more new old
    where
      add_up : (all one rest own partner new same : ℕ) → all ≡ one + rest → new ≡ 2 * one → same ≡ partner → 2 * rest + new + same ≤ 2 * all + own + partner
      add_up all one rest own partner new same e f g = omega (arith, e, f, g)

  less_if : (course : Course) (at signed : Stand) (test : Bool) → (test ≡ true → blocks_left weight course signed ≤ blocks_left weight course at)
      → blocks_left weight course (if test then signed else at) ≤ blocks_left weight course at
  less_if course at signed true less = less refl
  less_if course at signed false less = omega arith

  answers_less : (course : Course) (at : Stand) → blocks_left weight course (answers course at) ≤ blocks_left weight course at
  answers_less course at = less_if course at (signs course at) (awaits course at) (λ e.
      let told = both_true (at.heard && not at.last_own) (nat_lt at.sets course.sets) e in
      let last = (both_true at.heard (not at.last_own) told.0).1 in
      signs_less course at (less_is at.sets course.sets told.1) (ap (λ (b : Bool). weight_of_last weight b at.sets) last))

  proposes_less : (course : Course) (drafts : Bool) (at : Stand) → blocks_left weight course (proposes course drafts at) ≤ blocks_left weight course at
  proposes_less course drafts at = less_if course at (signs course at) (drafts && at.sets == 0 && nat_lt 0 course.sets) (λ e.
      let none : at.sets ≡ 0 = no_sets drafts at.sets course.sets e in
      signs_less course at (first_room drafts at.sets course.sets e)
      (ap (weight_of_last weight (not at.last_own)) none ∙ none_before (not at.last_own) ∙ sym (ap (weight_of_last weight true) none)))
    where
      no_sets : (drafts : Bool) (n m : ℕ) → (drafts && n == 0 && nat_lt 0 m) ≡ true → n ≡ 0
      no_sets true n m e = grind (arith, nat_tests)
      no_sets false n m e = cc

  hears_same : (course : Course) (sent : Bool) (at : Stand) → blocks_left weight course (hears course sent at) ≡ blocks_left weight course at
  hears_same course false at = refl
  hears_same course true at = by_test (at.last_own || at.heard) (not at.last_own && is_complete course at)
    where
      by_test : (known done : Bool) → blocks_left weight course (if known then (if done then at else meets at) else record at { heard = true }) ≡ blocks_left weight course at
      by_test true true = refl
      by_test true false = refl
      by_test false done = refl

  prepares_less : (course : Course) (drafts sent : Bool) (at : Stand) → blocks_left weight course (prepares course drafts sent at) ≤ blocks_left weight course at
  prepares_less course drafts sent at =
      let h = hears_same course sent at in
      let a = answers_less course (hears course sent at) in
      let p = proposes_less course drafts (answers course (hears course sent at)) in
      omega (arith, h, a, p)

  once_less : (t x : ℕ) → t ≤ 1 → (2 - (t + 1)) * x + x ≤ (2 - t) * x
  once_less t x le = elim (cases_eq t 0) [
    | inl none ↦ subst (λ (k : ℕ). (2 - (k + 1)) * x + x ≤ (2 - k) * x) (sym none) (omega arith)
    | inr other ↦ let one : t ≡ 1 = omega (arith, le, other) in subst (λ (k : ℕ). (2 - (k + 1)) * x + x ≤ (2 - k) * x) (sym one) (omega arith)
  ]

  speaks_less : (course : Course) (goes : Bool) (at : Stand) → (goes ≡ true → is_due course at ≡ true)
      → blocks_left weight course (flips (speaks goes at)) + blocks_spoken weight goes at ≤ blocks_left weight course at
  speaks_less course true at due =
      let speaks_now = both_true (has_signed at) (is_wanted course at && may_speak at.own) (due refl) in
      let may : at.own.times ≤ 1 = may_is at.own (both_true (is_wanted course at) (may_speak at.own) speaks_now.1).1 in
      let less = once_less at.own.times (weight_of_last weight at.last_own at.sets) may in
      let turned = ap (λ (b : Bool). (2 - (at.own.times + 1)) * weight_of_last weight b at.sets) (twice_not at.last_own) in
      omega (arith, less, turned)
  speaks_less course false at due =
      let turned = ap (λ (b : Bool). (2 - at.own.times) * weight_of_last weight b at.sets) (twice_not at.last_own) in
      omega (arith, turned)

  pub less_blocks : (course : Course) (drafts sent goes : Bool) (old new : Stand) → TakesTurn course drafts sent goes old new
      → blocks_left weight course new + blocks_spoken weight goes (prepares course drafts sent old) ≤ blocks_left weight course old
  less_blocks course drafts sent goes old new turn =
      let p = prepares_less course drafts sent old in
      let s = speaks_less course goes (prepares course drafts sent old) turn.due in
      let less : blocks_left weight course (flips (speaks goes (prepares course drafts sent old))) + blocks_spoken weight goes (prepares course drafts sent old) ≤ blocks_left weight course old = omega (arith, p, s) in
      subst (λ (x : Stand). blocks_left weight course x + blocks_spoken weight goes (prepares course drafts sent old) ≤ blocks_left weight course old) (sym turn.next) less
