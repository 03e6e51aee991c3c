-- A walk from separator to separator passes over the bytes of a block that are inside.
use Rattle.std.proofs.Common.{◌≡◌, ◌≢◌, ℕ, zero, suc, ◌+◌, ◌-◌, ◌<◌, ◌≤◌, true, false, List, [], ◌∷◌, ◌++◌, length, take, get_or, inl, inr, sym, ◌∙◌, ap, subst, arith}
use Rattle.std.proofs.lemmas.Bool.{cases_Bool, cases_eq, cases_lt}
use Rattle.std.proofs.lemmas.Bool.Decides.{nat_tests}
use Rattle.std.proofs.lemmas.Nat.Bits.{bit_at-zero}
use Rattle.std.specs.Int.{bit_at}
use Rattle.segments.specs.SegmentSpelling.{is_star}
use Rattle.segments.specs.SegmentCut.{is_outside}
use Rattle.segments.proofs.Scan.{Scanned, scanned_other, scanned_star, taken_full}
use Rattle.segments.proofs.Stops.{bit, set_bit, unset_bit}

-- All bytes from this place up to the stop are inside. So many of them are scanned, and the bits tell the separators among
-- the others.
pub record Walked (front ends : List ℕ) (place stop bits : ℕ) : Type 0 where
  pub seen : ℕ
  pub scanned : Scanned front ends (place + seen)
  pub low : place + seen ≤ stop
  pub inside : (k : ℕ) → place + k < stop → is_outside (get_or front (place + k) 0) ≡ false
  pub gone : (k : ℕ) → k < seen → bit_at bits k ≡ 0
  pub left : (k : ℕ) → seen ≤ k → place + k < stop → bit_at bits k ≡ bit (is_star (get_or front (place + k) 0))
  pub past : (k : ℕ) → stop ≤ place + k → bit_at bits k ≡ 0

pub walked_none : (front ends : List ℕ) (place count bits : ℕ) → Scanned front ends place → ((k : ℕ) → k < count → is_outside (get_or front (place + k) 0) ≡ false)
    → ((k : ℕ) → k < count → bit_at bits k ≡ bit (is_star (get_or front (place + k) 0))) → ((k : ℕ) → count ≤ k → bit_at bits k ≡ 0) → Walked front ends place (place + count) bits
walked_none front ends place count bits s inside each past =
    let same : place ≡ place + 0 = omega arith in
    record {
      seen = 0;
      scanned = subst (Scanned front ends) same s;
      low = omega arith;
      inside = λ k under. inside k (omega arith);
      gone = λ k under. absurd (omega arith);
      left = λ k from under. each k (omega arith);
      past = λ k from. past k (omega arith);
    }

-- past the end stands a zero, which is outside
within_text : (front : List ℕ) (place : ℕ) → is_outside (get_or front place 0) ≡ false → place < length front
within_text [] place inside = grind (arith, nat_tests)
within_text (byte ∷ more) zero inside = omega arith
within_text (byte ∷ more) (suc place) inside = let rest = within_text more place inside in omega arith

is_separator : (byte : ℕ) → is_star byte ≡ true → byte ≡ 42
is_separator byte star = grind (arith, nat_tests)

no_separator : (byte : ℕ) → is_star byte ≡ false → byte ≡ 42 → ⊥
no_separator byte other same = grind (arith, nat_tests)

scanned_run : (front ends : List ℕ) (place n : ℕ) → Scanned front ends place → ((k : ℕ) → k < n → (is_outside (get_or front (place + k) 0) ≡ false) × (is_star (get_or front (place + k) 0) ≡ false)) → Scanned front ends (place + n)
scanned_run front ends place zero s each =
    let same : place ≡ place + 0 = omega arith in
    subst (Scanned front ends) same s
scanned_run front ends place (suc n) s each =
    let before = scanned_run front ends place n s (λ k under. each k (omega arith)) in
    let here = each n (omega arith) in
    let next : place + n + 1 ≡ place + suc n = omega arith in
    subst (Scanned front ends) next
    (scanned_other front ends (place + n) before (within_text front (place + n) here.0) here.0 (no_separator (get_or front (place + n) 0) here.1))

-- with a full list no separator counts
scanned_full : (front ends : List ℕ) (place n : ℕ) → length ends ≡ 32 → Scanned front ends place → ((k : ℕ) → k < n → is_outside (get_or front (place + k) 0) ≡ false) → Scanned front ends (place + n)
scanned_full front ends place zero full s each =
    let same : place ≡ place + 0 = omega arith in
    subst (Scanned front ends) same s
scanned_full front ends place (suc n) full s each =
    let before = scanned_full front ends place n full s (λ k under. each k (omega arith)) in
    let here = each n (omega arith) in
    let within = within_text front (place + n) here in
    let next : place + n + 1 ≡ place + suc n = omega arith in
    subst (Scanned front ends) next (elim (cases_Bool (is_star (get_or front (place + n) 0))) [
      | inl star ↦ subst (λ (l : List ℕ). Scanned front l (place + n + 1)) (taken_full ends (place + n) full)
          (scanned_star front ends (place + n) before within (is_separator (get_or front (place + n) 0) star))
      | inr other ↦ scanned_other front ends (place + n) before within here (no_separator (get_or front (place + n) 0) other)
    ])

module _ (front ends : List ℕ) (place stop bits : ℕ) (w : Walked front ends place stop bits) where
  other_there : (k : ℕ) → w.seen + k < stop - place → bit_at bits (w.seen + k) ≡ 0 → (is_outside (get_or front (place + w.seen + k) 0) ≡ false) × (is_star (get_or front (place + w.seen + k) 0) ≡ false)
  other_there k under unset =
      let there : place + (w.seen + k) ≡ place + w.seen + k = omega arith in
      let inside = w.inside (w.seen + k) (omega arith) in
      let other = unset_bit (is_star (get_or front (place + (w.seen + k)) 0)) (sym (w.left (w.seen + k) (omega arith) (omega arith)) ∙ unset) in
      subst (λ (p : ℕ). (is_outside (get_or front p 0) ≡ false) × (is_star (get_or front p 0) ≡ false)) there (inside, other)

  -- up to here no separator is left
  scanned_to : (to : ℕ) → w.seen ≤ to → place + to ≤ stop → ((k : ℕ) → k < to → bit_at bits k ≡ 0) → Scanned front ends (place + to)
  scanned_to to from room none =
      let there : place + w.seen + (to - w.seen) ≡ place + to = omega arith in
      subst (Scanned front ends) there
      (scanned_run front ends (place + w.seen) (to - w.seen) w.scanned (λ k under. other_there k (omega arith) (none (w.seen + k) (omega arith))))

  pub walked_all : bits ≡ 0 → Scanned front ends stop
  walked_all none =
      let there : place + (stop - place) ≡ stop = omega (arith, w.low) in
      subst (Scanned front ends) there (scanned_to (stop - place) (omega (arith, w.low)) (omega (arith, w.low)) (λ k under. ap (λ b. bit_at b k) none ∙ bit_at-zero k))

  inside_there : (k : ℕ) → w.seen + k < stop - place → is_outside (get_or front (place + w.seen + k) 0) ≡ false
  inside_there k under =
      let there : place + (w.seen + k) ≡ place + w.seen + k = omega arith in
      subst (λ (p : ℕ). is_outside (get_or front p 0) ≡ false) there (w.inside (w.seen + k) (omega arith))

  pub walked_full : length ends ≡ 32 → Scanned front ends stop
  walked_full full =
      let there : place + w.seen + (stop - place - w.seen) ≡ stop = omega (arith, w.low) in
      subst (Scanned front ends) there
      (scanned_full front ends (place + w.seen) (stop - place - w.seen) full w.scanned (λ k under. inside_there k (omega (arith, w.low))))

  module _ (near : ℕ) (set : bit_at bits near ≡ 1) (below : (k : ℕ) → k < near → bit_at bits k ≡ 0) where
    near_inside : place + near < stop
    near_inside = elim (cases_lt (place + near) stop) [ inl inside ↦ inside | inr past ↦ absurd (omega (arith, w.past near past)) ]

    pub near_within : place + near < length front
    near_within = within_text front (place + near) (w.inside near near_inside)

    near_new : w.seen ≤ near
    near_new = elim (cases_lt near w.seen) [ inl old ↦ absurd (omega (arith, w.gone near old)) | inr new ↦ new ]

    scanned_near : Scanned front (take 32 (ends ++ (place + near) ∷ [])) (place + near + 1)
    scanned_near =
        let inside = w.inside near near_inside in
        let star = set_bit (is_star (get_or front (place + near) 0)) (sym (w.left near near_new near_inside) ∙ set) in
        scanned_star front ends (place + near) (scanned_to near near_new (omega (arith, near_inside)) below) (within_text front (place + near) inside) (is_separator (get_or front (place + near) 0) star)

    -- past a separator
    pub walked_star : (more : ℕ) → bit_at more near ≡ 0 → ((k : ℕ) → k ≢ near → bit_at more k ≡ bit_at bits k) → Walked front (take 32 (ends ++ (place + near) ∷ [])) place stop more
    walked_star more unset others =
        let there : place + near + 1 ≡ place + (near + 1) = omega arith in
        record {
          seen = near + 1;
          scanned = subst (Scanned front (take 32 (ends ++ (place + near) ∷ []))) there scanned_near;
          low = omega (arith, near_inside);
          inside = w.inside;
          gone = λ k under. elim (cases_eq k near) [
            | inl same ↦ ap (bit_at more) same ∙ unset
            | inr other ↦ others k other ∙ below k (omega arith)
          ];
          left = λ k from under. others k (λ same. omega arith) ∙ w.left k (omega (arith, near_new)) under;
          past = λ k from. others k (λ same. omega (arith, near_inside)) ∙ w.past k from;
        }
