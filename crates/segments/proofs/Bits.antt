-- The lowest bit that is set, and the others.
use Rattle.std.proofs.Common.{◌≡◌, ◌≢◌, ℕ, zero, suc, ◌-◌, ◌/◌, ◌%◌, ◌<◌, bit_and, inl, inr, sym, ap, ◌∙◌, arith}
use Rattle.std.proofs.lemmas.Bool.{cases_eq, cases_lt}
use Rattle.std.proofs.lemmas.Nat.Bits.{bit_at_and, bit_at_lowest, bit_at-suc, bit_at-zero}
use Rattle.std.specs.Int.{bit_at}
use Rattle.segments.specs.PartEnds.{IsFirstBit}

from_one : (P : ℕ → Type 0) → ((i : ℕ) → P (suc i)) → (k : ℕ) → 0 < k → P k
from_one P each zero some = absurd (omega arith)
from_one P each (suc i) some = each i

-- a number less by one has that bit unset, and the bits above it alike
one_less : (first bits : ℕ) → IsFirstBit bits first → (bit_at (bits - 1) first ≡ 0) × ((k : ℕ) → first < k → bit_at (bits - 1) k ≡ bit_at bits k)
one_less zero bits is =
    let odd : bits % 2 ≡ 1 = sym (bit_at_lowest bits) ∙ is.0 in
    let half : (bits - 1) / 2 ≡ bits / 2 = omega arith in
    let even : (bits - 1) % 2 ≡ 0 = omega arith in (
      bit_at_lowest (bits - 1) ∙ even,
      from_one (λ k. bit_at (bits - 1) k ≡ bit_at bits k) (λ i. bit_at-suc (bits - 1) i ∙ ap (λ (n : ℕ). bit_at n i) half ∙ sym (bit_at-suc bits i)),
    )
one_less (suc before) bits is =
    let even : bits % 2 ≡ 0 = sym (bit_at_lowest bits) ∙ is.1 0 (omega arith) in
    let set : bit_at (bits / 2) before ≡ 1 = sym (bit_at-suc bits before) ∙ is.0 in
    let some : 0 < bits / 2 = elim (cases_eq (bits / 2) 0) [
      | inl none ↦ absurd (omega (arith, sym set ∙ ap (λ (n : ℕ). bit_at n before) none ∙ bit_at-zero before))
      | inr some ↦ omega arith
    ] in
    let half : (bits - 1) / 2 ≡ bits / 2 - 1 = omega arith in
    let rest = one_less before (bits / 2) (set, λ k under. sym (bit_at-suc bits k) ∙ is.1 (suc k) (omega arith)) in (
      bit_at-suc (bits - 1) before ∙ ap (λ (n : ℕ). bit_at n before) half ∙ rest.0,
      λ k above. from_one (λ k. suc before < k → bit_at (bits - 1) k ≡ bit_at bits k)
          (λ i over. bit_at-suc (bits - 1) i ∙ ap (λ (n : ℕ). bit_at n i) half ∙ rest.1 i (omega arith) ∙ sym (bit_at-suc bits i)) k (omega arith) above,
    )

pub rest_gone : (first bits : ℕ) → IsFirstBit bits first → bit_at (bit_and bits (bits - 1)) first ≡ 0
rest_gone first bits is = omega (arith, bit_at_and bits (bits - 1) first, (one_less first bits is).0)

pub rest_same : (first bits : ℕ) → IsFirstBit bits first → (k : ℕ) → k ≢ first → bit_at (bit_and bits (bits - 1)) k ≡ bit_at bits k
rest_same first bits is k apart = elim (cases_lt k first) [
  | inl below ↦ omega (arith, bit_at_and bits (bits - 1) k, is.1 k below)
  | inr from ↦
      let above : first < k = omega arith in
      omega (arith, bit_at_and bits (bits - 1) k, (one_less first bits is).1 k above)
]
