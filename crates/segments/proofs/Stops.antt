-- The mask of a block tells its bytes.
use Rattle.std.proofs.Common.{◌≡◌, ℕ, ◌%◌, ◌^◌, ◌<◌, ◌≤◌, Bool, true, false, cond, List, map, length, get_or, Fits, w8, refl, ap, ◌∙◌, arith}
use Rattle.std.proofs.lemmas.Bool.{agree_below, agree_below_at}
use Rattle.std.proofs.lemmas.Simd.{map-map, Each1-get_or, mask_l-mod, mask_l-lt, bit_mask_l}
use Rattle.std.proofs.lemmas.Nat.Bits.{bit_at_above}
use Rattle.std.proofs.lemmas.List.{get_or-map, length-map}
use Rattle.std.specs.Int.{bit_at}
use lib.Lanes.{mask_l, top, Each1}

-- a bit that is set where the test holds
abbrev pub bit : Bool → ℕ
bit b = cond b 1 0

pub set_bit : (b : Bool) → bit b ≡ 1 → b ≡ true
set_bit true e = refl
set_bit false e = absurd (omega arith)

pub unset_bit : (b : Bool) → bit b ≡ 0 → b ≡ false
unset_bit true e = absurd (omega arith)
unset_bit false e = refl

module _ (f : ℕ → ℕ) (test : ℕ → Bool) (v z : List ℕ) (fits : (length v ≡ 32) × Each1 (Fits w8) v) (lanes : z ≡ map f v) where
  abbrev flags : List Bool
  flags = map (λ x. top 7 (f x)) v

  mask_is : mask_l (map (top 7) z) % 2 ^ 64 ≡ mask_l flags
  mask_is =
      ap (λ l. mask_l l % 2 ^ 64) (ap (map (top 7)) lanes ∙ map-map (top 7) f v) ∙ mask_l-mod flags 64 (omega (arith, length-map v (λ x. top 7 (f x)), fits.0))

  pub bits_each : agree_below (λ x. top 7 (f x)) test 256 ≡ true → (k : ℕ) → k < 32 → bit_at (mask_l (map (top 7) z) % 2 ^ 64) k ≡ bit (test (get_or v k 0))
  bits_each all k under =
      let inside : k < length v = omega (arith, fits.0) in
      let byte = (Each1-get_or (Fits w8) v k 0 inside fits.1).fits in
      ap (λ m. bit_at m k) mask_is ∙ bit_mask_l flags k
      ∙ ap bit (get_or-map (λ x. top 7 (f x)) v k 0 false inside ∙ agree_below_at (λ x. top 7 (f x)) test 256 (get_or v k 0) all byte)

  pub bits_past : (k : ℕ) → 32 ≤ k → bit_at (mask_l (map (top 7) z) % 2 ^ 64) k ≡ 0
  bits_past k from =
      let long : length flags ≡ 32 = length-map v (λ x. top 7 (f x)) ∙ fits.0 in
      ap (λ m. bit_at m k) mask_is ∙ bit_at_above (mask_l flags) (length flags) k (mask_l-lt flags) (omega (arith, long))
