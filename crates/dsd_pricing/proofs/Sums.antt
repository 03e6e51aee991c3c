-- Signed sums over the elements of a list, as a loop makes them.
use Rattle.std.proofs.Common.{◌≡◌, ℕ, ℤ, pos, ◌+◌, ◌*◌, ◌^◌, ◌<◌, ◌≤◌, ◌+ℤ◌, List, length, get_or, take, to_z, of_z, arith, sym, ap, ◌∙◌}
use Rattle.std.proofs.lemmas.Int.{ints}
use Rattle.std.proofs.lemmas.List.Sums.{fold_more}
use Rattle.dsd_pricing.specs.Bounds.{IsWithin}
use Rattle.dsd_pricing.specs.Pricing.{signed_sum_by}
use mir.Syntax.{w128}

-- the sum of the first elements, each of which is at most so far from 0
pub record IsSumTo {X : Type 0} (number : X → ℤ) (xs : List X) (count most : ℕ) (sum : ℤ) : Type 0 where
  pub so_far : sum ≡ signed_sum_by number (take count xs)
  pub within : IsWithin (count * most) sum

-- a number that is not that far from 0 is what its bits say
kept : (most : ℕ) (z : ℤ) → most < 2 ^ 127 → IsWithin most z → to_z w128 (of_z w128 z) ≡ z
kept most z h within = omega (arith, ints)

within_more : (count most : ℕ) (sum z : ℤ) → IsWithin (count * most) sum → IsWithin most z → IsWithin ((count + 1) * most) (sum +ℤ z)
within_more count most sum z before one = record { low = omega (arith, ints); high = omega (arith, ints) }

sum_more : {X : Type 0} (number : X → ℤ) (xs : List X) (i : ℕ) (x : X) (sum : ℤ)
    → i < length xs → x ≡ get_or xs i x → sum ≡ signed_sum_by number (take i xs) → sum +ℤ number x ≡ signed_sum_by number (take (i + 1) xs)
sum_more number xs i x sum lt is so_far =
    ap (λ (y : ℤ). y +ℤ number x) so_far ∙ ap (λ y. signed_sum_by number (take i xs) +ℤ number y) is
    ∙ sym (fold_more (λ (a : ℤ) y. a +ℤ number y) (pos 0) xs i x lt)

-- one more element
pub sum_to_more : {X : Type 0} (number : X → ℤ) (xs : List X) (i most : ℕ) (x : X) (sum z : ℤ)
    → i < length xs → x ≡ get_or xs i x → z ≡ number x → IsWithin most z → (i + 1) * most < 2 ^ 127
    → IsSumTo number xs i most sum → IsSumTo number xs (i + 1) most (to_z w128 (of_z w128 (sum +ℤ to_z w128 (of_z w128 z))))
sum_to_more number xs i most x sum z lt is same one small before =
    let one_small : most < 2 ^ 127 = omega arith in
    let read : to_z w128 (of_z w128 z) ≡ z = kept most z one_small one in
    let more : IsWithin ((i + 1) * most) (sum +ℤ z) = within_more i most sum z before.within one in
    let all : to_z w128 (of_z w128 (sum +ℤ to_z w128 (of_z w128 z))) ≡ sum +ℤ z =
    ap (λ (y : ℤ). to_z w128 (of_z w128 (sum +ℤ y))) read ∙ kept ((i + 1) * most) (sum +ℤ z) small more in
    record {
      so_far = all ∙ ap (λ (y : ℤ). sum +ℤ y) same ∙ sum_more number xs i x sum lt is before.so_far;
      within = rw all more;
    }

pub within_weaker : (most more : ℕ) (z : ℤ) → most ≤ more → IsWithin most z → IsWithin more z
within_weaker most more z le within = record { low = omega (arith, ints); high = omega (arith, ints) }
