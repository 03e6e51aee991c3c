-- How large a share of a basis is, and what the extras of a line or of a record move at most.
use Rattle.std.proofs.Common.{◌≡◌, ℕ, ◌+◌, ◌*◌, ◌/◌, ◌%◌, ◌^◌, ◌<◌, ◌≤◌, ap, arith}
use Rattle.std.proofs.Math.Nat.{mul-le-mul, mul-le-mul_left}
use Rattle.dsd_values.specs.declared.percent.TheConstants.Percent.{MAX}
use Rattle.dsd_pricing.specs.Bounds.{most_effect}
use Rattle.dsd_pricing.specs.Pricing.{share}

-- a percent below a thousand is less than ten times the basis
pub share_small : (basis percent : ℕ) → percent ≤ MAX → share basis percent ≤ 10 * basis
share_small basis percent h = let most : basis * percent ≤ basis * MAX = mul-le-mul_left basis h in omega arith

-- the whole ten-thousands of a basis need no rounding
share_split : (basis percent : ℕ) → share basis percent ≡ basis / 10_000 * percent + (basis % 10_000 * percent + 5_000) / 10_000
share_split basis percent =
    let split : basis * percent ≡ (10_000 * (basis / 10_000) + basis % 10_000) * percent = ap (λ n. n * percent) (omega arith) in
    let parts : basis * percent ≡ 10_000 * (basis / 10_000 * percent) + basis % 10_000 * percent = omega arith in
    omega arith

-- the share, made of two parts
pub share_made : (basis percent low wide whole rest : ℕ)
    → low ≡ percent → wide ≡ low → whole ≡ basis / 10_000 → rest ≡ (basis % 10_000 * low + 5_000) / 10_000 → whole * wide + rest ≡ share basis percent
share_made basis percent low wide whole rest is_low is_wide is_whole is_rest = let split = share_split basis percent in cc

-- as many effects as a list can have fit their type
pub effects_small : (i basis : ℕ) → i < 2 ^ 64 → basis ≤ 10_000_000_000_000_000 → (i + 1) * most_effect basis < 2 ^ 127
effects_small i basis few low =
    let count : i + 1 ≤ 2 ^ 64 = omega arith in
    let each : most_effect basis ≤ 100_001_000_000_000_000 = omega arith in
    let all : (i + 1) * most_effect basis ≤ 2 ^ 64 * 100_001_000_000_000_000 = mul-le-mul count each in
    omega arith
