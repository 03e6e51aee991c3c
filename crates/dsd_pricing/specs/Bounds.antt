-- How far a sum of effects may go, so that it never leaves its type.
use Rattle.std.specs.Prelude.{ℕ, ℤ, pos, neg_ℤ, ◌≤ℤ◌, ◌*◌, ◌+◌, ◌^◌}

-- a signed number is at most so far from 0
pub record IsWithin (most : ℕ) (number : ℤ) : Type 0 where
  pub low : neg_ℤ (pos most) ≤ℤ number
  pub high : number ≤ℤ pos most

-- the most that one allowance moves an amount
abbrev pub most_effect : ℕ → ℕ
most_effect basis = 10 * basis + 1_000_000_000_000

-- the most that a list of extras moves it
abbrev pub most_effects : ℕ → ℕ
most_effects basis = 2 ^ 64 * most_effect basis

-- the most that the extras of all lines move it
abbrev pub most_lines_effects : ℕ
most_lines_effects = 2 ^ 64 * 100_000_000_000_000_000
