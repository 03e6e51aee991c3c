-- What a source and a sink in memory are seen as.
use Rattle.std.specs.Prelude.{ℕ, ◌+◌, ◌-◌, ◌^◌, List, min}

-- the bytes left, the numbers of the calls that fail, and how many calls, heard ends and faults there were
pub record Feed : Type 0 where
  pub left : List ℕ
  pub failing : List ℕ
  pub calls : ℕ
  pub ends : ℕ
  pub faults : ℕ

-- the bytes written, how many more there is room for, and the same of the calls
pub record Basin : Type 0 where
  pub written : List ℕ
  pub room : ℕ
  pub failing : List ℕ
  pub calls : ℕ
  pub faults : ℕ

-- a count of 64 bits with one more, which stops at its last value
abbrev pub counted : ℕ → ℕ
counted count = min (count + 1) (2 ^ 64 - 1)
