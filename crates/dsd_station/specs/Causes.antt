-- When a call to the outside may answer that it failed, and what a sink takes.
use Rattle.std.specs.Prelude.{◌≡◌, ℕ, ◌+◌, ◌-◌, ◌^◌, ◌<◌, ◌≤◌, ◌⊎◌, min, nat_eq, if◌then◌else◌, List, ◌++◌, length, Option, Result, IfOk, OnOk, OnErr}
use Rattle.std.specs.Io.KnownBytes.{Appends, Consumes}
use Rattle.dsd_station.specs.Feeds.{counted}

-- the count of faults has gone up by one or more, or stands at the last value of its type
abbrev pub Rose : ℕ → ℕ → Type 0
Rose before now = min (before + 1) (2 ^ 64 - 1) ≤ now

-- A count of faults never falls. A call fails only where it rose, and one that answers Ok left it as it was.
pub record HasCause {T E : Type 0} (before now : ℕ) (result : Result T E) : Type 0 where
  pub later : before ≤ now
  pub failed : OnErr result (Rose before now)
  pub kept : OnOk result (now ≡ before)

-- a write takes no more than the piece, and at least one byte of a piece that is not empty
abbrev pub TakesSome : {E : Type 0} → Result ℕ E → List ℕ → Type 0
TakesSome result piece = IfOk result (λ n. (n ≤ length piece) × (0 < length piece → 0 < n))

-- a read that gives no byte has heard the end, and is counted; no other read is
abbrev pub CountsEnd : {E : Type 0} → ℕ → ℕ → Result ℕ E → Type 0
CountsEnd before now result = IfOk result (λ n. now ≡ (if nat_eq n 0 then counted before else before)) × OnErr result (now ≡ before)

-- no end was heard, or one
abbrev pub OneEndAtMost : ℕ → ℕ → Type 0
OneEndAtMost before now = (now ≡ before) ⊎ (now ≡ counted before)

-- some first part of the text was added to what was written, and nothing else
abbrev pub WritesFront : Option (List ℕ) → Option (List ℕ) → List ℕ → Type 0
WritesFront old new text = (front rest : List ℕ) × (text ≡ front ++ rest) × Appends old new front

-- some first part of the bytes that were left was taken, of no more bytes than the limit
abbrev pub TakesUpTo : ℕ → Option (List ℕ) → Option (List ℕ) → Type 0
TakesUpTo limit old new = (front : List ℕ) × (length front ≤ limit) × Consumes old new front
