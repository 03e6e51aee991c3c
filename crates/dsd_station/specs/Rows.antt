-- What the record has of calls that are made one after the other until one fails.
use Rattle.std.specs.Prelude.{ℕ, ◌≡◌, ◌⊎◌, Bool, true, false, List, [], ◌∷◌, ◌++◌}
use Rattle.dsd_station.specs.declared.call.Outcome.{Outcome}
use Rattle.dsd_station.specs.declared.call.Outcome.TheVariants.{Done}
use Rattle.dsd_station.specs.declared.call.Call.{Call}
use Rattle.dsd_station.specs.declared.call.Call.TheVariants.{Write, Sync}
use Rattle.dsd_station.specs.Failures.{is_failing}
use Rattle.dsd_station.specs.Told.{Told}

-- The record of one call and of what is behind it. A station may keep nothing of a call.
abbrev pub IsKept : Call → List Call → List Call → Type 0
IsKept call kept rest = (kept ≡ call ∷ rest) ⊎ (kept ≡ rest)

-- the record of these calls: all of them went well, or the first of them up to one that failed
abbrev pub IsRow : List (Outcome → Call) → Bool → List Call → Type 0
IsRow [] went kept = (went ≡ true) × (kept ≡ [])
IsRow (call ∷ calls) went kept =
    ((rest : List Call) × IsKept (call Done) kept rest × IsRow calls went rest) ⊎ ((outcome : Outcome) × (went ≡ false) × (is_failing outcome ≡ true) × IsKept (call outcome) kept [])

-- The record is the old one with that of these calls behind it.
pub record Makes (calls : List (Outcome → Call)) (went : Bool) (old new : Told) : Type 0 where
  pub kept : List Call
  pub adds : new.calls ≡ old.calls ++ kept
  pub row : IsRow calls went kept

-- a write of these bytes at this place, and a sync
abbrev pub put_calls : ℕ → List ℕ → List (Outcome → Call)
put_calls at bytes = (λ (outcome : Outcome). Write at bytes outcome) ∷ (λ (outcome : Outcome). Sync outcome) ∷ []
