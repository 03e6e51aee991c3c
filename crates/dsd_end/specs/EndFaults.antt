-- The faults of an end.
use Rattle.std.specs.Prelude.{◌≡◌, ℕ, ◌<◌, ◌≤◌, false, Result, Ok, Err}
use Rattle.dsd_station.specs.Causes.{Rose}
use Rattle.own_turn.specs.declared.turn_fault.TurnFault.{TurnFault}
use Rattle.own_turn.specs.declared.turn_fault.TurnFault.TheVariants as turns
use Rattle.dex_handshake.specs.declared.session_end.TheConstants.{MOST_QUIETS}
use Rattle.dsd_end.specs.Patience.{quiets_in}
use Rattle.dsd_end.specs.Standings.{Standing, has_ended}
use Rattle.dsd_end.specs.declared.fault.EndFault.{EndFault}
use Rattle.dsd_end.specs.declared.fault.EndFault.TheVariants as ends
use Rattle.dsd_end.specs.declared.fault.TheConstants.{NOISE_BYTES}

abbrev pub fault_of : TurnFault → EndFault
fault_of turns.Station = ends.Station
fault_of (turns.Full n) = ends.Full n
fault_of turns.Memory = ends.Memory

-- a call answers that the station failed only where the count of faults rose, and then alone it rose
abbrev pub EndsAtStation : {T : Type 0} → Result T EndFault → ℕ → ℕ → Type 0
EndsAtStation (Ok value) before now = now ≡ before
EndsAtStation (Err ends.Station) before now = (before ≤ now) × Rose before now
EndsAtStation (Err (ends.Full n)) before now = now ≡ before
EndsAtStation (Err (ends.Noise n)) before now = now ≡ before
EndsAtStation (Err ends.Failed) before now = now ≡ before
EndsAtStation (Err ends.Memory) before now = now ≡ before

-- what is said of the count that a call answers in `Noise`
abbrev pub IfNoise : {T : Type 0} → Result T EndFault → (ℕ → Type 0) → Type 0
IfNoise (Ok value) P = Unit {0}
IfNoise (Err ends.Station) P = Unit {0}
IfNoise (Err (ends.Full n)) P = Unit {0}
IfNoise (Err (ends.Noise n)) P = P n
IfNoise (Err ends.Failed) P = Unit {0}
IfNoise (Err ends.Memory) P = Unit {0}

-- while the session goes on, fewer bytes were heard than are noise, and fewer Quiets in a row than end it
abbrev pub IsQuietSoFar : Standing → Type 0
IsQuietSoFar standing = has_ended standing.line ≡ false → (standing.heard < NOISE_BYTES) × (quiets_in standing.line < MOST_QUIETS)

-- so many bytes were heard, which are noise, and the session goes on
pub record IsNoise (standing : Standing) (count : ℕ) : Type 0 where
  pub heard : count ≡ standing.heard
  pub many : NOISE_BYTES ≤ count
  pub goes_on : has_ended standing.line ≡ false
