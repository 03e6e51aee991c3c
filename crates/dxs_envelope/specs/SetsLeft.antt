-- What the body of a reading keeps, and what each of its steps says.
use Rattle.std.specs.Prelude.{◌≡◌, ◌+◌, ℕ, ◌-◌, ◌≤◌, List, [], length, take, drop, Option, Some, None, Result, Ok, Err}
use Rattle.segments.specs.Views.{Left, Seg}
use Rattle.segments.specs.declared.segment_fault.SegmentFault.{SegmentFault}
use Rattle.dxs_envelope.specs.FirstFault.{Between, refused, told_behind, told_left, whole}
use Rattle.dxs_envelope.specs.Views.{SetAt, Told}
use Rattle.dxs_envelope.specs.declared.fault.EnvelopeFault.{EnvelopeFault}
use Rattle.dxs_envelope.specs.declared.fault.EnvelopeReason.TheVariants as reasons
use Rattle.dxs_envelope.specs.declared.stage.Stage.{Stage}
use Rattle.dxs_envelope.specs.declared.stage.Stage.TheVariants as stages

-- ---- where it stands

-- what is left to read is what stands in the text from this place on
pub record IsAt (text : List ℕ) (place : ℕ) (left : Left) : Type 0 where
  pub place_is : left.place ≡ place
  pub rest : left.rest ≡ drop place text
  pub inside : place ≤ length text

-- what stands from one place up to another
abbrev pub between : ℕ → ℕ → List ℕ → List ℕ
between start end text = take (end - start) (drop start text)

-- what is told from a stage on
abbrev pub told_in : Stage → Left → Told
told_in (stages.Between control found place) left = told_left (Between control.now found) left
told_in (stages.Ended fault) left = record { sets = []; fault = fault }

-- what stands behind so many sets has at least as many bytes before it
abbrev pub KeepsStage : Stage → List ℕ → Left → Type 0
KeepsStage (stages.Between control found place) text left = IsAt text place left × (found ≤ place)
KeepsStage (stages.Ended fault) text left = Unit {0}

-- ---- what an answer says

-- a set is told first, or nothing more is: the transmission is whole, or has this fault
abbrev pub Tells : Told → Result (Option SetAt) EnvelopeFault → Told → Type 0
Tells old (Ok (Some set)) new = old ≡ told_behind set new
Tells old (Ok None) new = (old ≡ whole) × (new ≡ old)
Tells old (Err fault) new = (old ≡ refused fault) × (new ≡ old)

-- the next segment, or its fault where it starts
abbrev pub segment_at : ℕ → Result (Option Seg) SegmentFault → Result (Option Seg) EnvelopeFault
segment_at place (Ok next) = Ok next
segment_at place (Err fault) = Err (record { place = place; reason = reasons.Segment fault })

-- where a reading stands behind an answer, one set further or at its end
abbrev pub StandsBehind : List ℕ → ℕ → Result (Option SetAt) EnvelopeFault → Stage → Type 0
StandsBehind control found (Ok (Some set)) (stages.Between control' found' place) = (control'.now ≡ control) × (found' ≡ found + 1) × (place ≡ set.start + length set.bytes)
StandsBehind control found (Ok (Some set)) (stages.Ended fault) = ⊥
StandsBehind control found (Ok None) stage = stage ≡ stages.Ended None
StandsBehind control found (Err fault) stage = stage ≡ stages.Ended (Some fault)
