-- Where a text is refused, and why: at each segment from the front the reasons are asked, in their order, over this segment
-- and those before it.
use Rattle.std.specs.Prelude.{◌≡◌, ℕ, ◌+◌, ◌≤◌, Bool, true, false, List, [], ◌∷◌, length, Option, Some, None, Result, Ok, Err}
use Rattle.segments.specs.Views.{Seg}
use Rattle.segments.specs.SegmentCut.{cut_of}
use Rattle.segments.specs.declared.segment_fault.SegmentFault.{SegmentFault}
use Rattle.transaction_set.specs.declared.set_fault.SetReason.{SetReason}
use Rattle.transaction_set.specs.declared.set_fault.SetReason.TheVariants as reasons
use Rattle.transaction_set.specs.declared.set_fault.SetFault.{SetFault}
use Rattle.transaction_set.specs.declared.set_fault.SetFault.TheVariants as errors

-- where a text is refused, and why
pub record Refusal : Type 0 where
  pub place : ℕ
  pub reason : SetReason

-- where no segment follows: the text ends too early, or no segment can be read there
abbrev pub ended_at : Bool → ℕ → Option SegmentFault → Option Refusal
ended_at whole place (Some fault) = Some (record { place = place; reason = reasons.Segment fault })
ended_at true place None = None
ended_at false place None = Some (record { place = place; reason = reasons.Order })

-- the reason against a segment that starts there, or what comes after it
abbrev pub refused_at : Option SetReason → ℕ → Option Refusal → Option Refusal
refused_at (Some reason) place later = Some (record { place = place; reason = reason })
refused_at None place later = later

-- ---- the first refusal

-- How a set is judged, over what its segments say so far: the first reason against the next one, what is said with it too, and
-- whether the set is whole.
pub record Judged (M : Type 0) : Type 0 where
  pub reason : M → Seg → Option SetReason
  pub after : M → Seg → M
  pub whole : M → Bool

-- The first of these segments with a reason against it, behind what was said before them; or the end, where it comes
-- too early or no segment can be read.
abbrev pub refusal_from : {M : Type 0} → Judged M → M → ℕ → List Seg → Option SegmentFault → Option Refusal
refusal_from j m place [] fault = ended_at (j.whole m) place fault
refusal_from j m place (seg ∷ segs) fault = refused_at (j.reason m seg) seg.start (refusal_from j (j.after m seg) (seg.start + length seg.bytes) segs fault)

-- The first refusal of a text, where there is one.
abbrev pub first_refusal : {M : Type 0} → Judged M → M → List ℕ → Option Refusal
first_refusal j m text = refusal_from j m 0 (cut_of text).segments (cut_of text).fault

-- what these segments say too
abbrev pub said_by : {M : Type 0} → Judged M → M → List Seg → M
said_by j m [] = m
said_by j m (seg ∷ segs) = said_by j (j.after m seg) segs

-- ---- answers

-- the place of a refusal is at most the length of the text
abbrev pub IsWithin : {X : Type 0} → Result X SetFault → ℕ → Type 0
IsWithin (Ok x) size = Unit {0}
IsWithin (Err errors.Memory) size = Unit {0}
IsWithin (Err (errors.Refused place reason)) size = place ≤ size

-- A call refuses so, or answers as said where there is no refusal. Want of memory is free.
abbrev pub Answers : {X : Type 0} → Result X SetFault → Option Refusal → (X → Type 0) → Type 0
Answers (Ok x) refused P = (refused ≡ None) × P x
Answers (Err errors.Memory) refused P = Unit {0}
Answers (Err (errors.Refused place reason)) refused P = refused ≡ Some (record { place = place; reason = reason })
