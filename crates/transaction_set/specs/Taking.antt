-- A reader of a set that takes its segments one after another. It counts places from where its first segment starts.
use Rattle.std.specs.Prelude.{◌≡◌, ℕ, ◌+◌, ◌≤◌, Bool, List, [], ◌∷◌, length, Option, Some, None, Result, Ok, Err}
use Rattle.segments.specs.Views.{Seg}
use Rattle.segments.specs.SegmentSpelling.{SpellsSegments}
use Rattle.segments.specs.declared.segment_fault.SegmentFault.{SegmentFault}
use Rattle.transaction_set.specs.Refusal.{Judged, Refusal, refused_at, said_by}
use Rattle.transaction_set.specs.Reasons.{Says}
use Rattle.transaction_set.specs.declared.set_fault.SetFault.{SetFault}
use Rattle.transaction_set.specs.declared.set_fault.SetFault.TheVariants as errors
use Rattle.transaction_set.specs.declared.set_fault.SetReason.TheVariants as reasons

-- What contracts see of a reader: what the segments taken say, how many bytes they have, and the fault that it has stopped with.
pub record Taken (M : Type 0) : Type 0 where
  pub said : M
  pub size : ℕ
  pub fault : Option SetFault

-- no segment has been taken
abbrev pub none_taken : {M : Type 0} → M → Taken M
none_taken m = record { said = m; size = 0; fault = None }

-- the segment, where it starts at this place of its set
abbrev pub in_set : ℕ → Seg → Seg
in_set place seg = record { start = place; bytes = seg.bytes; parts = seg.parts }

-- the same fault, at this place of the set
abbrev pub told_at : ℕ → SetFault → SetFault
told_at place (errors.Refused at reason) = errors.Refused place reason
told_at place errors.Memory = errors.Memory

-- ---- one segment more

-- what is said with a segment that is taken
abbrev pub taken_with : {M : Type 0} → Judged M → Taken M → Seg → Taken M
taken_with j old seg = record { said = j.after old.said seg; size = old.size + length seg.bytes; fault = None }

-- a refusal is kept
abbrev pub IsKept : {X : Type 0} → Result X SetFault → Option SetFault → Type 0
IsKept (Ok x) fault = fault ≡ None
IsKept (Err refusal) fault = fault ≡ Some refusal

-- The answer to one segment more, where the reader had this fault. A reader that has stopped answers its fault again. Else the
-- segment is refused for the first reason against it, at its place in the set, or taken, and the set is then whole or not.
-- Want of memory is free.
abbrev pub TakesBehind : {M : Type 0} → Judged M → Option SetFault → Taken M → Seg → Result Bool SetFault → Taken M → Type 0
TakesBehind j (Some fault) old seg answer new = (answer ≡ Err fault) × (new ≡ old)
TakesBehind j None old seg answer new =
    Says answer old.size (j.reason old.said seg) (λ whole. (whole ≡ j.whole new.said) × (new ≡ taken_with j old seg)) × IsKept answer new.fault

abbrev pub Takes : {M : Type 0} → Judged M → Taken M → Seg → Result Bool SetFault → Taken M → Type 0
Takes j old seg answer new = TakesBehind j old.fault old (in_set old.size seg) answer new

-- ---- all segments so far

-- the first of these segments with a reason against it, whatever follows them
abbrev pub first_reason : {M : Type 0} → Judged M → M → List Seg → Option Refusal
first_reason j m [] = None
first_reason j m (seg ∷ segs) = refused_at (j.reason m seg) seg.start (first_reason j (j.after m seg) segs)

-- what these segments say is what was said, and there is nothing against any of them
pub record AreRight {M : Type 0} (j : Judged M) (start : M) (segments : List Seg) (text : List ℕ) (reader : Taken M) : Type 0 where
  pub said : reader.said ≡ said_by j start segments
  pub size : reader.size ≡ length text
  pub right : first_reason j start segments ≡ None

-- where a reader stands behind these segments, with this fault
abbrev pub StandsWith : {M : Type 0} → Judged M → M → List Seg → List ℕ → Taken M → Option SetFault → Type 0
StandsWith j start segments text reader None = AreRight j start segments text reader
StandsWith j start segments text reader (Some (errors.Refused place reason)) = first_reason j start segments ≡ Some (record { place = place; reason = reason })
StandsWith j start segments text reader (Some errors.Memory) = Unit {0}

-- The reader has taken segments whose joined bytes are this text.
pub record IsTaken {M : Type 0} (j : Judged M) (start : M) (text : List ℕ) (reader : Taken M) : Type 0 where
  pub segments : List Seg
  pub spelled : SpellsSegments 0 segments text
  pub stands : StandsWith j start segments text reader reader.fault

-- while a reader has not stopped, it has taken no more segments than bytes
abbrev pub HasCounted : Option SetFault → ℕ → ℕ → Type 0
HasCounted None count size = count ≤ size
HasCounted (Some fault) count size = Unit {0}

-- ---- the end

-- why the text is refused that goes on behind the segments taken with bytes of which no segment can be read
abbrev pub broken_by : {M : Type 0} → Taken M → SegmentFault → Option SetFault → SetFault
broken_by reader fault (Some stopped) = stopped
broken_by reader fault None = errors.Refused reader.size (reasons.Segment fault)

-- such a fault tells this refusal. Want of memory is free
abbrev pub IsFaultOf : SetFault → Option Refusal → Type 0
IsFaultOf (errors.Refused place reason) refused = refused ≡ Some (record { place = place; reason = reason })
IsFaultOf errors.Memory refused = Unit {0}
