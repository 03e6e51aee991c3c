-- What a cut says of its text.
use Rattle.std.specs.Prelude.{◌≡◌, ℕ, ◌+◌, ◌≤◌, List, [], ◌∷◌, ◌++◌, length, take, drop, MatchOption}
use Rattle.segments.specs.Views.{Seg, Left}
use Rattle.segments.specs.SegmentSpelling.{SpellsSegments}
use Rattle.segments.specs.SegmentCut.{Cut}
use Rattle.segments.specs.SegmentRefusal.{IsFault}

-- these segments are spelled by a front of what is left, and behind it the text ends, or this fault stands
pub record IsCut (cut : Cut) (left : Left) : Type 0 where
  pub front : List ℕ
  pub rest : List ℕ
  pub joined : left.rest ≡ front ++ rest
  pub spelled : SpellsSegments left.place cut.segments front
  pub stopped : MatchOption cut.fault (rest ≡ []) (IsFault (record { rest = rest; place = left.place + length front }))

-- the segment is what stands in the text at its start
pub record StandsIn (text : List ℕ) (seg : Seg) : Type 0 where
  pub within : seg.start + length seg.bytes ≤ length text
  pub there : take (length seg.bytes) (drop seg.start text) ≡ seg.bytes

-- the first of these segments starts at this place, and each other where the one before it ends
abbrev pub StartsFrom : ℕ → List Seg → Type 0
StartsFrom place [] = Unit {0}
StartsFrom place (seg ∷ more) = (seg.start ≡ place) × StartsFrom (place + length seg.bytes) more
