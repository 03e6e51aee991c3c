use Rattle.std.proofs.Common.{◌≡◌, ◌+◌, ◌-◌, ◌<◌, ◌≤◌, true, length, get_or}
use Rattle.segments.specs.SegmentCut.{is_outside}
use Rattle.segments.proofs.Scan.{Scanned}
use Rattle.segments.proofs.Walk.{Walked}
use Rattle.segments.proofs.segment_body.body_at.Given as goal

abbrev pub invariant-loop-inside : goal.invariant-loop-inside
invariant-loop-inside l = record {
  scanned : Scanned l.front l.ends.items l.place;
  few : l.inside ≤ 32;
  outside : l.inside < 32 → is_outside (get_or l.front l.place 0) ≡ true;
}

abbrev pub decreases-loop-inside : goal.decreases-loop-inside
decreases-loop-inside l = length l.front + l.inside - l.place

abbrev pub invariant-loop-stars : goal.invariant-loop-stars
invariant-loop-stars l = Walked l.front l.ends.items l.place (l.place + l.inside) l.stars

abbrev pub decreases-loop-stars : goal.decreases-loop-stars
decreases-loop-stars l = l.stars
