use Rattle.std.proofs.Common.{◌≡◌, ◌≤◌, length, drop, position, None}
use Rattle.dex_line.specs.TextUnits.{is_feed}
use Rattle.dex_line.proofs.units.lines_len.Given as goal

abbrev pub invariant-loop-size : goal.invariant-loop-size
invariant-loop-size l = record {
  inside : l.size ≤ length l.bytes;
  none : position is_feed (drop l.size l.bytes) ≡ None;
}

abbrev pub decreases-loop-size : goal.decreases-loop-size
decreases-loop-size l = l.size
