use Rattle.std.proofs.Common.{◌≡◌, drop}
use Rattle.dsd_station.specs.Replayed.{picked}
use Rattle.dsd_station.proofs.ranges.left_by.Given as goal

-- the image so far with the ranges that are left gives what all give
abbrev pub invariant-loop-range : goal.invariant-loop-range
invariant-loop-range l = picked l.pick l.image.items (drop l.range-index l.pending) ≡ picked l.pick l.sure l.pending
