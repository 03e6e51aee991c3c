use Rattle.std.proofs.Common.{◌≡◌, ◌-◌, length}
use Rattle.dsd_station.specs.Cursors.{due_at}
use Rattle.dsd_station.proofs.port.is_silent.Given as goal

-- what is due from here is what was due
abbrev pub invariant-loop-at : goal.invariant-loop-at
invariant-loop-at l = due_at l.fed l.fn.from ≡ due_at l.fed l.at

abbrev pub decreases-loop-at : goal.decreases-loop-at
decreases-loop-at l = length l.fed - l.at.head
