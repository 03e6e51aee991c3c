use Rattle.std.proofs.Common.{◌≡◌, ◌+◌, ◌-◌, ◌≤◌, ◌++◌, length, take, drop, map}
use Rattle.dsd_station.specs.Planned.{DueByte}
use Rattle.dsd_station.specs.Cursors.{due_at, IsIn}
use Rattle.dsd_station.proofs.port.take_bytes.Given as goal

-- the bytes so far and what is due from here are what was due
abbrev pub invariant-loop-count : goal.invariant-loop-count
invariant-loop-count l = record {
  count : l.count ≤ 64;
  rest : drop l.count l.into ≡ drop l.count l.fn.into;
  bytes : due_at l.fed l.fn.from ≡ map DueByte (take l.count l.into) ++ due_at l.fed l.at;
  inside : IsIn l.fed l.at;
}

abbrev pub decreases-loop-count : goal.decreases-loop-count
decreases-loop-count l = (64 - l.count) + (length l.fed - l.at.head)
