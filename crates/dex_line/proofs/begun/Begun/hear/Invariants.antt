use Rattle.std.proofs.Common.{◌≡◌, ◌-◌, ◌≤◌, [], length, take}
use Rattle.dex_line.specs.Hearing.{hear_all, hearing}
use Rattle.dex_line.specs.Scanning.{held, IsHeld}
use Rattle.dex_line.proofs.begun.Begun.hear.Given as goal

abbrev pub invariant-loop-place : goal.invariant-loop-place
invariant-loop-place l = record {
  heard : hear_all (hearing (held l.fn.self) []) (take l.place l.bytes) ≡ hearing (held l.self) [];
  inside : l.place ≤ length l.bytes;
  sound : IsHeld l.self;
}

abbrev pub decreases-loop-place : goal.decreases-loop-place
decreases-loop-place l = length l.bytes - l.place
