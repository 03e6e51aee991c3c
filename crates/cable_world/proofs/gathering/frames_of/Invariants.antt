use Rattle.std.proofs.Common.{◌≡◌, ◌++◌, drop}
use Rattle.cable_world.specs.Steps.{frames_in}
use Rattle.cable_world.proofs.gathering.frames_of.Given as goal

abbrev pub invariant-loop-call : goal.invariant-loop-call
invariant-loop-call l = l.frames.items ++ frames_in (drop l.call-index l.calls) ≡ frames_in l.calls
