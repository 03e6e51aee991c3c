use Rattle.std.proofs.Common.{◌≡◌, ◌++◌, drop, map}
use Rattle.cable_world.specs.Cables.{waiting_as}
use Rattle.cable_world.specs.Scenes.{sent_to}
use Rattle.cable_world.proofs.gathering.wait_all.Given as goal

abbrev pub invariant-loop-frame : goal.invariant-loop-frame
invariant-loop-frame l = map waiting_as l.waiting.items ++ sent_to l.to (drop l.frame-index l.frames) ≡ map waiting_as l.fn.waiting.items ++ sent_to l.to l.frames
