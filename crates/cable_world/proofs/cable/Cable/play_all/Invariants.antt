use Rattle.std.proofs.Common.{drop}
use Rattle.cable_world.specs.CableSteps.{Goes, IsOpen}
use Rattle.cable_world.specs.Obeying.{Obeys}
use Rattle.cable_world.specs.declared.cable.Cable.{Cable}
use Rattle.cable_world.proofs.cable.Cable.play_all.Given as goal

abbrev pub invariant-loop-event : goal.invariant-loop-event
invariant-loop-event l = record {
  ready : IsOpen l.self;
  goes : (new : Cable) → Goes (Obeys (drop l.event-index l.events)) l.self new → Goes (Obeys l.events) l.fn.self new;
}
