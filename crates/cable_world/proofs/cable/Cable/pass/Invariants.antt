use Rattle.cable_world.specs.CableSteps.{Goes, IsOpen}
use Rattle.cable_world.specs.Obeying.{Delivers, Times, unchanged}
use Rattle.cable_world.specs.declared.cable.Cable.{Cable}
use Rattle.cable_world.proofs.cable.Cable.pass.Given as goal

abbrev pub invariant-loop-left : goal.invariant-loop-left
invariant-loop-left l = record {
  ready : IsOpen l.self;
  goes : (new : Cable) → Goes (Times l.left (Delivers unchanged)) l.self new → Goes (Times l.fn.times (Delivers unchanged)) l.fn.self new;
}

abbrev pub decreases-loop-left : goal.decreases-loop-left
decreases-loop-left l = l.left
