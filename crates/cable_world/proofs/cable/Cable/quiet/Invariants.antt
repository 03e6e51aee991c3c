use Rattle.dsd_station.specs.declared.feeding.Given.TheVariants as given
use Rattle.cable_world.specs.CableSteps.{Goes, IsOpen}
use Rattle.cable_world.specs.Obeying.{Hears, Times}
use Rattle.cable_world.specs.declared.cable.Cable.{Cable}
use Rattle.cable_world.proofs.cable.Cable.quiet.Given as goal

abbrev pub invariant-loop-left : goal.invariant-loop-left
invariant-loop-left l = record {
  ready : IsOpen l.self;
  goes : (new : Cable) → Goes (Times l.left (Hears l.role (given.Quiet 1))) l.self new → Goes (Times l.fn.times (Hears l.role (given.Quiet 1))) l.fn.self new;
}

abbrev pub decreases-loop-left : goal.decreases-loop-left
decreases-loop-left l = l.left
