use Rattle.cable_world.specs.CableSteps.{Goes, IsOpen}
use Rattle.cable_world.specs.Obeying.{Exchanges}
use Rattle.cable_world.specs.CableLeft.{left_to_do}
use Rattle.cable_world.specs.declared.cable.Cable.{Cable}
use Rattle.cable_world.proofs.cable.Cable.exchange.Given as goal

abbrev pub invariant-loop-self : goal.invariant-loop-self
invariant-loop-self l = record {
  ready : IsOpen l.self;
  goes : (new : Cable) → Goes Exchanges l.self new → Goes Exchanges l.fn.self new;
}

abbrev pub decreases-loop-self : goal.decreases-loop-self
decreases-loop-self l = left_to_do l.self
