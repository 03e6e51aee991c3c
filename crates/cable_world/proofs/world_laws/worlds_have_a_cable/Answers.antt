use Rattle.cable_world.proofs.WorldCable.{world_cable}
use Rattle.cable_world.proofs.world_laws.worlds_have_a_cable.Goals as goal

pub returns : goal.returns
returns c = world_cable
