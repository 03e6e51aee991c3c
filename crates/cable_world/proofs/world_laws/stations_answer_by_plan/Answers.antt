use Rattle.cable_world.proofs.ByStation.{part_answered}
use Rattle.cable_world.proofs.world_laws.stations_answer_by_plan.Goals as goal

pub returns : goal.returns
returns c = part_answered
