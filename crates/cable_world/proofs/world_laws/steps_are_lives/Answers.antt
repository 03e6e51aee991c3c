use Rattle.cable_world.proofs.JoinedRuns.{lived}
use Rattle.cable_world.proofs.world_laws.steps_are_lives.Goals as goal

pub returns : goal.returns
returns c = λ role header steps state fine leaves begins. lived c.an_image_holds_one_list.ensures role header steps state fine leaves begins
