use Rattle.cable_world.proofs.Recorded.{obeys_adds, state_at_end}
use Rattle.cable_world.proofs.world_laws.steps_are_the_record.Goals as goal

pub returns : goal.returns
returns c = record { calls = obeys_adds; state = state_at_end }
