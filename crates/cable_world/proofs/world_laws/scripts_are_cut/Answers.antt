use Rattle.cable_world.proofs.CutScripts.{obeys_both, obeys_parts}
use Rattle.cable_world.proofs.world_laws.scripts_are_cut.Goals as goal

pub returns : goal.returns
returns c = record { parts = obeys_parts; both = obeys_both }
