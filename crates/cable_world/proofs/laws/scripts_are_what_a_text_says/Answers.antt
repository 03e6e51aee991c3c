use Rattle.cable_world.proofs.ScriptAgain.{again, one}
use Rattle.cable_world.proofs.ScriptSaid.{says}
use Rattle.cable_world.proofs.laws.scripts_are_what_a_text_says.Goals as goal

pub returns-clause-read : goal.returns-clause-read
returns-clause-read c text script = (says text script, again text script)

pub returns-clause-one : goal.returns-clause-one
returns-clause-one c text script other = one text script other
