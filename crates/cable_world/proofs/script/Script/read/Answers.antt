use Rattle.cable_world.proofs.ScriptAgain.{only}
use Rattle.cable_world.proofs.ScriptSaid.{found}
use Rattle.cable_world.proofs.script.Script.read.Goals as goal

pub returns-clause-found : goal.returns-clause-found
returns-clause-found c = found c.args.text.now c.read_lines.result c.read_lines.ensures

pub returns-clause-only : goal.returns-clause-only
returns-clause-only c = only c.args.text.now c.read_lines.result c.read_lines.ensures
