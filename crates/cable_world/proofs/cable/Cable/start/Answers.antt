use Rattle.std.proofs.Common.{sym, ◌∙◌}
use Rattle.cable_world.proofs.Going.{on_ok_so}
use Rattle.cable_world.proofs.StartedEnds.{starts_off, starts_on}
use Rattle.cable_world.proofs.cable.Cable.start.Goals as goal

pub returns-then-runs : goal.returns-then-runs
returns-then-runs c = starts_on c.args.role c.args.self.now (sym c.runs.ensures ∙ c.if-runs.true) c.requires.ready

pub returns-in-Ok : goal.returns-in-Ok
returns-in-Ok c = on_ok_so c.poll_first.result c.poll_first.ensures (starts_off c.args.role c.args.self.now c.open.new.self c.poll_first.new.self (sym c.runs.ensures ∙ c.if-runs.false) c.in-Ok.ensures.goes)
