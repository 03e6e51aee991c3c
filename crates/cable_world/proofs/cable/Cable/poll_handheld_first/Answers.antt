use Rattle.std.proofs.Common.{sym, ◌∙◌}
use Rattle.cable_world.proofs.Going.{on_ok_so}
use Rattle.cable_world.proofs.StartedEnds.{handheld_not_polled, handheld_polled}
use Rattle.cable_world.proofs.cable.Cable.poll_handheld_first.Goals as goal

pub returns-then-not-runs : goal.returns-then-not-runs
returns-then-not-runs c = handheld_not_polled c.args.self.now (sym c.runs.ensures ∙ c.if-not-runs.true) c.requires.ready

pub returns : goal.returns
returns c = on_ok_so c.poll.result c.poll.ensures.goes (handheld_polled c.args.self.now c.poll.new.self (sym c.runs.ensures ∙ c.if-not-runs.false))
