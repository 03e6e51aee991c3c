use Rattle.std.proofs.Common.{sym, ◌∙◌}
use Rattle.cable_world.proofs.Going.{on_ok_so}
use Rattle.cable_world.proofs.PolledOut.{hears_fed, hears_nothing}
use Rattle.cable_world.proofs.cable.Cable.hear.Goals as goal

pub returns-then-not-runs-clause-goes : goal.returns-then-not-runs-clause-goes
returns-then-not-runs-clause-goes c = hears_nothing c.args.role c.args.given.now c.args.self.now (sym c.runs.ensures ∙ c.if-not-runs.true) c.requires.ready

pub returns-in-Ok-clause-goes : goal.returns-in-Ok-clause-goes
returns-in-Ok-clause-goes c =
    on_ok_so c.poll_out.result c.poll_out.ensures.goes
    (hears_fed c.args.role c.args.given.now c.args.self.now c.feed.new.self c.poll_out.new.self (sym c.runs.ensures ∙ c.if-not-runs.false) c.in-Ok.ensures)
