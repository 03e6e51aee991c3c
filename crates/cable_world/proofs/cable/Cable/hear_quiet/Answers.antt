use Rattle.std.proofs.Common.{sym, ◌∙◌}
use Rattle.dsd_station.specs.declared.feeding.Given.TheVariants as given
use Rattle.cable_world.proofs.Going.{on_ok_so}
use Rattle.cable_world.proofs.PolledOut.{hears_fed, hears_nothing, quiet_less}
use Rattle.cable_world.proofs.cable.Cable.hear_quiet.Goals as goal

pub returns-in-Ok-clause-less : goal.returns-in-Ok-clause-less
returns-in-Ok-clause-less c = quiet_less c.args.role c.args.self.now c.feed.new.self c.poll_out.new.self c.poll_out.result c.in-Ok.ensures c.poll_out.ensures.less

pub returns-then-not-runs-clause-goes : goal.returns-then-not-runs-clause-goes
returns-then-not-runs-clause-goes c = hears_nothing c.args.role (given.Quiet 1) c.args.self.now (sym c.runs.ensures ∙ c.if-not-runs.true) c.requires.ready

pub returns-in-Ok-clause-goes : goal.returns-in-Ok-clause-goes
returns-in-Ok-clause-goes c =
    on_ok_so c.poll_out.result c.poll_out.ensures.goes
    (hears_fed c.args.role (given.Quiet 1) c.args.self.now c.feed.new.self c.poll_out.new.self (sym c.runs.ensures ∙ c.if-not-runs.false) c.in-Ok.ensures)
