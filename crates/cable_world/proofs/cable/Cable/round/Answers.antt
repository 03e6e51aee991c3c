use Rattle.std.proofs.Common.{sym, ◌∙◌}
use Rattle.cable_world.proofs.Exchanged.{delivering_round, quiet_round}
use Rattle.cable_world.proofs.Going.{on_ok_so}
use Rattle.cable_world.proofs.Delivered.{none_by, some_by}
use Rattle.cable_world.proofs.cable.Cable.round.Goals as goal

pub returns-then-is_empty-clause-goes : goal.returns-then-is_empty-clause-goes
returns-then-is_empty-clause-goes c =
    on_ok_so c.quiet_both.result c.quiet_both.ensures.goes (quiet_round c.args.self.now c.quiet_both.new.self (none_by c.args.self.now (sym c.is_empty.ensures ∙ c.if-is_empty.true)))

pub returns-else-is_empty-clause-goes : goal.returns-else-is_empty-clause-goes
returns-else-is_empty-clause-goes c =
    on_ok_so c.deliver.result c.deliver.ensures.goes (delivering_round c.args.self.now c.deliver.new.self (some_by c.args.self.now (sym c.is_empty.ensures ∙ c.if-is_empty.false)))
