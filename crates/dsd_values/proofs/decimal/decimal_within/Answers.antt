use Rattle.std.proofs.Common.{rules, Ok}
use Rattle.dsd_values.proofs.Laws.{decimal_of_spelled}
use Rattle.dsd_values.proofs.decimal.decimal_within.Goals as goal

pub returns-in_err-units-clause-spelled : goal.returns-in_err-units-clause-spelled
returns-in_err-units-clause-spelled c =
    decimal_of_spelled c.args.places c.args.high c.args.text.now c.from_residual.result (search rules)

pub returns-clause-spelled : goal.returns-clause-spelled
returns-clause-spelled c =
    decimal_of_spelled c.args.places c.args.high c.args.text.now (Ok c.in_ok-units.units) (search rules)

pub returns-then-units-high-clause-spelled : goal.returns-then-units-high-clause-spelled
returns-then-units-high-clause-spelled c =
    decimal_of_spelled c.args.places c.args.high c.args.text.now _ (search rules)
