use Rattle.std.proofs.Common.{rules, Ok}
use Rattle.dsd_values.proofs.Laws.{number_spelled}
use Rattle.dsd_values.proofs.number.number_within.Goals as goal

pub returns-in_err-number-clause-spelled : goal.returns-in_err-number-clause-spelled
returns-in_err-number-clause-spelled c =
    number_spelled c.args.low c.args.high c.args.text.now c.from_residual.result (search rules)

pub returns-clause-spelled : goal.returns-clause-spelled
returns-clause-spelled c =
    number_spelled c.args.low c.args.high c.args.text.now (Ok c.in_ok-number.number) (search rules)
