use Rattle.std.proofs.Common.{rules}
use Rattle.dsd_values.proofs.Laws.{decimal_of_spelled}
use Rattle.dsd_values.proofs.percent.read_percent.Goals as goal

pub returns-in_err-number-clause-spelled : goal.returns-in_err-number-clause-spelled
returns-in_err-number-clause-spelled c = decimal_of_spelled _ _ c.args.text.now c.from_residual.result (search rules)

pub returns-clause-spelled : goal.returns-clause-spelled
returns-clause-spelled c = decimal_of_spelled _ _ c.args.text.now _ (search rules)
