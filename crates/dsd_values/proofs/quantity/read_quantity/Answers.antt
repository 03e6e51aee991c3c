use Rattle.std.proofs.Common.{rules}
use Rattle.dsd_values.proofs.Laws.{number_spelled}
use Rattle.dsd_values.proofs.quantity.read_quantity.Goals as goal

pub returns-in_err-number-clause-spelled : goal.returns-in_err-number-clause-spelled
returns-in_err-number-clause-spelled c = number_spelled _ _ c.args.text.now c.from_residual.result (search rules)

pub returns-clause-spelled : goal.returns-clause-spelled
returns-clause-spelled c = number_spelled _ _ c.args.text.now _ (search rules)
