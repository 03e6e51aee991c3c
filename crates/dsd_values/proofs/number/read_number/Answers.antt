use Rattle.std.proofs.Common.{rules}
use Rattle.dsd_values.proofs.Laws.{plain_number_of_spelled}
use Rattle.dsd_values.proofs.number.read_number.Goals as goal

pub returns-in-Ok-clause-spelled : goal.returns-in-Ok-clause-spelled
returns-in-Ok-clause-spelled c = plain_number_of_spelled c.args.text.now _ (search rules)

pub returns-in-Err-clause-spelled : goal.returns-in-Err-clause-spelled
returns-in-Err-clause-spelled c = plain_number_of_spelled c.args.text.now _ (search rules)
