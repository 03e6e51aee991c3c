use Rattle.std.proofs.Common.{rules, arith}
use Rattle.std.proofs.lemmas.Grind.{common_steps}
use Rattle.dsd_values.proofs.Laws.{day_of_spelled}
use Rattle.dsd_values.proofs.day.read_day.Goals as goal

pub returns-in-Err-clause-spelled : goal.returns-in-Err-clause-spelled
returns-in-Err-clause-spelled c = day_of_spelled c.args.text.now _ (search rules)

pub returns-in-Ok-2-clause-spelled : goal.returns-in-Ok-2-clause-spelled
returns-in-Ok-2-clause-spelled c = day_of_spelled c.args.text.now c.day_at.result (grind (arith, common_steps))
