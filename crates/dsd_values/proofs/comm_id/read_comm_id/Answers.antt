use Rattle.std.proofs.Common.{rules}
use Rattle.dsd_values.proofs.Laws.{comm_id_of_spelled}
use Rattle.dsd_values.proofs.comm_id.read_comm_id.Goals as goal

pub returns-in-Some-clause-spelled : goal.returns-in-Some-clause-spelled
returns-in-Some-clause-spelled c = comm_id_of_spelled c.args.text.now _ (search rules)

pub returns-clause-spelled : goal.returns-clause-spelled
returns-clause-spelled c = comm_id_of_spelled c.args.text.now _ (search rules)
