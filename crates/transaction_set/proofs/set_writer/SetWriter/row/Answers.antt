use Rattle.transaction_set.proofs.Rows.{row_elements, row_tail}
use Rattle.transaction_set.proofs.set_writer.SetWriter.row.Goals as goal

pub give_all-requires-clause-characters : goal.give_all-requires-clause-characters
give_all-requires-clause-characters c = row_elements c.args.id.now _ c.args.tail.now c.requires

pub give_tail-requires-clause-characters : goal.give_tail-requires-clause-characters
give_tail-requires-clause-characters c = row_tail c.args.id.now _ c.args.tail.now c.requires
