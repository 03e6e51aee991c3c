use Rattle.receiver_core.proofs.Worked.{stays, same_line, fewer_units, left_out}
use Rattle.receiver_core.proofs.laws.lines_that_differ.Goals as goal

pub returns-clause-none : goal.returns-clause-none
returns-clause-none c line e = stays line e

pub returns-clause-agreed : goal.returns-clause-agreed
returns-clause-agreed c line counted q k = same_line line counted q k

pub returns-clause-fewer : goal.returns-clause-fewer
returns-clause-fewer c line counted q k = fewer_units line counted q k

pub returns-clause-uncounted : goal.returns-clause-uncounted
returns-clause-uncounted c line e = left_out line e
