use Rattle.transaction_set.specs.SetWriting.{extra_row}
use Rattle.transaction_set.proofs.Rows.{IsLeftOf}
use Rattle.transaction_set.proofs.set_writer.SetWriter.extras.Given as goal

abbrev pub invariant-loop-extra : goal.invariant-loop-extra
invariant-loop-extra l = IsLeftOf extra_row l.extras l.fn.self l.extra-index l.writer
