use Rattle.transaction_set.specs.SetWriting.{kept_row}
use Rattle.transaction_set.proofs.Rows.{IsLeftOf}
use Rattle.transaction_set.proofs.set_writer.SetWriter.references.Given as goal

abbrev pub invariant-loop-text : goal.invariant-loop-text
invariant-loop-text l = IsLeftOf kept_row l.texts l.fn.self l.text-index l.writer
