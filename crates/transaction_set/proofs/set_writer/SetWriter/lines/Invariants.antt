use Rattle.transaction_set.specs.SetWriting.{line_rows}
use Rattle.transaction_set.proofs.Rows.{IsLeft}
use Rattle.transaction_set.proofs.set_writer.SetWriter.lines.Given as goal

abbrev pub invariant-loop-line : goal.invariant-loop-line
invariant-loop-line l = IsLeft (line_rows l.fn.form) l.lines l.fn.self l.line-index l.writer
