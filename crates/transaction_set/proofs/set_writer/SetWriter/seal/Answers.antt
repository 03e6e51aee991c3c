use Rattle.segments.specs.declared.segment_write_fault.SegmentWriteFault.TheVariants.{Memory}
use Rattle.transaction_set.proofs.Rows.{passed_on}
use Rattle.transaction_set.proofs.SetRows.{text_refused}
use Rattle.transaction_set.proofs.set_writer.SetWriter.seal.Goals as goal

pub returns-in_err-writer-clause-exact : goal.returns-in_err-writer-clause-exact
returns-in_err-writer-clause-exact c = passed_on Memory _ _ _ _ c.from_residual.ensures (text_refused _ _ _ c.in_err-writer.was c.sealing.ensures)
