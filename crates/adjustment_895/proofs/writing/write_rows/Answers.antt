use Rattle.std.proofs.Common.{sym, inr}
use Rattle.dsd_pricing.proofs.WholeTexts.{none_long, one_long}
use Rattle.transaction_set.specs.RowsWritten.{first_long}
use Rattle.segments.specs.SegmentWriting.{text_of}
use Rattle.transaction_set.proofs.SetRows.{rows_long, rows_text}
use Rattle.adjustment_895.specs.WrittenText.{rows_of}
use Rattle.adjustment_895.proofs.writing.write_rows.Goals as goal

pub returns-in-Ok-clause-exact : goal.returns-in-Ok-clause-exact
returns-in-Ok-clause-exact c =
    let rows = rows_of c.args.answer.now c.args.control in
    let is = rows_text rows _ c.in-Ok.ensures.exact in
    sym (none_long (first_long rows) (text_of rows) _ is.0 is.1)

pub returns-in-Err-LongSegment-clause-exact : goal.returns-in-Err-LongSegment-clause-exact
returns-in-Err-LongSegment-clause-exact c =
    let rows = rows_of c.args.answer.now c.args.control in
    let given = rw c.in-Err-LongSegment.field-0-is at c.in-Err-LongSegment.ensures.exact in
    inr (sym (one_long (first_long rows) (text_of rows) c.in-Err-LongSegment.size (rows_long rows c.in-Err-LongSegment.size given)))
