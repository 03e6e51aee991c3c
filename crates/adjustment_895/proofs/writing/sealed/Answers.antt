use Rattle.std.proofs.Common.{ℕ, ◌≡◌, List, Result, subst}
use Rattle.std.specs.Result.{IfOk}
use Rattle.block_check.specs.Crc16.{crc_of}
use Rattle.dsd_values.specs.Answers.{Gives, UnlessMemory}
use Rattle.transaction_set.specs.RowsWritten.{SetSoFar, after_writing}
use Rattle.segments.specs.declared.segment_write_fault.SegmentWriteFault.{SegmentWriteFault}
use Rattle.segments.specs.declared.segment_write_fault.SegmentWriteFault.TheVariants.{Memory}
use Rattle.transaction_set.proofs.Rows.{passed_on}
use Rattle.transaction_set.proofs.SetRows.{AreOpened, are_opened, sealed_refused}
use Rattle.adjustment_895.specs.WrittenText.{opened_rows}
use Rattle.adjustment_895.proofs.writing.sealed.Goals as goal

pub returns-in_err-opened-clause-exact : goal.returns-in_err-opened-clause-exact
returns-in_err-opened-clause-exact c =
    let written = subst (λ (old : SetSoFar). UnlessMemory Memory c.opened.result (after_writing (opened_rows c.args.answer.now c.args.control) old)) c.new.ensures c.opened.ensures.exact in
    passed_on Memory _ _ _ _ c.from_residual.ensures (sealed_refused (opened_rows c.args.answer.now c.args.control) c.args.control _ _ c.in_err-opened.was written)

pub returns-clause-exact : goal.returns-clause-exact
returns-clause-exact c =
    let written = subst (λ (old : SetSoFar). UnlessMemory Memory c.opened.result (after_writing (opened_rows c.args.answer.now c.args.control) old)) c.new.ensures c.opened.ensures.exact in
    let opened = are_opened (opened_rows c.args.answer.now c.args.control) c.args.control c.in_ok-opened.field-0 _ c.in_ok-opened.was written in
    subst (λ (wanted : Result (List ℕ) SegmentWriteFault). Gives Memory (λ sealed. sealed.0) c.seal.result wanted) opened.sealing c.seal.ensures.exact

pub returns-clause-check : goal.returns-clause-check
returns-clause-check c =
    let written = subst (λ (old : SetSoFar). UnlessMemory Memory c.opened.result (after_writing (opened_rows c.args.answer.now c.args.control) old)) c.new.ensures c.opened.ensures.exact in
    let opened = are_opened (opened_rows c.args.answer.now c.args.control) c.args.control c.in_ok-opened.field-0 _ c.in_ok-opened.was written in
    subst (λ (text : List ℕ). IfOk c.seal.result (λ sealed. sealed.1 ≡ crc_of text)) opened.text c.seal.ensures.check
