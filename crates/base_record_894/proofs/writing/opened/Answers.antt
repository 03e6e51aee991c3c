use Rattle.std.proofs.Common.{◌∙◌, sym, subst, List, ℕ, map}
use Rattle.std.specs.List.{All}
use Rattle.dsd_values.specs.Answers.{UnlessMemory}
use Rattle.transaction_set.specs.RowsWritten.{after_writing}
use Rattle.segments.specs.SegmentSpelling.{IsSegment}
use Rattle.transaction_set.specs.SetWriting.{kept_row, start_row}
use Rattle.transaction_set.specs.declared.kind.Form.TheVariants as forms
use Rattle.segments.specs.declared.segment_write_fault.SegmentWriteFault.TheVariants.{Memory}
use Rattle.transaction_set.proofs.Rows.{same_err}
use Rattle.transaction_set.proofs.SetRows.{all_written, references_refused}
use Rattle.base_record_894.specs.WrittenText.{head_row, later_rows}
use Rattle.base_record_894.proofs.WrittenBack.{asked, reference_rows}
use Rattle.base_record_894.proofs.writing.opened.Goals as goal

pub start-requires : goal.start-requires
start-requires c = (asked c.args.base.now c.args.control c.requires c.stated.ensures.spelled).start

pub head-requires : goal.head-requires
head-requires c = (asked c.args.base.now c.args.control c.requires c.stated.ensures.spelled).head

pub references-requires-2 : goal.references-requires-2
references-requires-2 c =
    subst (λ (texts : List (List ℕ)). All IsSegment (map kept_row texts)) (sym (c.as_slice.ensures ∙ c.references.ensures))
    (asked c.args.base.now c.args.control c.requires c.stated.ensures.spelled).references

pub returns-in_err-references-clause-exact : goal.returns-in_err-references-clause-exact
returns-in_err-references-clause-exact c =
    let base = c.args.base.now in
    let written = subst (λ (texts : List (List ℕ)). UnlessMemory Memory c.references-2.result (after_writing (map kept_row texts) c.in_ok-writer.writer)) (c.as_slice.ensures ∙ c.references.ensures) c.references-2.ensures in
    references_refused (start_row forms.Base c.args.control) (head_row base) (reference_rows base) (later_rows base) c.args.writer c.in_ok-start.field-0 c.in_ok-writer.writer _ _ c.in_ok-start.was c.start.ensures c.in_ok-writer.was c.head.ensures
    _ _ _ c.in_err-references.was (same_err _ _ c.from_residual-in_err-references.ensures) written

pub later-requires : goal.later-requires
later-requires c = (asked c.args.base.now c.args.control c.requires c.stated.ensures.spelled).later

pub returns-clause-exact : goal.returns-clause-exact
returns-clause-exact c =
    let base = c.args.base.now in
    let written = subst (λ (texts : List (List ℕ)). UnlessMemory Memory c.references-2.result (after_writing (map kept_row texts) c.in_ok-writer.writer)) (c.as_slice.ensures ∙ c.references.ensures) c.references-2.ensures in
    all_written (start_row forms.Base c.args.control) (head_row base) (reference_rows base) (later_rows base) c.args.writer c.in_ok-start.field-0 c.in_ok-writer.writer _ _ c.in_ok-start.was c.start.ensures c.in_ok-writer.was c.head.ensures
    _ _ c.in_ok-references.field-0 c.in_ok-references.was written c.later.ensures
