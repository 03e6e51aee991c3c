use Rattle.std.proofs.Common.{[], ◌∷◌, ◌++◌, length, List, subst, sym, ◌∙◌}
use Rattle.std.specs.List.{All, flat_map}
use Rattle.std.proofs.lemmas.List.Elements.{All-tail}
use Rattle.dsd_values.specs.Answers.{UnlessMemory}
use Rattle.transaction_set.specs.RowsWritten.{after_writing}
use Rattle.segments.specs.SegmentSpelling.{IsSegment}
use Rattle.transaction_set.specs.SetWriting.{Row, line_rows, loop_end_row, loop_start_row}
use Rattle.segments.specs.declared.segment_write_fault.SegmentWriteFault.TheVariants.{Memory}
use Rattle.transaction_set.proofs.Rows.{all_front, both_written, first_refused, loop_is, not_empty, same_err}
use Rattle.transaction_set.proofs.set_writer.SetWriter.items.Goals as goal

pub lines-requires : goal.lines-requires
lines-requires c =
    let some = not_empty (length c.args.lines.now) (sym c.is_empty.ensures ∙ c.if-is_empty.false) in
    let rows : List Row = flat_map (line_rows c.args.form) c.args.lines.now in
    let all = subst (All IsSegment) (loop_is c.args.form c.args.lines.now some) c.requires in
    all_front IsSegment rows (loop_end_row ∷ []) (All-tail IsSegment loop_start_row (rows ++ loop_end_row ∷ []) all)

pub returns-in_err-lines : goal.returns-in_err-lines
returns-in_err-lines c =
    let some = not_empty (length c.args.lines.now) (sym c.is_empty.ensures ∙ c.if-is_empty.false) in
    let rows : List Row = flat_map (line_rows c.args.form) c.args.lines.now in
    let same = same_err _ _ c.from_residual-in_err-lines.ensures in
    subst (λ (all : List Row). UnlessMemory Memory c.from_residual-in_err-lines.result (after_writing all c.args.self)) (sym (loop_is c.args.form c.args.lines.now some))
    (both_written (loop_start_row ∷ []) (rows ++ loop_end_row ∷ []) c.args.self c.in_ok-row.field-0 _ _ c.in_ok-row.was c.row.ensures
    (first_refused rows (loop_end_row ∷ []) c.in_ok-row.field-0 _ _ _ c.in_err-lines.was same c.lines.ensures))

pub returns : goal.returns
returns c =
    let some = not_empty (length c.args.lines.now) (sym c.is_empty.ensures ∙ c.if-is_empty.false) in
    let rows : List Row = flat_map (line_rows c.args.form) c.args.lines.now in
    subst (λ (all : List Row). UnlessMemory Memory c.row-2.result (after_writing all c.args.self)) (sym (loop_is c.args.form c.args.lines.now some))
    (both_written (loop_start_row ∷ []) (rows ++ loop_end_row ∷ []) c.args.self c.in_ok-row.field-0 _ _ c.in_ok-row.was c.row.ensures
    (both_written rows (loop_end_row ∷ []) c.in_ok-row.field-0 c.in_ok-lines.field-0 _ _ c.in_ok-lines.was c.lines.ensures c.row-2.ensures))
