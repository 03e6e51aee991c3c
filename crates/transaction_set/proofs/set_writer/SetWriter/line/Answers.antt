use Rattle.std.proofs.Common.{[], ◌∷◌, List, map, subst, sym}
use Rattle.std.specs.List.{All}
use Rattle.std.proofs.lemmas.List.Elements.{All-head, All-tail}
use Rattle.dsd_values.specs.Answers.{UnlessMemory}
use Rattle.dsd_values.specs.declared.extra.Extra.{Extra}
use Rattle.transaction_set.specs.RowsWritten.{after_writing}
use Rattle.segments.specs.SegmentSpelling.{IsSegment}
use Rattle.transaction_set.specs.SetWriting.{extra_row, item_row}
use Rattle.segments.specs.declared.segment_write_fault.SegmentWriteFault.TheVariants.{Memory}
use Rattle.transaction_set.proofs.Rows.{both_written}
use Rattle.transaction_set.proofs.set_writer.SetWriter.line.Goals as goal

pub item-requires : goal.item-requires
item-requires c = All-head IsSegment (item_row c.args.form c.args.line.now) (map extra_row c.args.line.now.extras) c.requires

pub extras-requires : goal.extras-requires
extras-requires c =
    subst (λ (extras : List Extra). All IsSegment (map extra_row extras)) (sym c.as_slice.ensures)
    (All-tail IsSegment (item_row c.args.form c.args.line.now) (map extra_row c.args.line.now.extras) c.requires)

pub returns : goal.returns
returns c =
    both_written (item_row c.args.form c.args.line.now ∷ []) (map extra_row c.args.line.now.extras) c.args.self c.in_ok-item.field-0 _ _ c.in_ok-item.was c.item.ensures
    (subst (λ (extras : List Extra). UnlessMemory Memory c.extras.result (after_writing (map extra_row extras) c.in_ok-item.field-0)) c.as_slice.ensures c.extras.ensures)
