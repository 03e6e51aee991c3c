use Rattle.std.proofs.Common.{[], ◌∷◌, ◌++◌, List, map}
use Rattle.std.specs.List.{All}
use Rattle.std.proofs.lemmas.List.Elements.{All-head, All-tail}
use Rattle.dsd_values.specs.declared.extra.Extra.{Extra}
use Rattle.dsd_values.specs.declared.line.Line.{Line}
use Rattle.dsd_values.specs.SignatureRecord.{SignatureRecord}
use Rattle.segments.specs.SegmentSpelling.{IsSegment}
use Rattle.transaction_set.specs.SetWriting.{Row, body_rows, extra_row, loop_rows, signature_row, totals_row}
use Rattle.transaction_set.specs.declared.kind.Form.{Form}
use Rattle.transaction_set.specs.declared.stated.StatedTotals.{StatedTotals}
use Rattle.transaction_set.proofs.Rows.{all_back, all_front, both_written, first_refused, same_err}
use Rattle.transaction_set.proofs.set_writer.SetWriter.body.Goals as goal

-- behind the loop, and behind the extras
abbrev ending : StatedTotals → SignatureRecord → List Row
ending totals signature = totals_row totals ∷ signature_row signature ∷ []

abbrev behind : List Extra → StatedTotals → SignatureRecord → List Row
behind extras totals signature = map extra_row extras ++ ending totals signature

asked_behind : (form : Form) (lines : List Line) (extras : List Extra) (totals : StatedTotals) (signature : SignatureRecord) → All IsSegment (body_rows form lines extras totals signature) → All IsSegment (behind extras totals signature)
asked_behind form lines extras totals signature all = all_back IsSegment (loop_rows form lines) (behind extras totals signature) all

asked_ending : (form : Form) (lines : List Line) (extras : List Extra) (totals : StatedTotals) (signature : SignatureRecord) → All IsSegment (body_rows form lines extras totals signature) → All IsSegment (ending totals signature)
asked_ending form lines extras totals signature all = all_back IsSegment (map extra_row extras) (ending totals signature) (asked_behind form lines extras totals signature all)

pub items-requires : goal.items-requires
items-requires c = all_front IsSegment (loop_rows c.args.form c.args.lines.now) (behind c.args.extras.now c.args.totals c.args.signature.now) c.requires

pub returns-in_err-items : goal.returns-in_err-items
returns-in_err-items c =
    first_refused (loop_rows c.args.form c.args.lines.now) (behind c.args.extras.now c.args.totals c.args.signature.now) c.args.self _ _ _ c.in_err-items.was
    (same_err _ _ c.from_residual.ensures) c.items.ensures

pub extras-requires : goal.extras-requires
extras-requires c = all_front IsSegment (map extra_row c.args.extras.now) (ending c.args.totals c.args.signature.now) (asked_behind c.args.form c.args.lines.now c.args.extras.now c.args.totals c.args.signature.now c.requires)

pub returns-in_err-extras : goal.returns-in_err-extras
returns-in_err-extras c =
    both_written (loop_rows c.args.form c.args.lines.now) (behind c.args.extras.now c.args.totals c.args.signature.now) c.args.self c.in_ok-items.field-0 _ _ c.in_ok-items.was c.items.ensures
    (first_refused (map extra_row c.args.extras.now) (ending c.args.totals c.args.signature.now) c.in_ok-items.field-0 _ _ _ c.in_err-extras.was
    (same_err _ _ c.from_residual-in_err-extras.ensures) c.extras.ensures)

pub totals-requires : goal.totals-requires
totals-requires c =
    All-head IsSegment (totals_row c.args.totals) (signature_row c.args.signature.now ∷ []) (asked_ending c.args.form c.args.lines.now c.args.extras.now c.args.totals c.args.signature.now c.requires)

pub returns-in_err-totals : goal.returns-in_err-totals
returns-in_err-totals c =
    both_written (loop_rows c.args.form c.args.lines.now) (behind c.args.extras.now c.args.totals c.args.signature.now) c.args.self c.in_ok-items.field-0 _ _ c.in_ok-items.was c.items.ensures
    (both_written (map extra_row c.args.extras.now) (ending c.args.totals c.args.signature.now) c.in_ok-items.field-0 c.in_ok-extras.field-0 _ _ c.in_ok-extras.was c.extras.ensures
    (first_refused (totals_row c.args.totals ∷ []) (signature_row c.args.signature.now ∷ []) c.in_ok-extras.field-0 _ _ _ c.in_err-totals.was
    (same_err _ _ c.from_residual-in_err-totals.ensures) c.totals.ensures))

pub signature-requires : goal.signature-requires
signature-requires c =
    All-head IsSegment (signature_row c.args.signature.now) []
    (All-tail IsSegment (totals_row c.args.totals) (signature_row c.args.signature.now ∷ []) (asked_ending c.args.form c.args.lines.now c.args.extras.now c.args.totals c.args.signature.now c.requires))

pub returns : goal.returns
returns c =
    both_written (loop_rows c.args.form c.args.lines.now) (behind c.args.extras.now c.args.totals c.args.signature.now) c.args.self c.in_ok-items.field-0 _ _ c.in_ok-items.was c.items.ensures
    (both_written (map extra_row c.args.extras.now) (ending c.args.totals c.args.signature.now) c.in_ok-items.field-0 c.in_ok-extras.field-0 _ _ c.in_ok-extras.was c.extras.ensures
    (both_written (totals_row c.args.totals ∷ []) (signature_row c.args.signature.now ∷ []) c.in_ok-extras.field-0 c.in_ok-totals.field-0 _ _ c.in_ok-totals.was c.totals.ensures c.signature.ensures))
