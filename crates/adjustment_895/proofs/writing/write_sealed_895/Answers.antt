use Rattle.std.proofs.Common.{◌≡◌, ◌≤◌, ◌<◌, ◌∙◌, ℕ, Err, ap, inr, length, arith}
use Rattle.dsd_values.specs.declared.limits.TheConstants.{SET_BYTES}
use Rattle.dsd_pricing.specs.declared.fault.WriteFault.TheVariants.{LongSet, Memory}
use Rattle.transaction_set.specs.RowsWritten.{first_long}
use Rattle.segments.specs.SegmentWriting.{text_of}
use Rattle.transaction_set.proofs.Rows.{passed_on, same_err}
use Rattle.adjustment_895.specs.WrittenText.{rows_of}
use Rattle.dsd_pricing.proofs.WholeTexts.{never_priced, whole_long, whole_refused, whole_short}
use Rattle.adjustment_895.proofs.WrittenBack.{answer_read}
use Rattle.adjustment_895.proofs.writing.write_sealed_895.Goals as goal

pub returns-in_err-sealed-clause-exact : goal.returns-in_err-sealed-clause-exact
returns-in_err-sealed-clause-exact c =
    passed_on Memory _ _ _ _ c.from_residual.ensures
    (whole_refused (first_long (rows_of c.args.answer.now c.args.control)) (text_of (rows_of c.args.answer.now c.args.control)) _ c.in_err-sealed.ensures.exact)

pub returns-in_err-sealed-clause-unpriced : goal.returns-in_err-sealed-clause-unpriced
returns-in_err-sealed-clause-unpriced c =
    never_priced (first_long (rows_of c.args.answer.now c.args.control)) (text_of (rows_of c.args.answer.now c.args.control)) _ _ (same_err _ _ c.from_residual.ensures) c.in_err-sealed.ensures.exact

pub returns-clause-exact : goal.returns-clause-exact
returns-clause-exact c =
    let short : length c.in_ok-sealed.sealed.0 ≤ SET_BYTES = omega (arith, c.if-length-gt-SET_BYTES.false, ap length c.as_slice-length.ensures) in
    whole_short (first_long (rows_of c.args.answer.now c.args.control)) (text_of (rows_of c.args.answer.now c.args.control)) _ c.in_ok-sealed.ensures.exact short

pub returns-clause-spelled : goal.returns-clause-spelled
returns-clause-spelled c =
    let short : length c.in_ok-sealed.sealed.0 ≤ SET_BYTES = omega (arith, c.if-length-gt-SET_BYTES.false, ap length c.as_slice-length.ensures) in
    (answer_read c.args.answer.now c.args.control _ c.requires c.write_rows.ensures.spelled c.in_ok-sealed.ensures.exact short).spelled

pub returns-clause-set : goal.returns-clause-set
returns-clause-set c =
    let short : length c.in_ok-sealed.sealed.0 ≤ SET_BYTES = omega (arith, c.if-length-gt-SET_BYTES.false, ap length c.as_slice-length.ensures) in
    (answer_read c.args.answer.now c.args.control _ c.requires c.write_rows.ensures.spelled c.in_ok-sealed.ensures.exact short).set
