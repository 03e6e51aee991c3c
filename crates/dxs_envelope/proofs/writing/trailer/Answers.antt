use Rattle.std.proofs.Common.{◌≤◌, length, sym, ◌∙◌, ap, subst}
use Rattle.dsd_values.specs.Writing.{number_text}
use Rattle.segments.specs.SegmentWriting.{Written, line_of, parts_of_begun}
use Rattle.segments.specs.declared.segment_write_fault.TheConstants.{SEGMENT_WRITTEN}
use Rattle.dxs_envelope.proofs.Lines.{trailer_begun, trailer_short}
use Rattle.dxs_envelope.proofs.writing.trailer.Goals as goal

pub ended-requires-clause-short : goal.ended-requires-clause-short
ended-requires-clause-short c =
    let begun = trailer_begun c.args.control c.args.sets c.as_slice.result.now c.as_slice-2.result.now
    _ _ _ _ c.new-segments.ensures c.in_ok-begin.ensures c.in_ok-element.ensures c.in_ok-element-2.ensures
    (c.as_slice.ensures.value ∙ c.write_plain_number.ensures.text ∙ ap number_text c.from.ensures) (c.as_slice-2.ensures.value ∙ c.write_plain_number-2.ensures.text) in
    subst (λ (w : Written). length (line_of (parts_of_begun w.begun)) ≤ SEGMENT_WRITTEN) (sym begun)
    (trailer_short c.args.control c.args.sets c.requires c.ranges.sets.fits)
