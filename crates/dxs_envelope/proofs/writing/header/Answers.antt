use Rattle.std.proofs.Common.{◌≡◌, ◌≤◌, ◌++◌, IfOk, List, ℕ, length, sym, ◌∙◌, ap, subst}
use Rattle.dsd_values.specs.Writing.{number_text}
use Rattle.segments.specs.SegmentWriting.{Written, line_of, parts_of_begun}
use Rattle.segments.specs.declared.segment_write_fault.TheConstants.{SEGMENT_WRITTEN}
use Rattle.dxs_envelope.proofs.Lines.{header_begun, header_short}
use Rattle.dxs_envelope.proofs.writing.header.Goals as goal

pub ended-requires-clause-short : goal.ended-requires-clause-short
ended-requires-clause-short c =
    let begun = header_begun c.args.sender c.args.receiver c.args.control c.as_slice.result.now c.as_slice-2.result.now c.as_slice-3.result.now
    _ _ _ _ _ _ _ c.new-segments.ensures c.in_ok-begin.ensures c.in_ok-element.ensures c.in_ok-element-2.ensures c.in_ok-element-3.ensures c.in_ok-element-4.ensures c.in_ok-element-5.ensures
    (c.as_slice.ensures ∙ c.characters.ensures.value) (c.as_slice-2.ensures.value ∙ c.write_plain_number.ensures.text ∙ ap number_text c.from.ensures) (c.as_slice-3.ensures ∙ c.characters-2.ensures.value) in
    subst (λ (w : Written). length (line_of (parts_of_begun w.begun)) ≤ SEGMENT_WRITTEN) (sym begun)
    (header_short c.args.sender c.args.receiver c.args.control c.characters.ensures.known.ten c.characters-2.ensures.known.ten c.requires)

pub returns-clause-text : goal.returns-clause-text
returns-clause-text c =
    let begun = header_begun c.args.sender c.args.receiver c.args.control c.as_slice.result.now c.as_slice-2.result.now c.as_slice-3.result.now
    _ _ _ _ _ _ _ c.new-segments.ensures c.in_ok-begin.ensures c.in_ok-element.ensures c.in_ok-element-2.ensures c.in_ok-element-3.ensures c.in_ok-element-4.ensures c.in_ok-element-5.ensures
    (c.as_slice.ensures ∙ c.characters.ensures.value) (c.as_slice-2.ensures.value ∙ c.write_plain_number.ensures.text ∙ ap number_text c.from.ensures) (c.as_slice-3.ensures ∙ c.characters-2.ensures.value) in
    subst (λ (w : Written). IfOk c.ended.result (λ (text : List ℕ). text ≡ w.text ++ line_of (parts_of_begun w.begun))) begun c.ended.ensures
