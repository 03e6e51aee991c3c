use Rattle.std.proofs.Common.{◌≡◌, ◌<◌, ◌≤◌, length, slice_index_or, [], sym, ap, ◌∙◌, arith, Some, List, ℕ}
use Rattle.dsd_values.specs.declared.fault.ValueFault.TheVariants.{TooLong}
use Rattle.segments.proofs.Beyond.{past_all, empty_one, filled_one}
use Rattle.segments.proofs.elements.end_of_elements.Goals as goal

pub returns-then-length-gt0 : goal.returns-then-length-gt0
returns-then-length-gt0 c =
    let parts = c.args.segment.now.parts in
    let there : c.loop-element.element < length parts = omega (arith, c.count-element-end.ensures.value, c.loop-element-test.true) in
    let filled : 0 < length (slice_index_or parts c.loop-element.element []) = omega (arith, ap length c.element-length.ensures.value, c.if-length-gt0.true) in
    sym c.loop-element.invariant ∙ filled_one c.loop-element.element parts there filled ∙ ap (λ (text : List ℕ). Some (record { element = c.loop-element.element; fault = TooLong (length text) })) (sym c.element-length.ensures.value)

pub loop-element-preserved : goal.loop-element-preserved
loop-element-preserved c =
    let parts = c.args.segment.now.parts in
    let there : c.loop-element.element < length parts = omega (arith, c.count-element-end.ensures.value, c.loop-element-test.true) in
    let empty : length (slice_index_or parts c.loop-element.element []) ≡ 0 = omega (arith, ap length c.element-length.ensures.value, c.if-length-gt0.false) in
    sym (empty_one c.loop-element.element parts there empty) ∙ c.loop-element.invariant

pub returns : goal.returns
returns c =
    let parts = c.args.segment.now.parts in
    let past : length parts ≤ c.loop-element.element = omega (arith, c.count-element-end.ensures.value, c.loop-element-test.false) in
    (sym c.loop-element.invariant ∙ past_all c.loop-element.element parts past, tt)
