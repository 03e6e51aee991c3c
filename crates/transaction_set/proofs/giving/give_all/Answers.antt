use Rattle.transaction_set.proofs.GivenRows.{slice_given, slice_part}
use Rattle.transaction_set.proofs.giving.give_all.Goals as goal

pub element-requires-clause-characters : goal.element-requires-clause-characters
element-requires-clause-characters c = slice_part c.args.elements.now c.loop-element.element-index _ c.loop-element-test.true c.requires.characters

pub loop-element-preserved : goal.loop-element-preserved
loop-element-preserved c =
    slice_given c.args.segments.now c.loop-element.segments c.element.new.self c.args.elements.now c.loop-element.element-index _ c.loop-element.invariant c.loop-element-test.true c.in_ok-element.ensures
