use Rattle.transaction_set.proofs.Faultless.{mark_length}
use Rattle.segments.specs.Views.{element_of}
use Rattle.transaction_set.proofs.closing.read_signature.Goals as goal

pub new-requires-clause-filled : goal.new-requires-clause-filled
new-requires-clause-filled c = (mark_length (element_of c.args.segment.now 1) _ c.in_ok-mark.ensures.0 c.in_ok-mark.ensures.1).0

pub new-requires-clause-short : goal.new-requires-clause-short
new-requires-clause-short c = (mark_length (element_of c.args.segment.now 1) _ c.in_ok-mark.ensures.0 c.in_ok-mark.ensures.1).1
