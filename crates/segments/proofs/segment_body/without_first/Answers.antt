use Rattle.std.proofs.Common.{◌-◌, arith}
use Rattle.std.proofs.lemmas.Nat.{and_le_r}
use Rattle.segments.proofs.Bits.{rest_gone, rest_same}
use Rattle.segments.proofs.segment_body.without_first.Goals as goal

pub returns-clause-gone : goal.returns-clause-gone
returns-clause-gone c first is = rest_gone first c.args.bits is

pub returns-clause-others : goal.returns-clause-others
returns-clause-others c first k is apart = rest_same first c.args.bits is k apart

pub returns-clause-fewer : goal.returns-clause-fewer
returns-clause-fewer c = omega (arith, and_le_r c.args.bits (c.args.bits - 1), c.requires)
