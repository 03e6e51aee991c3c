use Rattle.std.proofs.Common.{arith, sym, ◌∙◌}
use Rattle.plain_lines.proofs.Ends.{as_many, none_nothing, one_nothing}
use Rattle.plain_lines.proofs.words.are_filled.Goals as goal

pub returns-then-is_empty : goal.returns-then-is_empty
returns-then-is_empty c = one_nothing _ c.loop-number.number c.loop-number.invariant.filled c.word_at.result.now (omega (arith, as_many c.args.text.now c.args.ends.now c.requires)) c.word_at.ensures (sym c.is_empty.ensures ∙ c.if-is_empty.true)

pub returns : goal.returns
returns c = none_nothing _ c.loop-number.number c.loop-number.invariant.filled (omega (arith, as_many c.args.text.now c.args.ends.now c.requires))
