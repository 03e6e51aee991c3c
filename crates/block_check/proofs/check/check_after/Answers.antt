use Rattle.std.proofs.Common.{bit_xor, ◌/◌, ap, ◌∙◌, arith}
use Rattle.block_check.proofs.Steps.{step_by_byte}
use Rattle.block_check.proofs.check.check_after.Goals as goal

pub returns : goal.returns
returns c = ap (bit_xor (c.args.check / 256)) c.remainder.ensures ∙ step_by_byte c.args.check c.args.byte (omega arith) (omega arith)
