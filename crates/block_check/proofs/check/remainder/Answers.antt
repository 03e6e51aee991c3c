use Rattle.std.proofs.Common.{arith}
use Rattle.block_check.proofs.Remainders.{remainder_at}
use Rattle.block_check.proofs.check.remainder.Goals as goal

pub returns : goal.returns
returns c = remainder_at c.args.behind c.args.byte c.requires (omega arith)
