use Rattle.clean_sessions.proofs.BlocksCounted.{two_more}
use Rattle.clean_sessions.proofs.block_laws.envelopes_cost_two_blocks.Goals as goal

pub returns : goal.returns
returns c = two_more
