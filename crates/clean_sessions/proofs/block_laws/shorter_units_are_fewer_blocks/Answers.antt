use Rattle.clean_sessions.proofs.BlocksCounted.{fewer}
use Rattle.clean_sessions.proofs.block_laws.shorter_units_are_fewer_blocks.Goals as goal

pub returns : goal.returns
returns c = fewer
