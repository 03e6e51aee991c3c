use Rattle.vectors.proofs.Computed.{last_block, block}
use Rattle.vectors.proofs.laws.frames_are_worked.Goals as goal

pub returns-clause-last_block : goal.returns-clause-last_block
returns-clause-last_block c = last_block

pub returns-clause-block : goal.returns-clause-block
returns-clause-block c = block
