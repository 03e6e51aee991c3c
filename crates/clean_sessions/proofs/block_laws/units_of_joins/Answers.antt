use Rattle.clean_sessions.proofs.UnitsJoined.{paired_apart}
use Rattle.clean_sessions.proofs.block_laws.units_of_joins.Goals as goal

pub returns : goal.returns
returns c = paired_apart
