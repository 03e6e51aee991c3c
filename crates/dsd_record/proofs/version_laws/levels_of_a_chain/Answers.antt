use Rattle.dsd_record.proofs.Chains.{levels_count}
use Rattle.dsd_record.proofs.version_laws.levels_of_a_chain.Goals as goal

pub returns : goal.returns
returns c = levels_count
