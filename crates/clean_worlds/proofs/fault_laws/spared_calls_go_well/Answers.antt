use Rattle.clean_worlds.proofs.SparedCalls.{calls_well}
use Rattle.clean_worlds.proofs.fault_laws.spared_calls_go_well.Goals as goal

pub returns : goal.returns
returns c = λ log part works spared each. (calls_well log part works spared each).none
