use Rattle.dxs_envelope.proofs.FaultPlace.{fault_stands}
use Rattle.dxs_envelope.proofs.laws.faults_stand_in_their_text.Goals as goal

pub returns-clause-within : goal.returns-clause-within
returns-clause-within c = λ text fault e. (fault_stands text fault e).within

pub returns-clause-behind : goal.returns-clause-behind
returns-clause-behind c = λ text fault e. ((fault_stands text fault e).segments, (fault_stands text fault e).spelled)
