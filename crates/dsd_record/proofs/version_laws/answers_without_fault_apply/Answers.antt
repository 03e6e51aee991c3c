use Rattle.dsd_record.proofs.Faults.{fault_none, faultless}
use Rattle.dsd_record.proofs.version_laws.answers_without_fault_apply.Goals as goal

pub returns : goal.returns
returns c = λ version answer. (faultless version answer, fault_none version answer)
