use Rattle.base_record_894.proofs.OneRecord.{one}
use Rattle.base_record_894.proofs.laws.one_record.Goals as goal

pub returns : goal.returns
returns c = λ text base other seal seal' is also. one text base other seal seal' is also
