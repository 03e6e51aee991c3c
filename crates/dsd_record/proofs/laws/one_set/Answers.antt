use Rattle.dsd_record.proofs.Sets.{one}
use Rattle.dsd_record.proofs.laws.one_set.Goals as goal

pub returns : goal.returns
returns c = λ text set other is also. one text set other is also
