use Rattle.dsd_record.proofs.ReadOnce.{is_set_in, no_set_in, set_in_is}
use Rattle.dsd_record.proofs.laws.set_in_is_the_set.Goals as goal

pub returns-clause-read : goal.returns-clause-read
returns-clause-read c = λ text set. (is_set_in text set, set_in_is text set)

pub returns-clause-refused : goal.returns-clause-refused
returns-clause-refused c = no_set_in
