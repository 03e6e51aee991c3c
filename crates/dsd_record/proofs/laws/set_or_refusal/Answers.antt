use Rattle.dsd_record.proofs.Sets.{refused_not, some_set}
use Rattle.dsd_record.proofs.laws.set_or_refusal.Goals as goal

pub returns-clause-spelled : goal.returns-clause-spelled
returns-clause-spelled c = λ text e. some_set text e

pub returns-clause-refused : goal.returns-clause-refused
returns-clause-refused c = λ text refusal e set is. refused_not text refusal e set is
