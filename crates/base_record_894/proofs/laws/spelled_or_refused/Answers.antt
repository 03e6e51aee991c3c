use Rattle.base_record_894.proofs.FoundOnly.{some_record}
use Rattle.base_record_894.proofs.OneRecord.{refused_not}
use Rattle.base_record_894.proofs.laws.spelled_or_refused.Goals as goal

pub returns-clause-spelled : goal.returns-clause-spelled
returns-clause-spelled c = λ text e. some_record text e

pub returns-clause-refused : goal.returns-clause-refused
returns-clause-refused c = λ text refusal e base seal is. refused_not text refusal base seal e is
