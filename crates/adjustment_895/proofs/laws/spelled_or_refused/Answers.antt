use Rattle.adjustment_895.proofs.FoundOnly.{some_answer}
use Rattle.adjustment_895.proofs.OneAnswer.{refused_not}
use Rattle.adjustment_895.proofs.laws.spelled_or_refused.Goals as goal

pub returns-clause-spelled : goal.returns-clause-spelled
returns-clause-spelled c = λ text e. some_answer text e

pub returns-clause-refused : goal.returns-clause-refused
returns-clause-refused c = λ text refusal e answer seal is. refused_not text refusal answer seal e is
