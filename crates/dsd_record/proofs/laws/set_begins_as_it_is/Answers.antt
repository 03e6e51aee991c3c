use Rattle.dsd_record.proofs.FirstSegments.{begins_of, of_begins}
use Rattle.dsd_record.proofs.Sets.{begins_own}
use Rattle.dsd_record.proofs.laws.set_begins_as_it_is.Goals as goal

pub returns-clause-begins : goal.returns-clause-begins
returns-clause-begins c = λ form text. (begins_of form text, of_begins form text)

pub returns-clause-own : goal.returns-clause-own
returns-clause-own c = λ set text is. begins_own set text is
