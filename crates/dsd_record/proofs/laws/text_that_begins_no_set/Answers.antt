use Rattle.dsd_record.proofs.Sets.{broken_refused, empty_refused, other_refused}
use Rattle.dsd_record.proofs.laws.text_that_begins_no_set.Goals as goal

pub returns-clause-empty : goal.returns-clause-empty
returns-clause-empty c = empty_refused

pub returns-clause-other : goal.returns-clause-other
returns-clause-other c = λ text first behind front base answer. other_refused text first behind front base answer

pub returns-clause-broken : goal.returns-clause-broken
returns-clause-broken c = λ text fault is. broken_refused text fault is
