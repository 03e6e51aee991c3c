use Rattle.receiver_core.proofs.Worked as worked
use Rattle.receiver_core.proofs.laws.worked_refusals_of_counts.Goals as goal

pub returns-clause-mark : goal.returns-clause-mark
returns-clause-mark c = worked.mark

pub returns-clause-answer : goal.returns-clause-answer
returns-clause-answer c = worked.answer

pub returns-clause-order : goal.returns-clause-order
returns-clause-order c = worked.order

pub returns-clause-inside : goal.returns-clause-inside
returns-clause-inside c = worked.inside

pub returns-clause-words : goal.returns-clause-words
returns-clause-words c = worked.words

pub returns-clause-number : goal.returns-clause-number
returns-clause-number c = worked.number

pub returns-clause-twice : goal.returns-clause-twice
returns-clause-twice c = worked.twice

pub returns-clause-again : goal.returns-clause-again
returns-clause-again c = worked.again

pub returns-clause-none : goal.returns-clause-none
returns-clause-none c = worked.none
