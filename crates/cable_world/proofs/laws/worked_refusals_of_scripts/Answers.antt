use Rattle.cable_world.proofs.Worked as worked
use Rattle.cable_world.proofs.laws.worked_refusals_of_scripts.Goals as goal

pub returns-clause-odd : goal.returns-clause-odd
returns-clause-odd c = worked.odd

pub returns-clause-dash : goal.returns-clause-dash
returns-clause-dash c = worked.dash

pub returns-clause-digit : goal.returns-clause-digit
returns-clause-digit c = worked.digit

pub returns-clause-end : goal.returns-clause-end
returns-clause-end c = worked.end

pub returns-clause-times : goal.returns-clause-times
returns-clause-times c = worked.times

pub returns-clause-words : goal.returns-clause-words
returns-clause-words c = worked.words

pub returns-clause-line : goal.returns-clause-line
returns-clause-line c = worked.line

pub returns-clause-inside : goal.returns-clause-inside
returns-clause-inside c = worked.inside

pub returns-clause-order : goal.returns-clause-order
returns-clause-order c = worked.order

pub returns-clause-none : goal.returns-clause-none
returns-clause-none c = worked.none
