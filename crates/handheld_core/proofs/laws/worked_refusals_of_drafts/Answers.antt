use Rattle.handheld_core.proofs.Worked as worked
use Rattle.handheld_core.proofs.laws.worked_refusals_of_drafts.Goals as goal

pub returns-clause-flag : goal.returns-clause-flag
returns-clause-flag c = worked.flag

pub returns-clause-day : goal.returns-clause-day
returns-clause-day c = worked.day

pub returns-clause-ends : goal.returns-clause-ends
returns-clause-ends c = worked.ends

pub returns-clause-inside : goal.returns-clause-inside
returns-clause-inside c = worked.inside

pub returns-clause-spaces : goal.returns-clause-spaces
returns-clause-spaces c = worked.spaces

pub returns-clause-twice : goal.returns-clause-twice
returns-clause-twice c = worked.twice

pub returns-clause-behind : goal.returns-clause-behind
returns-clause-behind c = worked.behind

pub returns-clause-rate : goal.returns-clause-rate
returns-clause-rate c = worked.rate

pub returns-clause-price : goal.returns-clause-price
returns-clause-price c = worked.price

pub returns-clause-none : goal.returns-clause-none
returns-clause-none c = worked.none
