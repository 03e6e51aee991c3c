use Rattle.std.proofs.Common.{inr, refl}
use Rattle.dex_cli.proofs.check_set.SetCheckingChecking.finish.Goals as goal

pub returns-in-Ok : goal.returns-in-Ok
returns-in-Ok c input taken short = (short, record { set = c.in-Ok.set; spelled = c.in-Ok.ensures.found input taken; summary_is = c.summary_of.ensures })

pub returns-in-Err-Refused : goal.returns-in-Err-Refused
returns-in-Err-Refused c input taken short =
    let clauses = rw c.in-Err-Refused.field-0-is at c.in-Err-Refused.ensures in
    inr (short, record { first = clauses.exact input taken; none = λ set is. let never = clauses.only input taken set is in cc; within = clauses.within input taken })
