use Rattle.std.proofs.Common.{sym, subst}
use Rattle.transaction_set.specs.Taking.{IsTaken}
use Rattle.transaction_set.proofs.Taking.{broken}
use Rattle.adjustment_895.specs.FirstRefusal.{judged}
use Rattle.adjustment_895.specs.Said.{nothing}
use Rattle.adjustment_895.proofs.taking.Reader895.broken.Goals as goal

pub returns-in-Some-clause-exact : goal.returns-in-Some-clause-exact
returns-in-Some-clause-exact c = λ text rest taken next.
    broken judged nothing text rest (record { said = c.self.inside.reader; size = c.self.inside.size; fault = c.self.inside.fault }) c.args.fault _ (subst (IsTaken judged nothing text) (sym c.self.view_is) taken) c.in-Some.is next

pub returns-in-None-clause-exact : goal.returns-in-None-clause-exact
returns-in-None-clause-exact c = λ text rest taken next.
    broken judged nothing text rest (record { said = c.self.inside.reader; size = c.self.inside.size; fault = c.self.inside.fault }) c.args.fault _ (subst (IsTaken judged nothing text) (sym c.self.view_is) taken) c.in-None.is next
