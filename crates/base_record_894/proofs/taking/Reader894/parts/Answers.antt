use Rattle.std.proofs.Common.{sym, subst, ap, ◌∙◌}
use Rattle.transaction_set.specs.Taking.{IsTaken, Taken}
use Rattle.transaction_set.proofs.Taking.{ends, ends_within, stopped_within, stops}
use Rattle.base_record_894.specs.FirstRefusal.{judged}
use Rattle.base_record_894.specs.ReadParts.{IsReadFrom}
use Rattle.base_record_894.specs.Said.{Said, nothing}
use Rattle.base_record_894.proofs.OneRecord.{read_right}
use Rattle.base_record_894.proofs.taking.Reader894.parts.Goals as goal

pub returns-in-Some-clause-exact : goal.returns-in-Some-clause-exact
returns-in-Some-clause-exact c = λ text taken. stops judged nothing _ text c.args.self c.in-Some.fault _ taken (sym (ap (λ (t : Taken Said). t.fault) c.self.view_is) ∙ c.in-Some.is)

pub returns-in-Some-clause-within : goal.returns-in-Some-clause-within
returns-in-Some-clause-within c = λ text taken. stopped_within judged nothing (Unit {0}) text c.args.self c.in-Some.fault taken (sym (ap (λ (t : Taken Said). t.fault) c.self.view_is) ∙ c.in-Some.is)

pub returns-in-None-clause-exact : goal.returns-in-None-clause-exact
returns-in-None-clause-exact c = λ text taken.
    ends judged nothing _ text (record { said = c.self.inside.reader; size = c.self.inside.size; fault = c.self.inside.fault }) _ IsReadFrom (subst (IsTaken judged nothing text) (sym c.self.view_is) taken) c.in-None.is c.finish.ensures

pub returns-in-None-clause-within : goal.returns-in-None-clause-within
returns-in-None-clause-within c = λ text taken.
    ends_within judged nothing _ text (record { said = c.self.inside.reader; size = c.self.inside.size; fault = c.self.inside.fault }) _ (IsReadFrom c.self.inside.reader) (subst (IsTaken judged nothing text) (sym c.self.view_is) taken) c.in-None.is c.finish.ensures

pub returns-in-None-clause-right : goal.returns-in-None-clause-right
returns-in-None-clause-right c =
    let text = c.self.invariant.2.0 in
    read_right text _ (ends judged nothing _ text (record { said = c.self.inside.reader; size = c.self.inside.size; fault = c.self.inside.fault }) _ IsReadFrom c.self.invariant.2.1 c.in-None.is c.finish.ensures)
