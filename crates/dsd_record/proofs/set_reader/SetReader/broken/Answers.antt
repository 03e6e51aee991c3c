use Rattle.std.proofs.Common.{sym, ◌∙◌, subst}
use Rattle.dsd_record.specs.TakenSets.{HasTaken}
use Rattle.dsd_record.proofs.TakenSets.{answer_broken, base_broken, nothing_broken}
use Rattle.dsd_record.proofs.set_reader.SetReader.broken.Goals as goal

pub returns-in-Nothing-clause-exact : goal.returns-in-Nothing-clause-exact
returns-in-Nothing-clause-exact c = λ text rest taken next. nothing_broken text rest c.args.fault (subst (HasTaken text) (sym c.self.view_is ∙ c.in-Nothing.is) taken) next

pub returns-in-Base-clause-exact : goal.returns-in-Base-clause-exact
returns-in-Base-clause-exact c = λ text rest taken next.
    let begun = subst (HasTaken text) (sym c.self.view_is ∙ c.in-Base.is) taken in
    base_broken text rest c.in-Base.reader c.broken.result begun (c.broken.ensures.exact text rest begun.1 next)

pub returns-in-Answer-clause-exact : goal.returns-in-Answer-clause-exact
returns-in-Answer-clause-exact c = λ text rest taken next.
    let begun = subst (HasTaken text) (sym c.self.view_is ∙ c.in-Answer.is) taken in
    answer_broken text rest c.in-Answer.reader c.broken-in-Answer.result begun (c.broken-in-Answer.ensures.exact text rest begun.1 next)
