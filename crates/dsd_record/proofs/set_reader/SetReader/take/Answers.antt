use Rattle.std.proofs.Common.{sym, ◌∙◌, subst}
use Rattle.dsd_record.specs.TakenSets.{HasTaken}
use Rattle.dsd_record.proofs.TakenSets.{answer_more, base_more}
use Rattle.dsd_record.proofs.set_reader.SetReader.take.Goals as goal

pub returns-in-Base-clause-taken : goal.returns-in-Base-clause-taken
returns-in-Base-clause-taken c = λ text taken. base_more text c.in-Base.reader c.take.new.self c.args.segment.now c.take.ensures.taken (subst (HasTaken text) (sym c.self.view_is ∙ c.in-Base.is) taken)

pub returns-in-Answer-clause-taken : goal.returns-in-Answer-clause-taken
returns-in-Answer-clause-taken c = λ text taken. answer_more text c.in-Answer.reader c.take-in-Answer.new.self c.args.segment.now c.take-in-Answer.ensures.taken (subst (HasTaken text) (sym c.self.view_is ∙ c.in-Answer.is) taken)
