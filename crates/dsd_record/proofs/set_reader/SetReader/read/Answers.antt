use Rattle.std.proofs.Common.{sym, ◌∙◌, subst}
use Rattle.dsd_record.specs.TakenSets.{HasTaken}
use Rattle.dsd_record.proofs.TakenSets.{nothing_refused}
use Rattle.dsd_record.proofs.set_reader.SetReader.read.Goals as goal

pub returns-in-Nothing-clause-exact : goal.returns-in-Nothing-clause-exact
returns-in-Nothing-clause-exact c = λ text taken. nothing_refused text (subst (HasTaken text) (sym c.self.view_is ∙ c.in-Nothing.is) taken)
