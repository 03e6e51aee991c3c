use Rattle.std.proofs.lemmas.Result.{IfOk-weaker}
use Rattle.job_words.proofs.Taken.{plus_so}
use Rattle.job_words.proofs.command.plus.Goals as goal

pub returns : goal.returns
returns c = λ app is plain. IfOk-weaker c.subcommand.result _ _ (λ next adds. plus_so _ _ next app adds is plain) c.subcommand.ensures
