use Rattle.std.proofs.Common.{ap, ◌∙◌, codes}
use Rattle.std.proofs.lemmas.Result.{IfOk-weaker}
use Rattle.clap.specs.Words.{App, with_rule}
use Rattle.job_words.specs.Command.{needed}
use Rattle.job_words.proofs.command.with_names.Goals as goal

pub returns : goal.returns
returns c = IfOk-weaker c.and_word.result _ _ (λ leaf is. is ∙ ap (λ (a : App). with_rule a (needed (codes "port"))) c.in_ok-journal.ensures) c.and_word.ensures
