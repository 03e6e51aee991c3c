use Rattle.std.proofs.Common.{ap₂, ◌∙◌, refl}
use Rattle.std.proofs.lemmas.Result.{IfErr-weaker}
use Rattle.clap.specs.Words.{takes}
use Rattle.job_words.proofs.asking.ask.Goals as goal

pub returns : goal.returns
returns c = λ taken. IfErr-weaker c.try_get_matches_from.result _ _ (λ e h. h (ap₂ takes c.in_ok-commands.ensures refl ∙ taken)) c.try_get_matches_from.ensures.passes
