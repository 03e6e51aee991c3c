use Rattle.std.proofs.Common.{ap, ◌∙◌, codes}
use Rattle.std.proofs.lemmas.Result.{IfOk-weaker}
use Rattle.clap.specs.Words.{App, with_rule}
use Rattle.job_words.specs.Command.{needed}
use Rattle.job_words.proofs.command.new_journal.Goals as goal

pub returns : goal.returns
returns c =
    let own = c.in_ok-own.ensures ∙ ap (λ (a : App). with_rule a (needed (codes "own"))) c.in_ok-role.ensures in
    let peer = c.in_ok-peer.ensures ∙ ap (λ (a : App). with_rule a (needed (codes "peer"))) own in
    IfOk-weaker c.and_word-3.result _ _ (λ leaf is. is ∙ ap (λ (a : App). with_rule a (needed (codes "journal"))) peer) c.and_word-3.ensures
