use Rattle.std.proofs.Common.{ap₂, ◌∙◌, refl}
use Rattle.std.proofs.lemmas.Result.{IfOk-weaker}
use Rattle.clap.specs.Words.{with_subcommand}
use Rattle.job_words.proofs.command.commands.Goals as goal

pub returns : goal.returns
returns c =
    let format = c.in_ok-format.ensures _ c.in_ok-new_journal.ensures refl ∙ ap₂ with_subcommand c.bare.ensures refl in
    let check = c.in_ok-check.ensures _ c.in_ok-with_one.ensures refl ∙ ap₂ with_subcommand format refl in
    let show = c.in_ok-show.ensures _ c.in_ok-with_one-2.ensures refl ∙ ap₂ with_subcommand check refl in
    let handheld = c.in_ok-handheld.ensures _ c.in_ok-with_names.ensures refl ∙ ap₂ with_subcommand show refl in
    let receiver = c.in_ok-receiver.ensures _ c.in_ok-with_names-2.ensures refl ∙ ap₂ with_subcommand handheld refl in
    let replay = c.in_ok-replay.ensures _ c.leaf.ensures refl ∙ ap₂ with_subcommand receiver refl in
    IfOk-weaker c.plus-7.result _ _ (λ command is. is ∙ ap₂ with_subcommand replay refl) (c.plus-7.ensures _ c.in_ok-with_one-3.ensures refl)
