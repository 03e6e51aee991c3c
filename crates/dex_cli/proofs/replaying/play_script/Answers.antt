use Rattle.std.proofs.Common.{subst}
use Rattle.std.specs.Prelude.{IfOk}
use Rattle.cable_world.specs.declared.script.Script.{Script}
use Rattle.dex_cli.specs.Replaying.{IsReplayed, worlds_of}
use Rattle.dex_cli.proofs.replaying.play_script.Goals as goal

pub returns-in-Ok-clause-told : goal.returns-in-Ok-clause-told
returns-in-Ok-clause-told c =
    subst (λ (s : Script). IfOk c.play_on.result (IsReplayed s (worlds_of c.args.world.now c.play_on.new.world))) c.in-Ok.ensures.script c.play_on.ensures.told

pub returns-in-Ok-clause-kept : goal.returns-in-Ok-clause-kept
returns-in-Ok-clause-kept c = c.play_on.ensures.kept
