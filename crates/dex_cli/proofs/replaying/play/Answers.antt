use Rattle.std.proofs.Common.{subst}
use Rattle.std.specs.Prelude.{IfOk}
use Rattle.cable_world.specs.declared.script.Script.{Script}
use Rattle.dex_cli.specs.Replaying.{HasReplayed}
use Rattle.dex_cli.proofs.replaying.play.Goals as goal

pub returns-in-Ok : goal.returns-in-Ok
returns-in-Ok c = subst (λ (s : Script). IfOk c.finish.result (HasReplayed s c.finish.new.world)) c.in-Ok.ensures.script c.finish.ensures
