use Rattle.std.proofs.Common.{IfOk, subst}
use Rattle.cable_world.specs.declared.script.Script.{Script}
use Rattle.load_route.specs.Route.{route}
use Rattle.dex_cli.specs.Replaying.{IsReplayed, worlds_of}
use Rattle.dex_cli.proofs.LoadWords.{never_refused, read_as}
use Rattle.dex_cli.proofs.loading.load_text.Goals as goal

pub unreachable-requires : goal.unreachable-requires
unreachable-requires c =
    let clauses = rw c.in-Err-Refused.field-0-is at c.in-Err-Refused.ensures in
    never_refused c.in-Err-Refused.field-0-0 c.in-Err-Refused.field-0-1 (route c.args.count) (clauses.only (route c.args.count) c.requires)

pub returns-in-Ok-clause-told : goal.returns-in-Ok-clause-told
returns-in-Ok-clause-told c =
    subst (λ (s : Script). IfOk c.play_script.result (IsReplayed s (worlds_of c.args.world.now c.play_script.new.world)))
    (read_as c.in-Ok.script (route c.args.count) (c.in-Ok.ensures.only (route c.args.count) c.requires)) c.play_script.ensures.told
