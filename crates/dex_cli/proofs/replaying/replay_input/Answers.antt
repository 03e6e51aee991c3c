use Rattle.std.proofs.Common.{refl, rules}
use Rattle.cable_world.specs.Reading.{script_of}
use Rattle.dex_cli.specs.Replaying.{worlds_of}
use Rattle.dex_cli.proofs.ByInput.{refused_as, says_none}
use Rattle.dex_cli.proofs.Replayed.{no_script, replays_so}
use Rattle.dex_cli.proofs.replaying.replay_input.Goals as goal

pub returns-in-Ok-play_script-clause-told : goal.returns-in-Ok-play_script-clause-told
returns-in-Ok-play_script-clause-told c =
    replays_so c.args.input.items (worlds_of c.args.world.now c.play_script.new.world) c.in-Ok.script c.in-Ok-play_script.report (search rules) c.in-Ok.ensures.found c.in-Ok-play_script.ensures.told

pub returns-in-Err-Refused-clause-told : goal.returns-in-Err-Refused-clause-told
returns-in-Err-Refused-clause-told c =
    let clauses = rw c.in-Err-Refused.field-0-is at c.in-Err-Refused.ensures in
    no_script c.args.input.items (worlds_of c.args.world.now c.args.world.now) c.refused.result c.in-Err-Refused.place c.in-Err-Refused.reason (search rules)
    (refused_as c.refused.result _ c.in-Err-Refused.place _ c.in-Err-Refused.reason c.refused.ensures c.in-Err-Refused.place-is c.in-Err-Refused.reason-is)
    (says_none (script_of c.args.input.items) c.in-Err-Refused.place c.in-Err-Refused.reason clauses.exact) refl
