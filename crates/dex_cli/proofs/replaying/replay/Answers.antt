use Rattle.std.proofs.Common.{rules}
use Rattle.dex_cli.specs.Replaying.{worlds_of}
use Rattle.dex_cli.specs.Verdicts.{read_of}
use Rattle.dex_cli.proofs.Replayed.{input_replays}
use Rattle.dex_cli.proofs.replaying.replay.Goals as goal

pub returns-in-Ok-clause-told : goal.returns-in-Ok-clause-told
returns-in-Ok-clause-told g c =
    input_replays (read_of g.S.Source.left g.S.Source.faults c.args.source.now c.read_up_to.new.source) (worlds_of c.args.world.now c.replay_input.new.world) c.in-Ok.input.items
    c.replay_input.result (search rules) c.replay_input.ensures.told
