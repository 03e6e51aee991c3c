use Rattle.std.proofs.Common.{map, string_bytes}
use Rattle.dex_cli.specs.Formatting.{served_of}
use Rattle.dex_cli.specs.Replaying.{worlds_of}
use Rattle.dex_cli.specs.Verdicts.{read_of}
use Rattle.dex_cli.proofs.Composed.{station_left, taken, world_left}
use Rattle.dex_cli.proofs.job.dex.Goals as goal

pub returns-in-Ok-clause-memory : goal.returns-in-Ok-clause-memory
returns-in-Ok-clause-memory g c = λ wanting.
    let kept = c.print.ensures.memory wanting in
    let read = read_of g.S.Source.left g.S.Source.faults c.args.source.now c.verdict_of.new.source in
    let served = served_of g.T.Station.told g.T.Station.faults c.args.station.now c.verdict_of.new.station in
    let worlds = worlds_of c.args.world.now c.verdict_of.new.world in (
      kept.0,
      taken g.T.Station.tells (map string_bytes c.args.words.now) read served worlds c.in-Ok.verdict c.in-Ok.ensures.may,
      station_left g.T.Station.tells (map string_bytes c.args.words.now) read served worlds c.in-Ok.verdict _ c.in-Ok.ensures.may kept.1 c.in-Ok.ensures.idle,
    )

pub returns-in-Ok-clause-unplayed : goal.returns-in-Ok-clause-unplayed
returns-in-Ok-clause-unplayed g c = λ wanting.
    let read = read_of g.S.Source.left g.S.Source.faults c.args.source.now c.verdict_of.new.source in
    let served = served_of g.T.Station.told g.T.Station.faults c.args.station.now c.verdict_of.new.station in
    world_left g.T.Station.tells (map string_bytes c.args.words.now) read served (worlds_of c.args.world.now c.verdict_of.new.world) c.in-Ok.verdict c.in-Ok.ensures.may c.in-Ok.ensures.kept
