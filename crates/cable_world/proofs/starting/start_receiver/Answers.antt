use Rattle.std.proofs.Common.{[], ◌∷◌, ◌∙◌, ap}
use Rattle.dsd_station.specs.Logged.{Log}
use Rattle.cable_world.proofs.PlayerOpened.{grows_behind}
use Rattle.cable_world.proofs.starting.start_receiver.Goals as goal

pub returns-in-Ok-clause-opens : goal.returns-in-Ok-clause-opens
returns-in-Ok-clause-opens c = c.open_sharing_receiver.ensures.opens c.args.station.now c.in-Ok.ensures.ok

pub returns-in-Ok-clause-grows : goal.returns-in-Ok-clause-grows
returns-in-Ok-clause-grows c = grows_behind c.args.station.now c.restart.new.self c.open_sharing_receiver.new.station c.in-Ok.ensures.ok c.open_sharing_receiver.ensures.grows
