use Rattle.std.proofs.Common.{[], ◌∷◌, ◌∙◌, ap}
use Rattle.dsd_station.specs.Logged.{Log}
use Rattle.cable_world.proofs.PlayerOpened.{grows_behind}
use Rattle.cable_world.proofs.starting.start_handheld.Goals as goal

pub returns-in-Ok-clause-opens : goal.returns-in-Ok-clause-opens
returns-in-Ok-clause-opens c = c.open_sharing_handheld.ensures.opens c.args.station.now c.in-Ok.ensures.ok

pub returns-in-Ok-clause-grows : goal.returns-in-Ok-clause-grows
returns-in-Ok-clause-grows c = grows_behind c.args.station.now c.restart.new.self c.open_sharing_handheld.new.station c.in-Ok.ensures.ok c.open_sharing_handheld.ensures.grows
