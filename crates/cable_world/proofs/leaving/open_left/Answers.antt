use Rattle.std.proofs.Common.{rules, ◌∙◌, ap}
use Rattle.dsd_station.specs.Plans.{after_restart, disarmed}
use Rattle.cable_world.proofs.Unarmed.{book_still, unarmed_left}
use Rattle.cable_world.proofs.leaving.open_left.Goals as goal

pub open_unarmed-requires-clause-unarmed : goal.open_unarmed-requires-clause-unarmed
open_unarmed-requires-clause-unarmed c = unarmed_left c.args.station.now c.restart.new.self (search rules) c.requires.unstarved

pub open_unarmed-requires-clause-book : goal.open_unarmed-requires-clause-book
open_unarmed-requires-clause-book c = book_still c.args.role c.args.station.now c.restart.new.self (search rules) c.requires.book
