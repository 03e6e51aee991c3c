use Rattle.dsd_values.specs.declared.role.Role.TheVariants.{Receiver, Supplier}
use Rattle.dsd_station.specs.declared.feeding.Given.TheVariants as given
use Rattle.cable_world.specs.Obeying.{Hears}
use Rattle.cable_world.proofs.Going.{goes_then, on_ok_so}
use Rattle.cable_world.proofs.cable.Cable.unplug_both.Goals as goal

pub returns-in-Ok : goal.returns-in-Ok
returns-in-Ok c =
    on_ok_so c.hear-in-Ok.result c.hear-in-Ok.ensures.goes (goes_then (Hears Supplier given.Unplugged) (Hears Receiver given.Unplugged) c.args.self.now c.hear.new.self c.hear-in-Ok.new.self c.in-Ok.ensures.goes)
