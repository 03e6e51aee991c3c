use Rattle.dsd_values.specs.declared.role.Role.TheVariants.{Receiver, Supplier}
use Rattle.dsd_station.specs.declared.feeding.Given.TheVariants as given
use Rattle.cable_world.specs.Obeying.{Hears}
use Rattle.cable_world.proofs.Exchanged.{both_less}
use Rattle.cable_world.proofs.Going.{goes_then, on_ok_so}
use Rattle.cable_world.proofs.cable.Cable.quiet_both.Goals as goal

pub returns-in-Ok-clause-goes : goal.returns-in-Ok-clause-goes
returns-in-Ok-clause-goes c =
    on_ok_so c.hear_quiet-in-Ok.result c.hear_quiet-in-Ok.ensures.goes
    (goes_then (Hears Supplier (given.Quiet 1)) (Hears Receiver (given.Quiet 1)) c.args.self.now c.hear_quiet.new.self c.hear_quiet-in-Ok.new.self c.in-Ok.ensures.goes)

pub returns-in-Ok-clause-less : goal.returns-in-Ok-clause-less
returns-in-Ok-clause-less c =
    both_less c.args.self.now c.hear_quiet.new.self c.hear_quiet-in-Ok.new.self c.hear_quiet-in-Ok.result c.in-Ok.ensures.goes c.in-Ok.ensures.left c.in-Ok.ensures.less c.hear_quiet-in-Ok.ensures.left
    c.hear_quiet-in-Ok.ensures.less
