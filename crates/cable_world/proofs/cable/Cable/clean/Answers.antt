use Rattle.dsd_values.specs.declared.role.Role.TheVariants.{Receiver, Supplier}
use Rattle.cable_world.specs.Obeying.{Exchanges, Starts, Then, Unplugs}
use Rattle.cable_world.proofs.Going.{goes_then, on_ok_so}
use Rattle.cable_world.proofs.cable.Cable.clean.Goals as goal

pub returns : goal.returns
returns c =
    let new = c.exchange.new.self in
    on_ok_so c.exchange.result c.exchange.ensures
    (λ exchanges.
    goes_then Unplugs (Then (Starts Receiver) (Then (Starts Supplier) Exchanges)) c.args.self.now c.unplug.new.self new c.in_ok-unplug.ensures
    (goes_then (Starts Receiver) (Then (Starts Supplier) Exchanges) c.unplug.new.self c.start.new.self new c.in_ok-start.ensures
    (goes_then (Starts Supplier) Exchanges c.start.new.self c.start-2.new.self new c.in_ok-start-2.ensures exchanges)))
