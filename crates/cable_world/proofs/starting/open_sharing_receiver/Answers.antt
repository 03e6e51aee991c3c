use Rattle.std.proofs.Common.{subst, List}
use Rattle.std.specs.Prelude.{IfOk}
use Rattle.dsd_values.specs.declared.role.Role.TheVariants.{Receiver}
use Rattle.receiver_core.specs.Choosing.{receiver}
use Rattle.receiver_core.specs.declared.count.Count.{Count}
use Rattle.cable_world.specs.SeatOpens.{PlayerOpens}
use Rattle.cable_world.proofs.starting.open_sharing_receiver.Goals as goal

pub returns-in-Ok-clause-opens : goal.returns-in-Ok-clause-opens
returns-in-Ok-clause-opens c = λ before is.
    subst (λ (l : List Count). IfOk c.open_receiver.result (λ opened. PlayerOpens Receiver (receiver l) opened before c.open_receiver.new.station)) c.in-Ok.ensures (c.open_receiver.ensures.opens before is)
