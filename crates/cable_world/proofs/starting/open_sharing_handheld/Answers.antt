use Rattle.std.proofs.Common.{subst, List}
use Rattle.std.specs.Prelude.{IfOk}
use Rattle.dsd_values.specs.declared.role.Role.TheVariants.{Supplier}
use Rattle.handheld_core.specs.Choosing.{supplier}
use Rattle.handheld_core.specs.declared.draft.Draft.{Draft}
use Rattle.cable_world.specs.SeatOpens.{PlayerOpens}
use Rattle.cable_world.proofs.starting.open_sharing_handheld.Goals as goal

pub returns-in-Ok-clause-opens : goal.returns-in-Ok-clause-opens
returns-in-Ok-clause-opens c = λ before is.
    subst (λ (l : List Draft). IfOk c.open_handheld.result (λ opened. PlayerOpens Supplier (supplier l) opened before c.open_handheld.new.station)) c.in-Ok.ensures (c.open_handheld.ensures.opens before is)
