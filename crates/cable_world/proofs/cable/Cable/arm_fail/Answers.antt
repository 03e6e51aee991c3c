use Rattle.std.proofs.Common.{refl, subst, sym}
use Rattle.dsd_values.specs.declared.role.Role.{Role}
use Rattle.dsd_values.specs.declared.role.Role.TheVariants.{Receiver, Supplier}
use Rattle.dsd_station.specs.Plans.{with_failure}
use Rattle.cable_world.specs.CableSteps.{Goes}
use Rattle.cable_world.specs.Obeying.{Plays}
use Rattle.cable_world.specs.Scenes.{Scene, side, with_log}
use Rattle.cable_world.specs.declared.event.Event.TheVariants.{Fail}
use Rattle.cable_world.proofs.PlannedSeats.{plans_handheld, plans_receiver}
use Rattle.cable_world.proofs.cable.Cable.arm_fail.Goals as goal

pub returns-in-Supplier : goal.returns-in-Supplier
returns-in-Supplier c =
    let old = c.args.self.now in
    let new = record old { handheld = c.arm_fail.new.self } in
    subst (λ (r : Role). Goes (Plays (Fail r c.args.number)) old new) (sym c.in-Supplier.is)
    (plans_handheld (with_failure old.handheld.log c.args.number).plan (λ (scene : Scene). with_log scene Supplier (with_failure (side scene Supplier).log c.args.number)) old new c.requires.ready refl refl refl refl c.arm_fail.ensures refl)

pub returns-in-Receiver : goal.returns-in-Receiver
returns-in-Receiver c =
    let old = c.args.self.now in
    let new = record old { receiver = c.arm_fail-in-Receiver.new.self } in
    subst (λ (r : Role). Goes (Plays (Fail r c.args.number)) old new) (sym c.in-Receiver.is)
    (plans_receiver (with_failure old.receiver.log c.args.number).plan (λ (scene : Scene). with_log scene Receiver (with_failure (side scene Receiver).log c.args.number)) old new c.requires.ready refl refl refl refl c.arm_fail-in-Receiver.ensures refl)
