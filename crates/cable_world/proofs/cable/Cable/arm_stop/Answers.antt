use Rattle.std.proofs.Common.{refl, subst, sym}
use Rattle.dsd_values.specs.declared.role.Role.{Role}
use Rattle.dsd_values.specs.declared.role.Role.TheVariants.{Receiver, Supplier}
use Rattle.dsd_station.specs.Plans.{with_stop}
use Rattle.cable_world.specs.CableSteps.{Goes}
use Rattle.cable_world.specs.Obeying.{Plays}
use Rattle.cable_world.specs.Scenes.{Scene, side, with_log}
use Rattle.cable_world.specs.declared.event.Event.TheVariants.{Stop}
use Rattle.cable_world.proofs.PlannedSeats.{plans_handheld, plans_receiver}
use Rattle.cable_world.proofs.cable.Cable.arm_stop.Goals as goal

pub returns-in-Supplier : goal.returns-in-Supplier
returns-in-Supplier c =
    let old = c.args.self.now in
    let new = record old { handheld = c.arm_stop.new.self } in
    subst (λ (r : Role). Goes (Plays (Stop r c.args.number c.args.pick)) old new) (sym c.in-Supplier.is)
    (plans_handheld (with_stop old.handheld.log c.args.number c.args.pick).plan (λ (scene : Scene). with_log scene Supplier (with_stop (side scene Supplier).log c.args.number c.args.pick)) old new c.requires.ready refl refl refl refl c.arm_stop.ensures refl)

pub returns-in-Receiver : goal.returns-in-Receiver
returns-in-Receiver c =
    let old = c.args.self.now in
    let new = record old { receiver = c.arm_stop-in-Receiver.new.self } in
    subst (λ (r : Role). Goes (Plays (Stop r c.args.number c.args.pick)) old new) (sym c.in-Receiver.is)
    (plans_receiver (with_stop old.receiver.log c.args.number c.args.pick).plan (λ (scene : Scene). with_log scene Receiver (with_stop (side scene Receiver).log c.args.number c.args.pick)) old new c.requires.ready refl refl refl refl c.arm_stop-in-Receiver.ensures refl)
