use Rattle.std.proofs.Common.{◌≡◌, sym, ◌∙◌, ap, subst, List, ℕ, refl}
use Rattle.dsd_values.specs.declared.role.Role.TheVariants.{Receiver, Supplier}
use Rattle.cable_world.specs.Finishing.{Finishes, IsOver, Tells}
use Rattle.cable_world.specs.declared.world_report.WorldReport.{WorldReport}
use Rattle.cable_world.proofs.Finished.{noted_stay, steps_stay}
use Rattle.cable_world.proofs.PlayerPolled.{if_ok_so}
use Rattle.cable_world.proofs.cable.Cable.finish.Goals as goal

pub report-requires-clause-steps : goal.report-requires-clause-steps
report-requires-clause-steps c =
    let cable = c.args.self.now in
    steps_stay cable.handheld.log cable.receiver.log c.leave.new.self.log c.leave-2.new.self.log cable.steps.items c.leave.ensures.grows c.leave-2.ensures.grows c.requires.ready.steps

pub returns-in-Ok-clause-finishes : goal.returns-in-Ok-clause-finishes
returns-in-Ok-clause-finishes c =
    let cable = c.args.self.now in
    if_ok_so c.report.result _ _ c.report.ensures
    (λ report tells. record {
      handheld = c.in_ok-handheld.handheld;
      receiver = c.in-Ok.receiver;
      handheld_over = c.in_ok-handheld.ensures.book;
      receiver_over = c.in-Ok.ensures.book;
      tells = tells;
      handheld_image = c.leave.ensures.image;
      receiver_image = c.leave-2.ensures.image;
      handheld_refused = c.leave.ensures.refused;
      receiver_refused = c.leave-2.ensures.refused;
      setting = refl;
      noted = noted_stay cable.handheld.log cable.receiver.log c.leave.new.self.log c.leave-2.new.self.log cable.steps.items c.leave.ensures.grows c.leave-2.ensures.grows c.requires.ready.steps;
    })
