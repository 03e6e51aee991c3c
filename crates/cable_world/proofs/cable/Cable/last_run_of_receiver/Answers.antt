use Rattle.std.proofs.Common.{◌∙◌, ap, subst, sym, List}
use Rattle.dsd_values.specs.declared.role.Role.TheVariants.{Receiver}
use Rattle.dsd_station.specs.declared.call.Call.{Call}
use Rattle.end_report.specs.declared.ending.LastRun.TheVariants.{Never}
use Rattle.cable_world.specs.Finishing.{AreStepsOf, last_along}
use Rattle.cable_world.specs.StepsKept.{StepView}
use Rattle.cable_world.proofs.LastAlong.{along_noted, steps_of_role}
use Rattle.cable_world.proofs.cable.Cable.last_run_of_receiver.Goals as goal

pub last_run-requires : goal.last_run-requires
last_run-requires c =
    let cable = c.args.self.now in
    subst (λ (l : List Call). AreStepsOf Receiver l c.deref.result.now) (sym c.calls.ensures.value)
    (subst (λ (l : List StepView). AreStepsOf Receiver cable.receiver.log.calls l) (sym c.deref.ensures.value) (steps_of_role Receiver cable.handheld.log.calls cable.receiver.log.calls cable.steps.items c.requires))

pub returns : goal.returns
returns c =
    let cable = c.args.self.now in
    c.last_run.ensures ∙ ap (λ (l : List Call). last_along Receiver l Never c.deref.result.now) c.calls.ensures.value
    ∙ ap (λ (l : List StepView). last_along Receiver cable.receiver.log.calls Never l) c.deref.ensures.value ∙ along_noted Receiver cable.handheld.log.calls cable.receiver.log.calls Never cable.steps.items
