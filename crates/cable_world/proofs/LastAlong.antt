-- How the last run came out by an end's own record, and by the steps as they are noted.
use Rattle.std.proofs.Common.{◌≡◌, true, List, [], ◌∷◌, map, refl, ◌∙◌, ap, if◌then◌else◌}
use Rattle.dsd_values.specs.declared.role.Role.{Role}
use Rattle.dsd_values.specs.declared.role.Role.TheVariants.{Receiver, Supplier}
use Rattle.dsd_station.specs.declared.call.Call.{Call}
use Rattle.end_report.specs.declared.ending.LastRun.{LastRun}
use Rattle.cable_world.specs.Cables.{AreStepsIn, IsStepIn, noted_in, part_in, record_for}
use Rattle.cable_world.specs.Finishing.{AreStepsOf, last_after, last_along}
use Rattle.cable_world.specs.LastRuns.{last_behind, last_from}
use Rattle.cable_world.specs.Steps.{same_role}
use Rattle.cable_world.specs.StepsKept.{StepView}

one_step : (role other : Role) (handheld receiver : List Call) (before : LastRun) (step : StepView)
    → (if same_role role other then last_behind before step.answer (part_in (record_for role handheld receiver) step) else before)
    ≡ (if same_role role other then last_behind before step.answer (part_in (record_for other handheld receiver) step) else before)
one_step Supplier Supplier handheld receiver before step = refl
one_step Supplier Receiver handheld receiver before step = refl
one_step Receiver Supplier handheld receiver before step = refl
one_step Receiver Receiver handheld receiver before step = refl

pub along_noted : (role : Role) (handheld receiver : List Call) (before : LastRun) (steps : List StepView)
    → last_along role (record_for role handheld receiver) before steps ≡ last_from role before (map (noted_in handheld receiver) steps)
along_noted role handheld receiver before [] = refl
along_noted role handheld receiver before (step ∷ steps) =
    along_noted role handheld receiver (last_after role (record_for role handheld receiver) before step) steps
    ∙ ap (λ (l : LastRun). last_from role l (map (noted_in handheld receiver) steps)) (one_step role step.role handheld receiver before step)

own_step : (role other : Role) (handheld receiver : List Call) (step : StepView) → IsStepIn (record_for other handheld receiver) step → same_role role other ≡ true → IsStepIn (record_for role handheld receiver) step
own_step Supplier Supplier handheld receiver step is same = is
own_step Supplier Receiver handheld receiver step is same = absurd (cc)
own_step Receiver Supplier handheld receiver step is same = absurd (cc)
own_step Receiver Receiver handheld receiver step is same = is

pub steps_of_role : (role : Role) (handheld receiver : List Call) (steps : List StepView) → AreStepsIn handheld receiver steps → AreStepsOf role (record_for role handheld receiver) steps
steps_of_role role handheld receiver [] are = tt
steps_of_role role handheld receiver (step ∷ steps) are = (λ same. own_step role step.role handheld receiver step are.0 same, steps_of_role role handheld receiver steps are.1)
