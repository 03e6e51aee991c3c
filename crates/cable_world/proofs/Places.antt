-- Steps are places of a record, and stay the same of a longer one.
use Rattle.std.proofs.Common.{◌≡◌, ◌-◌, List, [], ◌∷◌, ◌++◌, length, map, take, drop, refl, sym, ◌∙◌, ap, arith, length-append, length-drop}
use Rattle.std.proofs.lemmas.List.{drop-append-le, drop_at, take-append-le, take_all}
use Rattle.dsd_values.specs.declared.role.Role.{Role}
use Rattle.dsd_values.specs.declared.role.Role.TheVariants.{Receiver, Supplier}
use Rattle.dsd_station.specs.declared.call.Call.{Call}
use Rattle.cable_world.specs.Cables.{AreStepsIn, IsStepIn, noted_in, part_in, record_for}
use Rattle.cable_world.specs.Noted.{Noted}
use Rattle.cable_world.specs.StepsKept.{StepView}

part_stays : (calls more : List Call) (step : StepView) → IsStepIn calls step → part_in (calls ++ more) step ≡ part_in calls step
part_stays calls more step is =
    ap (λ (l : List Call). take (step.until - step.from) l) (drop-append-le step.from calls more (omega (arith, is.0, is.1)))
    ∙ take-append-le (step.until - step.from) (drop step.from calls) more (omega (arith, is.0, is.1, length-drop step.from calls))

longer : (calls more : List Call) (step : StepView) → IsStepIn calls step → IsStepIn (calls ++ more) step
longer calls more step is = (is.0, omega (arith, is.1, length-append calls more))

as_noted : StepView → List Call → Noted
as_noted step part = record { role = step.role; answer = step.answer; part = part }

-- where the handheld's record grew
one_handheld : (role : Role) (calls more other : List Call) (step : StepView) → IsStepIn (record_for role calls other) step → part_in (record_for role (calls ++ more) other) step ≡ part_in (record_for role calls other) step
one_handheld Supplier calls more other step is = part_stays calls more step is
one_handheld Receiver calls more other step is = refl

in_handheld : (role : Role) (calls more other : List Call) (step : StepView) → IsStepIn (record_for role calls other) step → IsStepIn (record_for role (calls ++ more) other) step
in_handheld Supplier calls more other step is = longer calls more step is
in_handheld Receiver calls more other step is = is

pub handheld_grows : (calls more other : List Call) (steps : List StepView) → AreStepsIn calls other steps → map (noted_in (calls ++ more) other) steps ≡ map (noted_in calls other) steps
handheld_grows calls more other [] are = refl
handheld_grows calls more other (step ∷ steps) are =
    ap (λ (p : List Call). record { role = step.role; answer = step.answer; part = p } ∷ map (noted_in (calls ++ more) other) steps) (one_handheld step.role calls more other step are.0)
    ∙ ap (λ (l : List Noted). noted_in calls other step ∷ l) (handheld_grows calls more other steps are.1)

pub in_grown_handheld : (calls more other : List Call) (steps : List StepView) → AreStepsIn calls other steps → AreStepsIn (calls ++ more) other steps
in_grown_handheld calls more other [] are = tt
in_grown_handheld calls more other (step ∷ steps) are = (in_handheld step.role calls more other step are.0, in_grown_handheld calls more other steps are.1)

-- where the receiver's did
one_receiver : (role : Role) (other calls more : List Call) (step : StepView) → IsStepIn (record_for role other calls) step → part_in (record_for role other (calls ++ more)) step ≡ part_in (record_for role other calls) step
one_receiver Receiver other calls more step is = part_stays calls more step is
one_receiver Supplier other calls more step is = refl

in_receiver : (role : Role) (other calls more : List Call) (step : StepView) → IsStepIn (record_for role other calls) step → IsStepIn (record_for role other (calls ++ more)) step
in_receiver Receiver other calls more step is = longer calls more step is
in_receiver Supplier other calls more step is = is

pub receiver_grows : (other calls more : List Call) (steps : List StepView) → AreStepsIn other calls steps → map (noted_in other (calls ++ more)) steps ≡ map (noted_in other calls) steps
receiver_grows other calls more [] are = refl
receiver_grows other calls more (step ∷ steps) are =
    ap (λ (p : List Call). record { role = step.role; answer = step.answer; part = p } ∷ map (noted_in other (calls ++ more)) steps) (one_receiver step.role other calls more step are.0)
    ∙ ap (λ (l : List Noted). noted_in other calls step ∷ l) (receiver_grows other calls more steps are.1)

pub in_grown_receiver : (other calls more : List Call) (steps : List StepView) → AreStepsIn other calls steps → AreStepsIn other (calls ++ more) steps
in_grown_receiver other calls more [] are = tt
in_grown_receiver other calls more (step ∷ steps) are = (in_receiver step.role other calls more step are.0, in_grown_receiver other calls more steps are.1)

-- one more at the end
pub steps_in_more : (handheld receiver : List Call) (steps : List StepView) (step : StepView) → AreStepsIn handheld receiver steps → IsStepIn (record_for step.role handheld receiver) step → AreStepsIn handheld receiver (steps ++ step ∷ [])
steps_in_more handheld receiver [] step are is = (is, tt)
steps_in_more handheld receiver (one ∷ steps) step are is = (are.0, steps_in_more handheld receiver steps step are.1 is)

-- the part that was just made
pub last_part : (calls part : List Call) (step : StepView) → step.from ≡ length calls → step.until ≡ length (calls ++ part) → part_in (calls ++ part) step ≡ part
last_part calls part step from until =
    ap (λ (l : List Call). take (step.until - step.from) l) (drop_at calls part step.from (sym from)) ∙ take_all (step.until - step.from) part (omega (arith, from, until, length-append calls part))
