-- Steps stay parts of a record that grew.
use Rattle.std.proofs.Common.{◌≡◌, List, ◌++◌, map, sym, ◌∙◌, ap, subst}
use Rattle.dsd_station.specs.declared.call.Call.{Call}
use Rattle.dsd_station.specs.Logged.{Log}
use Rattle.cable_world.specs.Cables.{AreStepsIn, noted_in}
use Rattle.cable_world.specs.SeatSteps.{Grows}
use Rattle.cable_world.specs.StepsKept.{StepView}
use Rattle.cable_world.proofs.Places.{handheld_grows, in_grown_handheld, in_grown_receiver, receiver_grows}

pub steps_stay : (handheld receiver : Log) (longer other : Log) (steps : List StepView) → Grows handheld longer → Grows receiver other → AreStepsIn handheld.calls receiver.calls steps
    → AreStepsIn longer.calls other.calls steps
steps_stay handheld receiver longer other steps one two are =
    subst (λ (l : List Call). AreStepsIn longer.calls l steps) (sym two.calls)
    (subst (λ (l : List Call). AreStepsIn l (receiver.calls ++ two.more) steps) (sym one.calls)
    (in_grown_receiver (handheld.calls ++ one.more) receiver.calls two.more steps (in_grown_handheld handheld.calls one.more receiver.calls steps are)))

pub noted_stay : (handheld receiver : Log) (longer other : Log) (steps : List StepView) → Grows handheld longer → Grows receiver other → AreStepsIn handheld.calls receiver.calls steps
    → map (noted_in longer.calls other.calls) steps ≡ map (noted_in handheld.calls receiver.calls) steps
noted_stay handheld receiver longer other steps one two are =
    ap (λ (l : List Call). map (noted_in l other.calls) steps) one.calls ∙ ap (λ (l : List Call). map (noted_in (handheld.calls ++ one.more) l) steps) two.calls
    ∙ receiver_grows (handheld.calls ++ one.more) receiver.calls two.more steps (in_grown_handheld handheld.calls one.more receiver.calls steps are)
    ∙ handheld_grows handheld.calls one.more receiver.calls steps are
