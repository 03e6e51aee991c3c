-- What the two ends of a world hear, run by run.
use Rattle.std.proofs.Common.{◌≡◌, ℕ, Bool, true, false, List, [], ◌∷◌, ◌++◌, length, take, refl, sym, ◌∙◌, ap, subst, append_assoc, append-nil, arith, if◌then◌else◌, ◌==◌}
use Rattle.std.specs.Prelude.{All}
use Rattle.std.specs.List.{Contains}
use Rattle.std.proofs.lemmas.List.{take_all}
use Rattle.std.proofs.lemmas.Bool.Decides.{nat_tests}
use Rattle.std.proofs.lemmas.List.Elements.{All-cons, All-nil, Contains-append_left, Contains-append_right, Contains-push}
use Rattle.dsd_values.specs.declared.role.Role.{Role}
use Rattle.dsd_values.specs.declared.role.Role.TheVariants.{Receiver, Supplier}
use Rattle.dsd_station.specs.declared.call.Call.{Call}
use Rattle.dsd_station.specs.declared.call.Call.TheVariants.{Attach, Size, Read, Write, Sync, Listen, Speak, Restart}
use Rattle.dsd_station.specs.declared.call.Outcome.TheVariants.{Done, Failing, Stopped}
use Rattle.dsd_station.specs.declared.feeding.Fed.{Fed}
use Rattle.dsd_station.specs.Heard.{said_by, said_in}
use Rattle.dsd_station.specs.Logged.{Log}
use Rattle.dsd_station.specs.Placed.{EachFedBy}
use Rattle.dsd_station.specs.Replayed.{taken}
use Rattle.dex_line.specs.FrameSpelling.{spelling}
use Rattle.dsd_end.specs.Cabling.{HearsFrom, IsHonestCable}
use Rattle.cable_world.specs.Delivering.{AreDeliveries}
use Rattle.dsd_end.specs.Runs.{Run, bytes_heard}
use Rattle.cable_world.proofs.Deliveries.{deliveries_heard}
use Rattle.cable_world.specs.Living.{AreRunsOf, CallSo, HasNoHear, parts_of}
use Rattle.cable_world.specs.Obeying.{Obeys, first_scene}
use Rattle.cable_world.specs.Scenes.{Scene}
use Rattle.cable_world.specs.declared.event.Event.{Event}
use Rattle.cable_world.specs.Steps.{WorldStep, frames_in, other, whole_by}
use Rattle.cable_world.proofs.HeardWell.{AheadBy, AllHeard, AllWhole, AreWhole, Fine, Held, nothing_delivered, whole_both}
use Rattle.cable_world.proofs.EventsKeep.{obeys_on}
use Rattle.cable_world.proofs.StepsKeep.{Stands}
use Rattle.cable_world.proofs.RunFrames.{AreEachFrames, AreRunsFrames, SpeakFrames, calls_speak, frames_front, parts_frames}

-- ---- a frame that went out whole in one `speak` of a run went out in it

-- what one call sent whole is all that it sent
whole_sent : (call : Call) (bytes : List ℕ) (more : List (List ℕ)) → whole_by call ≡ bytes ∷ more → (said_by call ≡ bytes) × (more ≡ [])
whole_sent (Attach journal port answer) bytes more e = absurd (cc)
whole_sent (Size answer) bytes more e = absurd (cc)
whole_sent (Read at room answer) bytes more e = absurd (cc)
whole_sent (Write at piece outcome) bytes more e = absurd (cc)
whole_sent (Sync outcome) bytes more e = absurd (cc)
whole_sent (Listen answer) bytes more e = absurd (cc)
whole_sent (Speak piece Done) bytes more e = (cc, cc)
whole_sent (Speak piece Failing) bytes more e = absurd (cc)
whole_sent (Speak piece (Stopped pick)) bytes more e = by (taken pick (length piece) == length piece) refl e
  where
    by : (all : Bool) → (taken pick (length piece) == length piece) ≡ all → (if all then piece ∷ [] else []) ≡ bytes ∷ more → (take (taken pick (length piece)) piece ≡ bytes) × (more ≡ [])
    by false is e = absurd (cc)
    by true is e =
        let n : taken pick (length piece) ≡ length piece = grind (arith, nat_tests) in
        let same : piece ≡ bytes = cc in
        (take_all (taken pick (length piece)) piece (omega (arith, n)) ∙ same, cc)
whole_sent Restart bytes more e = absurd (cc)

module _ (others : List Run) (run : Run) (inside : Contains others run) where
  one_call_went : (call : Call) (front : List ℕ) (rest : List Call) (frames : List (List ℕ)) → whole_by call ≡ frames → run.gone ≡ front ++ said_in (call ∷ rest) → AreEachFrames frames → AreWhole others frames
  one_call_went call front rest [] e gone each = tt
  one_call_went call front rest (bytes ∷ more) e gone ((frame, spoken, is), each) =
      let (said, none) = whole_sent call bytes more e in
      let out : run.gone ≡ front ++ (spelling frame ++ said_in rest) = gone ∙ ap (λ (l : List ℕ). front ++ (l ++ said_in rest)) (said ∙ is) in
      ((frame, spoken, is, (run, inside, (front, said_in rest, out))), subst (AreWhole others) (sym none) tt)

  calls_went : (front : List ℕ) (calls : List Call) → run.gone ≡ front ++ said_in calls → AreEachFrames (frames_in calls) → AreWhole others (frames_in calls)
  calls_went front [] gone each = tt
  calls_went front (call ∷ calls) gone each =
      let (here, there) = frames_front (whole_by call) (frames_in calls) each in
      let on : run.gone ≡ (front ++ said_by call) ++ said_in calls = gone ∙ sym (append_assoc front (said_by call) (said_in calls)) in
      whole_both others (whole_by call) (frames_in calls) (one_call_went call front calls (whole_by call) refl gone here) (calls_went (front ++ said_by call) calls on there)

first_inside : (run : Run) (runs : List Run) → Contains (run ∷ runs) run
first_inside run runs = Contains-append_left (run ∷ []) runs run (Contains-push [] run)

later_inside : (run : Run) (runs : List Run) (one : Run) → Contains runs one → Contains (run ∷ runs) one
later_inside run runs one there = Contains-append_right (run ∷ []) runs one there

all_went : (others : List Run) (calls : List (List Call)) (runs : List Run) → ((run : Run) → Contains runs run → Contains others run) → AreRunsOf calls runs → AreRunsFrames calls → AllWhole others calls
all_went others [] runs inside are frames = tt
all_went others (one ∷ calls) [] inside are frames = absurd are
all_went others (one ∷ calls) (run ∷ runs) inside are frames = (
  calls_went others run (inside run (first_inside run runs)) [] one are.1 frames.0,
  all_went others calls runs (λ x there. inside x (later_inside run runs x there)) are.2 frames.1,
)

-- ---- what each run heard

all_heard : (others : List Run) (calls : List (List Call)) (runs : List Run) → AreRunsOf calls runs → AllHeard others calls → All (HearsFrom others) runs
all_heard others [] [] are heard = All-nil (HearsFrom others)
all_heard others [] (run ∷ runs) are heard = absurd are
all_heard others (one ∷ calls) [] are heard = absurd are
all_heard others (one ∷ calls) (run ∷ runs) are heard =
    All-cons (HearsFrom others) run runs (deliveries_heard others run (subst (λ (l : List ℕ). AreDeliveries others l) (ap bytes_heard (sym are.0)) heard.0)) (all_heard others calls runs are.2 heard.1)

begun_empty : (n : ℕ) (fed : List Fed) → fed ≡ [] → EachFedBy n fed
begun_empty n fed none = subst (EachFedBy n) (sym none) tt

begins_fine : (role : Role) (others : List Run) (supplier receiver : Log) → supplier.plan.fed ≡ [] → receiver.plan.fed ≡ [] → Fine role others [] (first_scene supplier receiver)
begins_fine Supplier others supplier receiver s r =
    record { fed = begun_empty (length supplier.calls) supplier.plan.fed s; whole = tt; waits = tt; heard = nothing_delivered others; going = λ (on : false ≡ true). absurd (cc) }
begins_fine Receiver others supplier receiver s r =
    record { fed = begun_empty (length receiver.calls) receiver.plan.fed r; whole = tt; waits = tt; heard = nothing_delivered others; going = λ (on : false ≡ true). absurd (cc) }

begins_ahead : (role : Role) (others : List Run) (supplier receiver : Log) (steps : List WorldStep) → SpeakFrames steps → AreRunsOf (parts_of (other role) steps).runs others → AheadBy others false (parts_of (other role) steps)
begins_ahead role others supplier receiver steps speak are =
    record { before = λ (on : false ≡ true). absurd (cc); runs = all_went others (parts_of (other role) steps).runs others (λ run there. there) are (parts_frames (other role) steps speak).1 }

begun : (role : Role) (others : List Run) (supplier receiver : Log) (steps : List WorldStep) → supplier.plan.fed ≡ [] → receiver.plan.fed ≡ [] → SpeakFrames steps
    → AreRunsOf (parts_of (other role) steps).runs others → Stands others role [] (first_scene supplier receiver) steps
begun Supplier others supplier receiver steps s r speak are = (begins_fine Supplier others supplier receiver s r, begins_ahead Supplier others supplier receiver steps speak are, speak)
begun Receiver others supplier receiver steps s r speak are = (begins_fine Receiver others supplier receiver s r, begins_ahead Receiver others supplier receiver steps speak are, speak)

-- each run of this end heard what runs of the other one spoke
pub world_heard : (role : Role) (events : List Event) (supplier receiver : Log) (steps : List WorldStep) (last : Scene) (own others : List Run)
    → Obeys events (first_scene supplier receiver) steps last → HasNoHear events → supplier.plan.fed ≡ [] → receiver.plan.fed ≡ [] → SpeakFrames steps
    → AreRunsOf (parts_of role steps).runs own → AreRunsOf (parts_of (other role) steps).runs others → All (HearsFrom others) own
world_heard role events supplier receiver steps last own others obeys free s r speak are those =
    let all : steps ++ [] ≡ steps = append-nil steps in
    let at_end : (h : List ℕ) → Stands others role h last [] → Held role others h [] = λ h stands. (subst (AreDeliveries others) (sym (append-nil h)) stands.0.heard, tt) in
    let held : Held role others [] (steps ++ []) =
    obeys_on others role events free (first_scene supplier receiver) steps last [] obeys at_end []
    (begun role others supplier receiver (steps ++ []) s r (subst SpeakFrames (sym all) speak) (subst (λ (l : List WorldStep). AreRunsOf (parts_of (other role) l).runs others) (sym all) those)) in
    let now : Held role others [] steps = subst (Held role others []) all held in
    all_heard others (parts_of role steps).runs own are now.1

pub world_cable : (events : List Event) (supplier receiver : Log) (steps : List WorldStep) (last : Scene) (s r : List Run)
    → Obeys events (first_scene supplier receiver) steps last → HasNoHear events → supplier.plan.fed ≡ [] → receiver.plan.fed ≡ [] → CallSo steps
    → AreRunsOf (parts_of Supplier steps).runs s → AreRunsOf (parts_of Receiver steps).runs r → IsHonestCable s r
world_cable events supplier receiver steps last s r obeys free none nothing speak these those = record {
  there = world_heard Supplier events supplier receiver steps last s r obeys free none nothing (calls_speak steps speak) these those;
  back = world_heard Receiver events supplier receiver steps last r s obeys free none nothing (calls_speak steps speak) those these;
}
