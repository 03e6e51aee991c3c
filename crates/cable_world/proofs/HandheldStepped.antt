-- Steps of the handheld, noted.
use Rattle.std.proofs.Common.{◌≡◌, ℕ, Bool, List, [], ◌∷◌, ◌++◌, length, map, drop, is_some, refl, sym, ◌∙◌, ap, subst, arith, append_assoc, length-append}
use Rattle.std.proofs.lemmas.List.{drop_at, map-append}
use Rattle.dsd_values.specs.declared.role.Role.TheVariants.{Receiver, Supplier}
use Rattle.dsd_values.specs.declared.role.Role.{Role}
use Rattle.dsd_station.specs.declared.call.Call.{Call}
use Rattle.dsd_station.specs.Logged.{Log}
use Rattle.cable_world.specs.Cables.{AreStepsIn, cable_of, noted_in, part_in, scene_of, seat as seat_at, waiting_as}
use Rattle.cable_world.specs.CableSteps.{Goes, IsEndOf, IsOpen}
use Rattle.cable_world.specs.Progressing.{ComesOn, OneEnd, OneList}
use Rattle.cable_world.specs.Living.{AreCallsOf}
use Rattle.cable_world.specs.Noted.{Noted, runs_by, step_of}
use Rattle.cable_world.specs.Noting.{NotesHandheld}
use Rattle.cable_world.specs.Scenes.{Side, all_played, sent_to, stepped, with_log}
use Rattle.cable_world.specs.SeatSteps.{IsReady}
use Rattle.cable_world.specs.Seats.{SeatView, side_of}
use Rattle.cable_world.specs.Steps.{StepKind, frames_in}
use Rattle.cable_world.specs.declared.answer.Answer.{Answer}
use Rattle.cable_world.specs.declared.cable.Cable.{Cable}
use Rattle.cable_world.specs.StepsKept.{StepView}
use Rattle.cable_world.proofs.ComesAlong.{on_noted}
use Rattle.cable_world.proofs.Places.{handheld_grows, in_grown_handheld, last_part, steps_in_more}
use Rattle.cable_world.proofs.SeatStep.{IsSeatStep, StepFrom, ready_with}
use Rattle.cable_world.proofs.Taking.{all_played_calls}

module _ (kind : StepKind) (answer : Answer) (mid : Log) (extra part : List Call) (old new : Cable) (seat : SeatView) (from_mid : mid.calls ≡ old.handheld.log.calls ++ extra)
    (s : IsSeatStep kind answer mid part old.handheld seat) (n : NotesHandheld (length mid.calls) answer (record old { handheld = seat }) new) (open_now : IsOpen old)
    (comes_seat : OneList → (its : OneEnd) → IsEndOf old its → its.role ≡ Supplier → ComesOn its old.handheld (record { role = its.role; answer = answer; part = part } ∷ []) seat) where
  grown : seat.log.calls ≡ mid.calls ++ part
  grown = ap (λ (l : Log). l.calls) s.log ∙ all_played_calls mid part

  made_part : drop (length mid.calls) seat.log.calls ≡ part
  made_part = ap (λ (l : List Call). drop (length mid.calls) l) grown ∙ drop_at mid.calls part (length mid.calls) refl

  log_is : new.handheld.log ≡ seat.log
  log_is = ap (λ (v : SeatView). v.log) n.notes.seat

  behind : new.handheld.log.calls ≡ old.handheld.log.calls ++ (extra ++ part)
  behind = ap (λ (l : Log). l.calls) log_is ∙ grown ∙ ap (λ (l : List Call). l ++ part) from_mid ∙ append_assoc old.handheld.log.calls extra part

  one : Noted
  one = record { role = Supplier; answer = answer; part = part }

  place : StepView
  place = record { role = Supplier; answer = answer; from = length mid.calls; until = length seat.log.calls }

  noted_at : map (noted_in old.handheld.log.calls old.receiver.log.calls) old.steps.items ++ noted_in new.handheld.log.calls old.receiver.log.calls place ∷ [] ≡ map (noted_in old.handheld.log.calls old.receiver.log.calls) old.steps.items ++ one ∷ []
  unfolding one place
  noted_at =
      ap (λ (p : List Call). map (noted_in old.handheld.log.calls old.receiver.log.calls) old.steps.items ++ record { role = Supplier; answer = answer; part = p } ∷ [])
      (ap (λ (l : List Call). part_in l place) (ap (λ (l : Log). l.calls) log_is ∙ grown) ∙ last_part mid.calls part place refl (ap (λ (l : List Call). length l) grown))

  noted_is : (cable_of new).noted ≡ (cable_of old).noted ++ one ∷ []
  unfolding one place
  noted_is =
      ap (λ (l : List StepView). map (noted_in new.handheld.log.calls new.receiver.log.calls) l) n.notes.step
      ∙ ap (λ (v : SeatView). map (noted_in new.handheld.log.calls v.log.calls) (old.steps.items ++ place ∷ [])) n.receiver
      ∙ map-append (noted_in new.handheld.log.calls old.receiver.log.calls) old.steps.items (place ∷ [])
      ∙ ap (λ (l : List Noted). l ++ noted_in new.handheld.log.calls old.receiver.log.calls place ∷ [])
      (ap (λ (l : List Call). map (noted_in l old.receiver.log.calls) old.steps.items) behind ∙ handheld_grows old.handheld.log.calls (extra ++ part) old.receiver.log.calls old.steps.items open_now.steps)
      ∙ noted_at

  side_is : side_of new.handheld ≡ record { log = all_played mid part; runs = runs_by answer; spoken = old.handheld.spoken ++ frames_in part }
  side_is =
      ap (λ (l : Log). record { log = l; runs = is_some new.handheld.player; spoken = new.handheld.spoken }) (log_is ∙ s.log)
      ∙ ap (λ (b : Bool). record { log = all_played mid part; runs = b; spoken = new.handheld.spoken }) (ap (λ (v : SeatView). is_some v.player) n.notes.seat ∙ s.runs)
      ∙ ap (λ (l : List (List ℕ)). record { log = all_played mid part; runs = runs_by answer; spoken = l })
      (ap (λ (v : SeatView). v.spoken) n.notes.seat ∙ ap (λ (l : List Call). seat.spoken ++ frames_in l) made_part ∙ ap (λ (l : List (List ℕ)). l ++ frames_in part) s.spoken)

  waits_is : map waiting_as new.waiting.items ≡ map waiting_as old.waiting.items ++ sent_to Receiver (frames_in part)
  waits_is = n.notes.waits ∙ ap (λ (l : List Call). map waiting_as old.waiting.items ++ sent_to Receiver (frames_in l)) made_part

  scene_is : scene_of (cable_of new) ≡ stepped (with_log (scene_of (cable_of old)) Supplier mid) (step_of one)
  unfolding one
  scene_is =
      ap (λ (x : Side). record { supplier = x; receiver = side_of new.receiver; waiting = map waiting_as new.waiting.items }) side_is
      ∙ ap (λ (x : SeatView). record { supplier = record { log = all_played mid part; runs = runs_by answer; spoken = old.handheld.spoken ++ frames_in part }; receiver = side_of x; waiting = map waiting_as new.waiting.items }) n.receiver
      ∙ ap (λ (l : List (Role × List ℕ)). record { supplier = record { log = all_played mid part; runs = runs_by answer; spoken = old.handheld.spoken ++ frames_in part }; receiver = side_of old.receiver; waiting = l }) waits_is

  pub handheld_stepped : Goes (StepFrom Supplier kind mid) old new
  unfolding one place
  handheld_stepped = record {
    made = one ∷ [];
    noted = noted_is;
    goes = (step_of one, refl, record { role = refl; kind = s.kind; answers = s.answers }, scene_is);
    calls = (subst (λ (k : StepKind). AreCallsOf k part) (sym s.kind) s.calls, tt);
    setting = n.setting;
    ready = record {
      steps = subst (λ (l : List StepView). AreStepsIn new.handheld.log.calls new.receiver.log.calls l) (sym n.notes.step)
          (subst (λ (v : SeatView). AreStepsIn new.handheld.log.calls v.log.calls (old.steps.items ++ place ∷ [])) (sym n.receiver)
          (steps_in_more new.handheld.log.calls old.receiver.log.calls old.steps.items place
          (subst (λ (l : List Call). AreStepsIn l old.receiver.log.calls old.steps.items) (sym behind) (in_grown_handheld old.handheld.log.calls (extra ++ part) old.receiver.log.calls old.steps.items open_now.steps))
          (omega (arith, ap (λ (l : List Call). length l) grown, length-append mid.calls part), omega (arith, ap (λ (l : Log). length l.calls) log_is))));
      handheld = ready_with seat new.handheld (frames_in (drop (length mid.calls) seat.log.calls)) n.notes.seat s.ready;
      receiver = subst IsReady (sym n.receiver) open_now.receiver;
    };
    comes = λ one_list its is. go one_list its is its.role refl;
  }
    where
      go : OneList → (its : OneEnd) → IsEndOf old its → (role : Role) → its.role ≡ role → ComesOn its (seat_at (cable_of old) role) (record { role = Supplier; answer = answer; part = part } ∷ []) (seat_at (cable_of new) role)
      go one_list its is role r = by role r
        where
          both : (its.role ≡ Supplier → ComesOn its old.handheld (record { role = Supplier; answer = answer; part = part } ∷ []) new.handheld) × (its.role ≡ Receiver → ComesOn its old.receiver (record { role = Supplier; answer = answer; part = part } ∷ []) new.receiver)
          both = on_noted its Supplier Receiver answer part old.handheld seat new.handheld old.receiver new.receiver (frames_in (drop (length mid.calls) seat.log.calls)) refl n.notes.seat n.receiver (comes_seat one_list its is)

          by : (role : Role) → its.role ≡ role → ComesOn its (seat_at (cable_of old) role) (record { role = Supplier; answer = answer; part = part } ∷ []) (seat_at (cable_of new) role)
          by Supplier r = both.0 r
          by Receiver r = both.1 r
