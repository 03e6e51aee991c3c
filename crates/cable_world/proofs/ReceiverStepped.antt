-- Steps of the receiver, noted.
use Rattle.std.proofs.Common.{◌≡◌, ℕ, Bool, List, [], ◌∷◌, ◌++◌, length, map, drop, is_some, refl, sym, ◌∙◌, ap, subst, arith, append_assoc, length-append}
use Rattle.std.proofs.lemmas.List.{drop_at, map-append}
use Rattle.dsd_values.specs.declared.role.Role.TheVariants.{Receiver, Supplier}
use Rattle.dsd_values.specs.declared.role.Role.{Role}
use Rattle.dsd_station.specs.declared.call.Call.{Call}
use Rattle.dsd_station.specs.Logged.{Log}
use Rattle.cable_world.specs.Cables.{AreStepsIn, cable_of, noted_in, part_in, scene_of, seat as seat_at, waiting_as}
use Rattle.cable_world.specs.CableSteps.{Goes, IsEndOf, IsOpen}
use Rattle.cable_world.specs.Progressing.{ComesOn, OneEnd, OneList}
use Rattle.cable_world.specs.Living.{AreCallsOf}
use Rattle.cable_world.specs.Noted.{Noted, runs_by, step_of}
use Rattle.cable_world.specs.Noting.{NotesReceiver}
use Rattle.cable_world.specs.Scenes.{Side, all_played, sent_to, stepped, with_log}
use Rattle.cable_world.specs.SeatSteps.{IsReady}
use Rattle.cable_world.specs.Seats.{SeatView, side_of}
use Rattle.cable_world.specs.Steps.{StepKind, frames_in}
use Rattle.cable_world.specs.declared.answer.Answer.{Answer}
use Rattle.cable_world.specs.declared.cable.Cable.{Cable}
use Rattle.cable_world.specs.StepsKept.{StepView}
use Rattle.cable_world.proofs.ComesAlong.{on_noted}
use Rattle.cable_world.proofs.Places.{receiver_grows, in_grown_receiver, last_part, steps_in_more}
use Rattle.cable_world.proofs.SeatStep.{IsSeatStep, StepFrom, ready_with}
use Rattle.cable_world.proofs.Taking.{all_played_calls}

module _ (kind : StepKind) (answer : Answer) (mid : Log) (extra part : List Call) (old new : Cable) (seat : SeatView) (from_mid : mid.calls ≡ old.receiver.log.calls ++ extra)
    (s : IsSeatStep kind answer mid part old.receiver seat) (n : NotesReceiver (length mid.calls) answer (record old { receiver = seat }) new) (open_now : IsOpen old)
    (comes_seat : OneList → (its : OneEnd) → IsEndOf old its → its.role ≡ Receiver → ComesOn its old.receiver (record { role = its.role; answer = answer; part = part } ∷ []) seat) where
  grown : seat.log.calls ≡ mid.calls ++ part
  grown = ap (λ (l : Log). l.calls) s.log ∙ all_played_calls mid part

  made_part : drop (length mid.calls) seat.log.calls ≡ part
  made_part = ap (λ (l : List Call). drop (length mid.calls) l) grown ∙ drop_at mid.calls part (length mid.calls) refl

  log_is : new.receiver.log ≡ seat.log
  log_is = ap (λ (v : SeatView). v.log) n.notes.seat

  behind : new.receiver.log.calls ≡ old.receiver.log.calls ++ (extra ++ part)
  behind = ap (λ (l : Log). l.calls) log_is ∙ grown ∙ ap (λ (l : List Call). l ++ part) from_mid ∙ append_assoc old.receiver.log.calls extra part

  one : Noted
  one = record { role = Receiver; answer = answer; part = part }

  place : StepView
  place = record { role = Receiver; answer = answer; from = length mid.calls; until = length seat.log.calls }

  noted_at : map (noted_in old.handheld.log.calls old.receiver.log.calls) old.steps.items ++ noted_in old.handheld.log.calls new.receiver.log.calls place ∷ [] ≡ map (noted_in old.handheld.log.calls old.receiver.log.calls) old.steps.items ++ one ∷ []
  unfolding one place
  noted_at =
      ap (λ (p : List Call). map (noted_in old.handheld.log.calls old.receiver.log.calls) old.steps.items ++ record { role = Receiver; answer = answer; part = p } ∷ [])
      (ap (λ (l : List Call). part_in l place) (ap (λ (l : Log). l.calls) log_is ∙ grown) ∙ last_part mid.calls part place refl (ap (λ (l : List Call). length l) grown))

  noted_is : (cable_of new).noted ≡ (cable_of old).noted ++ one ∷ []
  unfolding one place
  noted_is =
      ap (λ (l : List StepView). map (noted_in new.handheld.log.calls new.receiver.log.calls) l) n.notes.step
      ∙ ap (λ (v : SeatView). map (noted_in v.log.calls new.receiver.log.calls) (old.steps.items ++ place ∷ [])) n.handheld
      ∙ map-append (noted_in old.handheld.log.calls new.receiver.log.calls) old.steps.items (place ∷ [])
      ∙ ap (λ (l : List Noted). l ++ noted_in old.handheld.log.calls new.receiver.log.calls place ∷ [])
      (ap (λ (l : List Call). map (noted_in old.handheld.log.calls l) old.steps.items) behind ∙ receiver_grows old.handheld.log.calls old.receiver.log.calls (extra ++ part) old.steps.items open_now.steps)
      ∙ noted_at

  side_is : side_of new.receiver ≡ record { log = all_played mid part; runs = runs_by answer; spoken = old.receiver.spoken ++ frames_in part }
  side_is =
      ap (λ (l : Log). record { log = l; runs = is_some new.receiver.player; spoken = new.receiver.spoken }) (log_is ∙ s.log)
      ∙ ap (λ (b : Bool). record { log = all_played mid part; runs = b; spoken = new.receiver.spoken }) (ap (λ (v : SeatView). is_some v.player) n.notes.seat ∙ s.runs)
      ∙ ap (λ (l : List (List ℕ)). record { log = all_played mid part; runs = runs_by answer; spoken = l })
      (ap (λ (v : SeatView). v.spoken) n.notes.seat ∙ ap (λ (l : List Call). seat.spoken ++ frames_in l) made_part ∙ ap (λ (l : List (List ℕ)). l ++ frames_in part) s.spoken)

  waits_is : map waiting_as new.waiting.items ≡ map waiting_as old.waiting.items ++ sent_to Supplier (frames_in part)
  waits_is = n.notes.waits ∙ ap (λ (l : List Call). map waiting_as old.waiting.items ++ sent_to Supplier (frames_in l)) made_part

  scene_is : scene_of (cable_of new) ≡ stepped (with_log (scene_of (cable_of old)) Receiver mid) (step_of one)
  unfolding one
  scene_is =
      ap (λ (x : Side). record { supplier = side_of new.handheld; receiver = x; waiting = map waiting_as new.waiting.items }) side_is
      ∙ ap (λ (x : SeatView). record { supplier = side_of x; receiver = record { log = all_played mid part; runs = runs_by answer; spoken = old.receiver.spoken ++ frames_in part }; waiting = map waiting_as new.waiting.items }) n.handheld
      ∙ ap (λ (l : List (Role × List ℕ)). record { supplier = side_of old.handheld; receiver = record { log = all_played mid part; runs = runs_by answer; spoken = old.receiver.spoken ++ frames_in part }; waiting = l }) waits_is

  pub receiver_stepped : Goes (StepFrom Receiver kind mid) old new
  unfolding one place
  receiver_stepped = record {
    made = one ∷ [];
    noted = noted_is;
    goes = (step_of one, refl, record { role = refl; kind = s.kind; answers = s.answers }, scene_is);
    calls = (subst (λ (k : StepKind). AreCallsOf k part) (sym s.kind) s.calls, tt);
    setting = n.setting;
    ready = record {
      steps = subst (λ (l : List StepView). AreStepsIn new.handheld.log.calls new.receiver.log.calls l) (sym n.notes.step)
          (subst (λ (v : SeatView). AreStepsIn v.log.calls new.receiver.log.calls (old.steps.items ++ place ∷ [])) (sym n.handheld)
          (steps_in_more old.handheld.log.calls new.receiver.log.calls old.steps.items place
          (subst (λ (l : List Call). AreStepsIn old.handheld.log.calls l old.steps.items) (sym behind) (in_grown_receiver old.handheld.log.calls old.receiver.log.calls (extra ++ part) old.steps.items open_now.steps))
          (omega (arith, ap (λ (l : List Call). length l) grown, length-append mid.calls part), omega (arith, ap (λ (l : Log). length l.calls) log_is))));
      receiver = ready_with seat new.receiver (frames_in (drop (length mid.calls) seat.log.calls)) n.notes.seat s.ready;
      handheld = subst IsReady (sym n.handheld) open_now.handheld;
    };
    comes = λ one_list its is. go one_list its is its.role refl;
  }
    where
      go : OneList → (its : OneEnd) → IsEndOf old its → (role : Role) → its.role ≡ role → ComesOn its (seat_at (cable_of old) role) (record { role = Receiver; answer = answer; part = part } ∷ []) (seat_at (cable_of new) role)
      go one_list its is role r = by role r
        where
          both : (its.role ≡ Receiver → ComesOn its old.receiver (record { role = Receiver; answer = answer; part = part } ∷ []) new.receiver) × (its.role ≡ Supplier → ComesOn its old.handheld (record { role = Receiver; answer = answer; part = part } ∷ []) new.handheld)
          both = on_noted its Receiver Supplier answer part old.receiver seat new.receiver old.handheld new.handheld (frames_in (drop (length mid.calls) seat.log.calls)) refl n.notes.seat n.handheld (comes_seat one_list its is)

          by : (role : Role) → its.role ≡ role → ComesOn its (seat_at (cable_of old) role) (record { role = Receiver; answer = answer; part = part } ∷ []) (seat_at (cable_of new) role)
          by Receiver r = both.0 r
          by Supplier r = both.1 r
