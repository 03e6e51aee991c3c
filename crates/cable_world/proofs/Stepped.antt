-- A poll and an opening of an end on a cable.
use Rattle.std.proofs.Common.{◌≡◌, ◌<◌, ◌≤◌, ℕ, ◌+◌, Bool, true, false, if◌then◌else◌, Option, Some, None, ap, arith, List, [], ◌∷◌, ◌++◌, length, refl, sym, ◌∙◌, subst, append-nil, length-append, Result, Ok, Err}
use Rattle.std.specs.Prelude.{OnOk}
use Rattle.dsd_values.specs.declared.role.Role.TheVariants.{Receiver, Supplier}
use Rattle.dsd_record.specs.Choices.{Chooser}
use Rattle.dsd_values.specs.declared.role.Role.{Role}
use Rattle.dsd_station.specs.declared.call.Call.{Call}
use Rattle.dsd_station.specs.declared.call.Call.TheVariants.{Restart}
use Rattle.dsd_station.specs.Logged.{Log}
use Rattle.dsd_station.specs.Plans.{after_restart}
use Rattle.cable_world.specs.CableSteps.{Goes, IsOpen, IsOpened, IsPolled}
use Rattle.cable_world.specs.CableLeft.{left_in}
use Rattle.cable_world.specs.Noted.{runs_by}
use Rattle.cable_world.specs.Players.{PlayerView}
use Rattle.cable_world.specs.Noting.{NotesHandheld, NotesReceiver}
use Rattle.cable_world.specs.SeatOpens.{SeatStarts}
use Rattle.cable_world.specs.SeatSteps.{IsReady, SeatPolls}
use Rattle.cable_world.specs.Seats.{SeatView}
use Rattle.cable_world.specs.Settings.{chooser_at}
use Rattle.cable_world.specs.Steps.{Opening, Poll}
use Rattle.cable_world.specs.declared.answer.Answer.{Answer}
use Rattle.cable_world.specs.declared.cable.Cable.{Cable}
use Rattle.cable_world.proofs.HandheldStepped.{handheld_stepped}
use Rattle.cable_world.proofs.ReceiverStepped.{receiver_stepped}
use Rattle.cable_world.proofs.Taking.{all_played_calls}
use Rattle.cable_world.proofs.Progressed.{on_opening, on_poll}
use Rattle.cable_world.proofs.SeatStep.{StepFrom, open_step, poll_step}

pub on_ok_so : {T E : Type 0} (r : Result T E) (P Q : Type 0) → OnOk r P → (P → Q) → OnOk r Q
on_ok_so {T} {E} (Ok value) P Q is f = f is
on_ok_so {T} {E} (Err fault) P Q is f = tt

pub poll_handheld : (old new : Cable) (seat : SeatView) (answer : Answer) (from : ℕ) → SeatPolls answer old.handheld seat → IsReady seat → from ≡ length old.handheld.log.calls
    → NotesHandheld from answer (record old { handheld = seat }) new → IsOpen old → Goes (IsPolled Supplier) old new
poll_handheld old new seat answer from polls ready is n open_now =
    let g : Goes (StepFrom Supplier Poll old.handheld.log) old new =
    handheld_stepped Poll answer old.handheld.log [] polls.polls.part old new seat (sym (append-nil old.handheld.log.calls)) (poll_step answer old.handheld seat polls ready)
    (subst (λ (k : ℕ). NotesHandheld k answer (record old { handheld = seat }) new) is n) open_now
    (λ one_list its ends r. on_poll its ends.role answer old.handheld seat polls) in
    record { made = g.made; noted = g.noted; goes = g.goes; calls = g.calls; setting = g.setting; ready = g.ready; comes = g.comes }

pub open_handheld : (old new : Cable) (seat : SeatView) (answer : Answer) (from : ℕ) → SeatStarts Supplier (chooser_at old.setting Supplier) answer old.handheld seat → IsReady seat → from ≡ length old.handheld.log.calls + 1
    → NotesHandheld from answer (record old { handheld = seat }) new → IsOpen old → Goes (IsOpened Supplier) old new
open_handheld old new seat answer from starts ready is n open_now =
    let mid : Log = after_restart old.handheld.log in
    let g : Goes (StepFrom Supplier Opening mid) old new =
    handheld_stepped Opening answer mid (Restart ∷ []) starts.opens.part old new seat refl (open_step Supplier (chooser_at old.setting Supplier) answer old.handheld seat starts ready)
    (subst (λ (k : ℕ). NotesHandheld k answer (record old { handheld = seat }) new) (is ∙ sym (length-append old.handheld.log.calls (Restart ∷ []))) n) open_now
    (λ one_list its ends r. on_opening one_list its Supplier (chooser_at old.setting Supplier) ends.role r (ends.chooser ∙ ap (chooser_at old.setting) r) answer old.handheld seat starts) in
    record { made = g.made; noted = g.noted; goes = g.goes; calls = g.calls; setting = g.setting; ready = g.ready; comes = g.comes }

pub poll_receiver : (old new : Cable) (seat : SeatView) (answer : Answer) (from : ℕ) → SeatPolls answer old.receiver seat → IsReady seat → from ≡ length old.receiver.log.calls
    → NotesReceiver from answer (record old { receiver = seat }) new → IsOpen old → Goes (IsPolled Receiver) old new
poll_receiver old new seat answer from polls ready is n open_now =
    let g : Goes (StepFrom Receiver Poll old.receiver.log) old new =
    receiver_stepped Poll answer old.receiver.log [] polls.polls.part old new seat (sym (append-nil old.receiver.log.calls)) (poll_step answer old.receiver seat polls ready)
    (subst (λ (k : ℕ). NotesReceiver k answer (record old { receiver = seat }) new) is n) open_now
    (λ one_list its ends r. on_poll its ends.role answer old.receiver seat polls) in
    record { made = g.made; noted = g.noted; goes = g.goes; calls = g.calls; setting = g.setting; ready = g.ready; comes = g.comes }

pub open_receiver : (old new : Cable) (seat : SeatView) (answer : Answer) (from : ℕ) → SeatStarts Receiver (chooser_at old.setting Receiver) answer old.receiver seat → IsReady seat → from ≡ length old.receiver.log.calls + 1
    → NotesReceiver from answer (record old { receiver = seat }) new → IsOpen old → Goes (IsOpened Receiver) old new
open_receiver old new seat answer from starts ready is n open_now =
    let mid : Log = after_restart old.receiver.log in
    let g : Goes (StepFrom Receiver Opening mid) old new =
    receiver_stepped Opening answer mid (Restart ∷ []) starts.opens.part old new seat refl (open_step Receiver (chooser_at old.setting Receiver) answer old.receiver seat starts ready)
    (subst (λ (k : ℕ). NotesReceiver k answer (record old { receiver = seat }) new) (is ∙ sym (length-append old.receiver.log.calls (Restart ∷ []))) n) open_now
    (λ one_list its ends r. on_opening one_list its Receiver (chooser_at old.setting Receiver) ends.role r (ends.chooser ∙ ap (chooser_at old.setting) r) answer old.receiver seat starts) in
    record { made = g.made; noted = g.noted; goes = g.goes; calls = g.calls; setting = g.setting; ready = g.ready; comes = g.comes }

pub started_longer : (role : Role) (chooser : Chooser) (answer : Answer) (old new : SeatView) (n : ℕ) → SeatStarts role chooser answer old new → n ≡ length old.log.calls + 1 → n ≤ length new.log.calls
started_longer role chooser answer old new n s is =
    let calls : new.log.calls ≡ (old.log.calls ++ Restart ∷ []) ++ s.opens.part = ap (λ (l : Log). l.calls) s.opens.log ∙ all_played_calls (after_restart old.log) s.opens.part in
    let long : length new.log.calls ≡ length (old.log.calls ++ Restart ∷ []) + length s.opens.part = ap (λ (l : List Call). length l) calls ∙ length-append (old.log.calls ++ Restart ∷ []) s.opens.part in
    omega (arith, long, length-append old.log.calls (Restart ∷ []), is)

pub less_left : (answer : Answer) (old new : SeatView) (player : Option PlayerView) → (p : SeatPolls answer old new) → player ≡ new.player → left_in player < left_in old.player
less_left answer old new player p is =
    subst (λ (x : Option PlayerView). left_in x < left_in old.player) (sym (is ∙ p.now)) (subst (λ (x : Option PlayerView). left_in (if runs_by answer then Some p.last else None) < left_in x) (sym p.was) (go (runs_by answer) refl))
  where
    go : (b : Bool) → runs_by answer ≡ b → left_in (if b then Some p.last else None) < left_in (Some p.player)
    go true is = let less = p.polls.patience is in omega (arith, less)
    go false is = omega arith
