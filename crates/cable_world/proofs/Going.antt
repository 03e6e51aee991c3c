-- Courses of a cable one behind the other.
use Rattle.std.proofs.Common.{◌≡◌, List, [], ◌∷◌, ◌++◌, Result, Ok, Err, OnOk, map, refl, sym, ◌∙◌, ap, subst, append-nil, append_assoc}
use Rattle.std.proofs.lemmas.List.{map-append}
use Rattle.dsd_values.specs.declared.role.Role.{Role}
use Rattle.dsd_values.specs.declared.role.Role.TheVariants.{Receiver, Supplier}
use Rattle.dsd_station.specs.declared.call.Call.{Call}
use Rattle.cable_world.specs.CableSteps.{Goes, IsOpen}
use Rattle.cable_world.specs.Cables.{AreStepsIn, cable_of, noted_in, scene_of, seat}
use Rattle.cable_world.specs.Changing.{Changes, KeepsEnd, KeepsEnds}
use Rattle.cable_world.specs.Living.{CallSo}
use Rattle.cable_world.specs.Noted.{Noted, step_of, steps_of}
use Rattle.cable_world.specs.Obeying.{Course, Nothing, Then}
use Rattle.cable_world.specs.Scenes.{Scene}
use Rattle.cable_world.specs.SeatSteps.{IsReady, IsPollable}
use Rattle.cable_world.specs.Seats.{SeatView}
use Rattle.cable_world.specs.Settings.{chooser_at}
use Rattle.cable_world.specs.Steps.{WorldStep}
use Rattle.cable_world.specs.declared.cable.Cable.{Cable}
use Rattle.cable_world.specs.StepsKept.{StepView}
use Rattle.cable_world.specs.declared.setting.Setting.{Setting}
use Rattle.cable_world.proofs.ComesAlong.{on_kept, on_then}

pub on_ok_so : {T E P Q : Type 0} (r : Result T E) → OnOk r P → (P → Q) → OnOk r Q
on_ok_so (Ok x) p f = f p
on_ok_so (Err e) p f = tt

calls_both : (a b : List Noted) → CallSo (steps_of a) → CallSo (steps_of b) → CallSo (steps_of (a ++ b))
calls_both [] b none those = those
calls_both (one ∷ a) b these those = (these.0, calls_both a b these.1 those)

pub same_end : (seat : SeatView) → KeepsEnd seat seat
same_end seat = record { calls = refl; starved = refl; player = refl; spoken = refl; refused = refl }

pub goes_nothing : (cable : Cable) → IsOpen cable → Goes Nothing cable cable
goes_nothing cable ready = record { made = []; noted = sym (append-nil (cable_of cable).noted); goes = (refl, refl); calls = tt; setting = refl; ready = ready; comes = λ one_list its is. on_kept its (seat (cable_of cable) its.role) (seat (cable_of cable) its.role) (same_end (seat (cable_of cable) its.role)) }

pub goes_then : (one two : Course) (old mid new : Cable) → Goes one old mid → Goes two mid new → Goes (Then one two) old new
goes_then one two old mid new a b = record {
  made = a.made ++ b.made;
  noted = b.noted ∙ ap (λ (l : List Noted). l ++ b.made) a.noted ∙ append_assoc (cable_of old).noted a.made b.made;
  goes = record { between = scene_of (cable_of mid); first = steps_of a.made; rest = steps_of b.made; joined = map-append step_of a.made b.made; before = a.goes; behind = b.goes };
  calls = calls_both a.made b.made a.calls b.calls;
  setting = b.setting ∙ a.setting;
  ready = b.ready;
  comes = λ one_list its is. on_then its a.made b.made (seat (cable_of old) its.role) (seat (cable_of mid) its.role) (seat (cable_of new) its.role) (a.comes one_list its is)
      (b.comes one_list its (record { role = is.role; chooser = is.chooser ∙ ap (λ (s : Setting). chooser_at s its.role) (sym a.setting) }));
}

-- a course that is so from where the cable stands
pub goes_as : (one two : Course) (old new : Cable)
    → ((made : List WorldStep) (next : Scene) → one (scene_of (cable_of old)) made next → two (scene_of (cable_of old)) made next) → Goes one old new → Goes two old new
goes_as one two old new so a =
    record { made = a.made; noted = a.noted; goes = so (steps_of a.made) (scene_of (cable_of new)) a.goes; calls = a.calls; setting = a.setting; ready = a.ready; comes = a.comes }

-- ---- a change that no end makes

-- what comes behind a change begins where it leads
pub after_change : (after : Scene → Scene) (two : Course) (scene : Scene) (made : List WorldStep) (next : Scene) → Then (Changes after) two scene made next → two (after scene) made next
after_change after two scene made next then =
    let (none, same) = then.before in
    subst (λ (l : List WorldStep). two (after scene) l next) (sym (then.joined ∙ ap (λ (l : List WorldStep). l ++ then.rest) none)) (subst (λ (s : Scene). two s then.rest next) same then.behind)

ready_still : (old new : SeatView) → KeepsEnd old new → IsReady old → IsReady new
ready_still old new keeps ready = record {
  unstarved = keeps.starved ∙ ready.unstarved;
  pollable = λ player is. subst (λ (c : List Call). IsPollable player c) (sym keeps.calls) (ready.pollable player (sym keeps.player ∙ is));
}

pub open_still : (old new : Cable) → KeepsEnds old new → IsOpen old → IsOpen new
open_still old new keeps ready = record {
  steps = subst (λ (s : List StepView). AreStepsIn new.handheld.log.calls new.receiver.log.calls s) (sym keeps.steps)
      (subst (λ (c : List Call). AreStepsIn c new.receiver.log.calls old.steps.items) (sym keeps.handheld.calls) (subst (λ (c : List Call). AreStepsIn old.handheld.log.calls c old.steps.items) (sym keeps.receiver.calls) ready.steps));
  handheld = ready_still old.handheld new.handheld keeps.handheld ready.handheld;
  receiver = ready_still old.receiver new.receiver keeps.receiver ready.receiver;
}

noted_still : (old new : Cable) → KeepsEnds old new → (cable_of new).noted ≡ (cable_of old).noted
noted_still old new keeps =
    ap (λ (c : List Call). map (noted_in c new.receiver.log.calls) new.steps.items) keeps.handheld.calls
    ∙ ap (λ (c : List Call). map (noted_in old.handheld.log.calls c) new.steps.items) keeps.receiver.calls
    ∙ ap (λ (s : List StepView). map (noted_in old.handheld.log.calls old.receiver.log.calls) s) keeps.steps

pub goes_becomes : (old new : Cable) (after : Scene → Scene) → IsOpen old → KeepsEnds old new → scene_of (cable_of new) ≡ after (scene_of (cable_of old)) → Goes (Changes after) old new
goes_becomes old new after ready keeps is =
    record {
      made = [];
      noted = noted_still old new keeps ∙ sym (append-nil (cable_of old).noted);
      goes = (refl, is);
      calls = tt;
      setting = keeps.setting;
      ready = open_still old new keeps ready;
      comes = λ one_list its ends. on_kept its (seat (cable_of old) its.role) (seat (cable_of new) its.role) (kept its.role);
    }
  where
    kept : (role : Role) → KeepsEnd (seat (cable_of old) role) (seat (cable_of new) role)
    kept Supplier = keeps.handheld
    kept Receiver = keeps.receiver
