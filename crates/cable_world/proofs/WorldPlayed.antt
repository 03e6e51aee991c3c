-- A world that has played its events.
use Rattle.std.proofs.Common.{◌≡◌, true, false, List, ◌++◌, refl, sym, ◌∙◌, ap, subst, is_some, Option, None}
use Rattle.std.specs.List.{All}
use Rattle.dsd_values.specs.declared.role.Role.{Role}
use Rattle.base_record_894.specs.RecordText.{IsBase}
use Rattle.handheld_core.specs.Choosing.{supplier}
use Rattle.dsd_values.specs.declared.role.Role.TheVariants.{Receiver, Supplier}
use Rattle.dsd_record.specs.Choices.{Chooser}
use Rattle.dsd_station.specs.Logged.{Log, image_by}
use Rattle.dsd_station.specs.Planned.{Plan, no_plan}
use Rattle.dsd_station.specs.Replayed.{IsFine, State, state_of}
use Rattle.dsd_journal.specs.JournalImage.{Holds}
use Rattle.dsd_journal.specs.declared.header.Header.{Header}
use Rattle.dsd_end.specs.Lives.{last_list}
use Rattle.dsd_end.specs.Runs.{Run}
use Rattle.dsd_end.proofs.Agreeing.{agree}
use Rattle.cable_world.specs.Cables.{cable_of, scene_of, seat}
use Rattle.cable_world.specs.CableSteps.{Goes, IsEndOf, IsOpen}
use Rattle.cable_world.specs.Diligence.{ComesBy}
use Rattle.cable_world.specs.Holding.{HoldsLast}
use Rattle.cable_world.specs.Leaving.{Begins, IsBegun, IsLifeOf, LeavesNothing, image_left, state_after}
use Rattle.cable_world.specs.Living.{CallSo}
use Rattle.cable_world.specs.Noted.{Noted, steps_of}
use Rattle.cable_world.specs.Obeying.{Obeys, first_scene}
use Rattle.cable_world.specs.Players.{PlayerView}
use Rattle.cable_world.specs.Progressing.{ComesOn, OneEnd, OneList, StandsSo, progress_at}
use Rattle.cable_world.specs.Scenes.{Scene, side}
use Rattle.cable_world.specs.Seats.{SeatView}
use Rattle.cable_world.specs.Settings.{chooser_at}
use Rattle.cable_world.specs.Steps.{WorldStep}
use Rattle.cable_world.specs.WorldInside.{IsOpenAt, IsWorld, world_of}
use Rattle.cable_world.specs.Worlds.{HasPlayed, IsFormatted, IsLifeIn, IsNew, IsTold, IsTwoLives, StandsAt, WorldView, chooser_of, header_of, refused_by}
use Rattle.cable_world.specs.declared.cable.Cable.{Cable}
use Rattle.cable_world.specs.declared.event.Event.{Event}
use Rattle.cable_world.specs.declared.script.Script.{Script}
use Rattle.cable_world.specs.declared.setting.Setting.{Setting}
use Rattle.cable_world.specs.declared.stage.Stage.{Stage}
use Rattle.cable_world.specs.declared.stage.Stage.TheVariants as stages
use Rattle.cable_world.specs.declared.world.World.TheInside.{Inside}
use Rattle.cable_world.proofs.ComesAlong.{begins_by, diligent_by}
use Rattle.cable_world.proofs.JoinedRuns.{lived}
use Rattle.cable_world.proofs.Recorded.{state_at_end}
use Rattle.cable_world.proofs.WorldCable.{world_cable}

abbrev pub script_with : Setting → List Event → Script
script_with setting events = record { ends = setting.ends; drafts = setting.drafts; counts = setting.counts; events = events }

pub is_new : (world : Inside) → IsWorld world → world.stage ≡ stages.New → IsNew (world_of world)
is_new world is stage = subst (λ (s : Stage). StandsAt s (world_of world)) stage is.stands

pub is_open : (world : Inside) → IsWorld world → world.stage ≡ stages.New → IsOpen world.cable
is_open world is stage = subst (λ (s : Stage). IsOpenAt s world.cable) stage is.open_at

-- ---- what the steps tell of an end

-- before its first opening
stands_first : (its : OneEnd) (seat : SeatView) (log : Log) → seat.log ≡ log → is_some seat.player ≡ false → seat.refused ≡ 0 → IsFormatted its.header log → StandsSo its None None seat
stands_first its seat log is off zero formatted = record {
  fine = subst (λ (l : Log). IsFine (state_of l.calls)) (sym is) formatted.fine;
  refused = sym zero;
  leaves = subst (λ (l : Log). LeavesNothing its.header (state_of l.calls)) (sym is) formatted.nothing;
  holds = tt;
  plays = λ player runs. absurd (differ (sym off ∙ ap (λ (p : Option PlayerView). is_some p) runs));
}
  where
    differ : false ≡ true → ⊥
    differ e = cc

told_so : (its : OneEnd) (world : WorldView) (seat now : SeatView) (log : Log) → its.header ≡ header_of world.script its.role → its.chooser ≡ chooser_of world.script its.role → seat.log ≡ log → is_some seat.player ≡ false
    → seat.refused ≡ 0 → IsFormatted its.header log → ComesOn its seat world.noted now → now.refused ≡ refused_by world its.role → now.log ≡ (side world.scene its.role).log → IsTold world its.role log
told_so its world seat now log header chooser is off zero formatted on refused at =
    let (last, later, comes, there) = on None None (stands_first its seat log is off zero formatted) in
    let begins : Begins its.role its.header (state_of log.calls) (steps_of world.noted) = subst (λ (l : Log). Begins its.role its.header (state_of l.calls) (steps_of world.noted)) is (begins_by its world.noted (progress_at seat None None) (progress_at now last later) refl comes) in
    record {
      begun = subst (λ (h : Header). IsBegun its.role h log (steps_of world.noted)) header (record { fine = formatted.fine; nothing = formatted.nothing; tells = begins });
      last = last;
      diligent = subst (λ (c : Chooser). ComesBy its.role c (header_of world.script its.role) (state_of log.calls) None world.noted last) chooser
          (subst (λ (h : Header). ComesBy its.role its.chooser h (state_of log.calls) None world.noted last) header
          (subst (λ (l : Log). ComesBy its.role its.chooser its.header (state_of l.calls) None world.noted last) is (diligent_by its world.noted (progress_at seat None None) (progress_at now last later) comes)));
      refused = there.refused ∙ refused;
      holds = subst (λ (h : Header). HoldsLast h last (image_by (side world.scene its.role).log)) header (subst (λ (l : Log). HoldsLast its.header last (image_by l)) at there.holds);
    }

-- ---- two lives

-- each life ends with the list that the image left holds
life_in : (world : WorldView) (role : Role) (log : Log) (runs : List Run) → IsLifeOf role (header_of world.script role) (state_of log.calls) (steps_of world.noted) runs
    → state_of (side world.scene role).log.calls ≡ state_after role (state_of log.calls) (steps_of world.noted) → IsLifeIn world role runs
life_in world role log runs of is =
    record { are = of.are; life = of.life; holds = subst (λ (s : State). Holds (header_of world.script role) (last_list runs) (image_left s)) (sym is) of.holds }

two_lives : OneList → (world : WorldView) (handheld receiver : Log) → Obeys world.script.events (first_scene handheld receiver) (steps_of world.noted) world.scene → CallSo (steps_of world.noted) → handheld.plan ≡ no_plan → receiver.plan ≡ no_plan
    → IsTold world Supplier handheld → IsTold world Receiver receiver → IsTwoLives world
two_lives one_list world handheld receiver obeys calls none nothing its those =
    let steps : List WorldStep = steps_of world.noted in
    let scene : Scene = first_scene handheld receiver in
    let (s, life) = lived one_list Supplier (header_of world.script Supplier) steps (state_of handheld.calls) its.begun.fine its.begun.nothing its.begun.tells in
    let (r, other_life) = lived one_list Receiver (header_of world.script Receiver) steps (state_of receiver.calls) those.begun.fine those.begun.nothing those.begun.tells in
    record {
      handheld = s;
      receiver = r;
      handheld_is = life_in world Supplier handheld s life (state_at_end Supplier world.script.events scene steps world.scene obeys);
      receiver_is = life_in world Receiver receiver r other_life (state_at_end Receiver world.script.events scene steps world.scene obeys);
      honest = λ free. world_cable world.script.events handheld receiver steps world.scene s r obeys free (ap (λ (p : Plan). p.fed) none) (ap (λ (p : Plan). p.fed) nothing) calls life.are other_life.are;
      agree = λ cable clash. agree s r life.life other_life.life cable clash;
    }

-- ---- all events were played

pub has_played : OneList → (world : Inside) (new : Cable) → All IsBase (supplier world.cable.setting.drafts).drafts → IsWorld world → world.stage ≡ stages.New → Goes (Obeys world.events) world.cable new → HasPlayed (world_of (record { cable = new; events = world.events; stage = stages.Played }))
has_played one_list world new bases is stage g =
    let start : IsNew (world_of world) = is_new world is stage in
    let old : Cable = world.cable in
    let played : WorldView = world_of (record { cable = new; events = world.events; stage = stages.Played }) in
    let noted : (cable_of new).noted ≡ g.made = g.noted ∙ ap (λ (l : List Noted). l ++ g.made) start.none in
    let handheld_is : IsFormatted (header_of played.script Supplier) start.handheld = subst (λ (s : Setting). IsFormatted (header_of (script_with s world.events) Supplier) start.handheld) (sym g.setting) start.handheld_is in
    let receiver_is : IsFormatted (header_of played.script Receiver) start.receiver = subst (λ (s : Setting). IsFormatted (header_of (script_with s world.events) Receiver) start.receiver) (sym g.setting) start.receiver_is in
    let obeys : Obeys world.events (first_scene start.handheld start.receiver) (steps_of (cable_of new).noted) (scene_of (cable_of new)) = subst (λ (l : List Noted). Obeys world.events (first_scene start.handheld start.receiver) (steps_of l) (scene_of (cable_of new))) (sym noted)
    (subst (λ (s : Scene). Obeys world.events s (steps_of g.made) (scene_of (cable_of new))) start.scene g.goes) in
    let calls : CallSo (steps_of (cable_of new).noted) = subst (λ (l : List Noted). CallSo (steps_of l)) (sym noted) g.calls in
    let on : (its : OneEnd) → IsEndOf old its → ComesOn its (seat (cable_of old) its.role) (cable_of new).noted (seat (cable_of new) its.role) = λ its ends. subst (λ (l : List Noted). ComesOn its (seat (cable_of old) its.role) l (seat (cable_of new) its.role)) (sym noted) (g.comes one_list its ends) in
    let handheld_told : IsTold played Supplier start.handheld = told_so (record { role = Supplier; header = header_of played.script Supplier; chooser = chooser_at new.setting Supplier }) played old.handheld new.handheld start.handheld refl refl
    (ap (λ (s : Scene). s.supplier.log) start.scene) (ap (λ (s : Scene). s.supplier.runs) start.scene) start.handheld_refused handheld_is
    (on (record { role = Supplier; header = header_of played.script Supplier; chooser = chooser_at new.setting Supplier }) (record { role = refl; chooser = ap (λ (s : Setting). chooser_at s Supplier) g.setting })) refl refl in
    let receiver_told : IsTold played Receiver start.receiver = told_so (record { role = Receiver; header = header_of played.script Receiver; chooser = chooser_at new.setting Receiver }) played old.receiver new.receiver start.receiver refl refl
    (ap (λ (s : Scene). s.receiver.log) start.scene) (ap (λ (s : Scene). s.receiver.runs) start.scene) start.receiver_refused receiver_is
    (on (record { role = Receiver; header = header_of played.script Receiver; chooser = chooser_at new.setting Receiver }) (record { role = refl; chooser = ap (λ (s : Setting). chooser_at s Receiver) g.setting })) refl refl in
    record {
      handheld = start.handheld;
      receiver = start.receiver;
      handheld_is = handheld_is;
      receiver_is = receiver_is;
      last = scene_of (cable_of new);
      obeys = obeys;
      calls = calls;
      handheld_told = handheld_told;
      receiver_told = receiver_told;
      lives = two_lives one_list played start.handheld start.receiver obeys calls handheld_is.plan receiver_is.plan handheld_told receiver_told;
      bases = subst (λ (s : Setting). All IsBase (supplier s.drafts).drafts) (sym g.setting) bases;
      handheld_image = refl;
      receiver_image = refl;
    }
