-- The lists that both images hold behind any events back each other.
use Rattle.std.proofs.Common.{◌≡◌, List, [], ◌++◌, sym, ◌∙◌, ap, subst}
use Rattle.std.proofs.lemmas.List.{map-append}
use Rattle.dsd_values.specs.declared.role.Role.{Role}
use Rattle.dsd_values.specs.declared.role.Role.TheVariants.{Receiver, Supplier}
use Rattle.dsd_station.specs.Logged.{Log}
use Rattle.dsd_station.specs.Planned.{Plan}
use Rattle.dsd_station.specs.Replayed.{state_of}
use Rattle.dsd_journal.specs.declared.entry.Entry.{Entry}
use Rattle.dsd_journal.specs.declared.header.Header.{Header}
use Rattle.dsd_end.specs.Cabling.{AreToldApart, IsHonestCable}
use Rattle.dsd_end.specs.Lives.{IsLife, last_list}
use Rattle.dsd_end.specs.Runs.{Run}
use Rattle.dsd_end.proofs.Agreeing.{backed}
use Rattle.dsd_end.proofs.Growing.{last_legal}
use Rattle.clean_sessions.specs.DeliveryStands.{AreBacked}
use Rattle.cable_world.specs.Leaving.{IsBegun, IsLifeOf, image_left, state_after}
use Rattle.cable_world.specs.Living.{CallSo, HasNoHear}
use Rattle.cable_world.specs.Noted.{Noted, step_of, steps_of}
use Rattle.cable_world.specs.Obeying.{Obeys, first_scene}
use Rattle.cable_world.specs.Progressing.{OneList}
use Rattle.cable_world.specs.Scenes.{Scene}
use Rattle.cable_world.specs.Steps.{WorldStep}
use Rattle.cable_world.specs.Worlds.{HasPlayed, WorldView, header_of}
use Rattle.cable_world.specs.declared.event.Event.{Event}
use Rattle.cable_world.proofs.CutScripts.{obeys_parts}
use Rattle.cable_world.proofs.JoinedRuns.{lived}
use Rattle.cable_world.proofs.WorldCable.{world_cable}
use Rattle.clean_worlds.specs.CleanPlays.{headers}
use Rattle.clean_worlds.specs.CleanWorlds.{IdsMatch, log_for}
use Rattle.clean_worlds.specs.Histories.{IsLeftWith, LeavesBacked, NoSetsClash}
use Rattle.clean_worlds.proofs.FrontsBegin.{begun_front}
use Rattle.clean_worlds.proofs.NotedParts.{split_calls, split_steps}
use Rattle.clean_worlds.proofs.WorldsClean.{receiver_titled}

lives_backed : (runs others : List Run) (s r : List Entry) → last_list runs ≡ s → last_list others ≡ r → IsLife Supplier runs → IsLife Receiver others → IsHonestCable runs others → NoSetsClash s r → AreBacked Supplier s r
lives_backed runs others s r own its life also cable apart =
    let there : AreToldApart (last_list runs) (last_list others) = subst (λ (l : List Entry). AreToldApart (last_list runs) l) (sym its) (subst (λ (l : List Entry). AreToldApart l r) (sym own) apart.there) in
    let back : AreToldApart (last_list others) (last_list runs) = subst (λ (l : List Entry). AreToldApart (last_list others) l) (sym own) (subst (λ (l : List Entry). AreToldApart l s) (sym its) apart.back) in
    let both : AreBacked Supplier (last_list runs) (last_list others) = record {
      legal = last_legal Supplier [] runs tt life;
      others = last_legal Receiver [] others tt also;
      backed = backed Supplier Receiver runs others life also cable.there there;
      backing = backed Receiver Supplier others runs also life cable.back back;
    } in
    subst (λ (l : List Entry). AreBacked Supplier l r) own (subst (λ (l : List Entry). AreBacked Supplier (last_list runs) l) its both)

module _ (one_list : OneList) where
  -- ---- behind the steps of any events

  module _ (events : List Event) (supplier receiver : Log) (steps : List WorldStep) (last : Scene) (one other : Header) (obeys : Obeys events (first_scene supplier receiver) steps last) (free : HasNoHear events)
      (none : supplier.plan.fed ≡ []) (nothing : receiver.plan.fed ≡ []) (calls : CallSo steps) (its : IsBegun Supplier one supplier steps) (those : IsBegun Receiver other receiver steps) where
    pub supplier_life : (runs : List Run) × IsLifeOf Supplier one (state_of supplier.calls) steps runs
    supplier_life = lived one_list Supplier one steps (state_of supplier.calls) its.fine its.nothing its.tells

    pub receiver_life : (runs : List Run) × IsLifeOf Receiver other (state_of receiver.calls) steps runs
    receiver_life = lived one_list Receiver other steps (state_of receiver.calls) those.fine those.nothing those.tells

    pub backed_behind : (s r : List Entry) → IsLeftWith Supplier one supplier steps s → IsLeftWith Receiver other receiver steps r → NoSetsClash s r → AreBacked Supplier s r
    backed_behind s r holds also apart =
        let (runs, life) = supplier_life in
        let (others, their_life) = receiver_life in
        let cable = world_cable events supplier receiver steps last runs others obeys free none nothing calls life.are their_life.are in
        let own = (one_list (image_left (state_after Supplier (state_of supplier.calls) steps)) one one (last_list runs) s life.holds holds).1 in
        let theirs = (one_list (image_left (state_after Receiver (state_of receiver.calls) steps)) other other (last_list others) r their_life.holds also).1 in
        lives_backed runs others s r own theirs life.life their_life.life cable apart

  -- ---- behind the first events of a script

  pub leaves_backed : (world : WorldView) (events more : List Event) → HasPlayed world → HasNoHear events → world.script.events ≡ events ++ more → LeavesBacked events world
  leaves_backed world events more played free script =
      let both = obeys_parts events more (first_scene played.handheld played.receiver) (steps_of world.noted) played.last
      (subst (λ (l : List Event). Obeys l (first_scene played.handheld played.receiver) (steps_of world.noted) played.last) script played.obeys) in
      let (front, back, parts, is, then_is) = split_steps both.first both.rest world.noted both.joined in
      let whole : steps_of world.noted ≡ steps_of front ++ steps_of back = ap steps_of parts ∙ map-append step_of front back in
      let obeys : Obeys events (first_scene played.handheld played.receiver) (steps_of front) both.between = subst (λ (l : List WorldStep). Obeys events (first_scene played.handheld played.receiver) l both.between) (sym is) both.before in
      let calls : CallSo (steps_of front) = (split_calls front back (subst (λ (l : List Noted). CallSo (steps_of l)) parts played.calls)).0 in
      let its : IsBegun Supplier (header_of world.script Supplier) played.handheld (steps_of front) =
      begun_front Supplier (header_of world.script Supplier) played.handheld (steps_of front) (steps_of back) (subst (IsBegun Supplier (header_of world.script Supplier) played.handheld) whole played.handheld_told.begun) in
      let those : IsBegun Receiver (header_of world.script Receiver) played.receiver (steps_of front) =
      begun_front Receiver (header_of world.script Receiver) played.receiver (steps_of front) (steps_of back) (subst (IsBegun Receiver (header_of world.script Receiver) played.receiver) whole played.receiver_told.begun) in
      let (runs, life) = lived one_list Supplier (header_of world.script Supplier) (steps_of front) (state_of played.handheld.calls) its.fine its.nothing its.tells in
      let (others, their_life) = lived one_list Receiver (header_of world.script Receiver) (steps_of front) (state_of played.receiver.calls) those.fine those.nothing those.tells in
      record {
        handheld = played.handheld;
        receiver = played.receiver;
        before = front;
        behind = back;
        joined = parts;
        between = both.between;
        obeys = obeys;
        supplier_entries = last_list runs;
        receiver_entries = last_list others;
        supplier_left = life.holds;
        receiver_left = their_life.holds;
        backed = λ apart. backed_behind events played.handheld played.receiver (steps_of front) both.between (header_of world.script Supplier) (header_of world.script Receiver) obeys free
            (ap (λ (p : Plan). p.fed) played.handheld_is.plan) (ap (λ (p : Plan). p.fed) played.receiver_is.plan) calls its those (last_list runs) (last_list others) life.holds their_life.holds apart;
      }

-- ---- both ends of a world whose ids match

pub begun_at : (world : WorldView) (played : HasPlayed world) → IdsMatch world.script → (role : Role)
    → IsBegun role (headers world.script.ends.handheld.own world.script.ends.handheld.peer role) (log_for played.handheld played.receiver role) (steps_of world.noted)
begun_at world played match Supplier = played.handheld_told.begun
begun_at world played match Receiver = subst (λ (h : Header). IsBegun Receiver h played.receiver (steps_of world.noted)) (receiver_titled world played match) played.receiver_told.begun
