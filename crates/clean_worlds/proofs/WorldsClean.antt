-- A world whose last event is a clean one.
use Rattle.std.proofs.Common.{◌≡◌, ℕ, List, [], ◌∷◌, ◌++◌, Option, Some, None, refl, sym, ◌∙◌, ap, subst, append_assoc, append-nil}
use Rattle.std.specs.Prelude.{not}
use Rattle.dsd_values.specs.declared.role.Role.{Role}
use Rattle.dsd_values.specs.declared.role.Role.TheVariants.{Receiver, Supplier}
use Rattle.dsd_record.specs.Choices.{Chooser}
use Rattle.dsd_station.specs.Logged.{Log, image_by}
use Rattle.dsd_station.specs.Planned.{no_plan}
use Rattle.dsd_station.specs.Replayed.{State, state_of}
use Rattle.dsd_station.specs.declared.call.Pick.TheVariants.{Keep}
use Rattle.dsd_journal.specs.Headers.{IsHeader, IsId}
use Rattle.dsd_journal.specs.declared.entry.Entry.{Entry}
use Rattle.dsd_journal.specs.declared.header.Header.{Header}
use Rattle.dex_handshake.specs.LineTable.{Line, Ended}
use Rattle.dex_handshake.specs.declared.session_end.SessionEnd.TheVariants.{Complete}
use Rattle.dsd_end.specs.Standings.{Standing, has_ended}
use Rattle.cable_world.specs.Diligence.{ComesBy, refused_in}
use Rattle.cable_world.specs.Holding.{HoldsLast}
use Rattle.cable_world.specs.Leaving.{IsBegun}
use Rattle.cable_world.specs.Living.{CallSo}
use Rattle.cable_world.specs.Noted.{Noted, steps_of}
use Rattle.cable_world.specs.Obeying.{Obeys, Plays, Then, first_scene}
use Rattle.cable_world.specs.Scenes.{Scene, side}
use Rattle.cable_world.specs.Steps.{WorldStep}
use Rattle.cable_world.specs.Worlds.{HasPlayed, WorldView, chooser_of, header_of, refused_by}
use Rattle.cable_world.specs.declared.event.Event.{Event}
use Rattle.cable_world.specs.declared.event.Event.TheVariants.{Clean}
use Rattle.clean_worlds.specs.CleanBeginnings.{PlaysClean, RunningHear}
use Rattle.clean_worlds.specs.CleanPlays.{PlaysSession, choosers, headers}
use Rattle.clean_worlds.specs.CleanWorlds.{EndsInClean, IdsMatch, IsComplete, come_to, log_for}
use Rattle.clean_worlds.specs.WholeFrames.{Attends, GoWell}
use Rattle.clean_worlds.specs.WorldHalls.{BothCome}
use Rattle.clean_worlds.proofs.CleanPlayed.{plays_clean}
use Rattle.clean_worlds.proofs.CleanForeseen.{clean_foreseen}
use Rattle.clean_worlds.proofs.CleanUnhindered.{clean_unhindered}
use Rattle.clean_worlds.proofs.NotedParts.{split_calls, split_comes, split_steps}
use Rattle.clean_worlds.proofs.RunningKept.{RunningGo, running_hear, running_work}
use Rattle.clean_worlds.proofs.ScriptsKept.{each_role, hears_first, keeps_script}
use Rattle.clean_worlds.proofs.StandingsFine.{both_fine, holds_now}

-- ---- both ends are complete

complete_at : (role : Role) (header : Header) (now : Standing) (scene : Scene) (standing : Option Standing) → standing ≡ Some now → Attends header now (side scene role) → now.line ≡ Ended Complete → IsComplete role scene standing
complete_at role header now scene standing stands attends complete =
    record { now = now; stands = stands; complete = complete; rests = attends.runs ∙ ap (λ (l : Line). not (has_ended l)) complete }

pub both_complete : (id other_id : List ℕ) (supplier receiver : Chooser) (supplier_entries receiver_entries : List Entry) (last : Scene) (standing : Role → Option Standing)
    → PlaysSession id other_id supplier receiver supplier_entries receiver_entries last standing → (role : Role) → IsComplete role last (standing role)
both_complete id other_id supplier receiver supplier_entries receiver_entries last standing p =
    each_role (λ (role : Role). IsComplete role last (standing role)) p.near (complete_at p.near (headers id other_id p.near) p.new.near.standing last (standing p.near) p.shows.near_stands p.shows.near_attends p.ends.near)
    (subst (λ (role : Role). IsComplete role last (standing role)) (sym p.shows.roles.0)
    (complete_at p.far (headers id other_id p.far) p.new.far.standing last (standing p.far) p.shows.far_stands p.shows.far_attends p.ends.far))

-- ---- a script in two parts

obeys_parts : (a b : List Event) (scene : Scene) (made : List WorldStep) (next : Scene) → Obeys (a ++ b) scene made next → Then (Obeys a) (Obeys b) scene made next
obeys_parts [] b scene made next obeys = record { between = scene; first = []; rest = made; joined = refl; before = (refl, refl); behind = obeys }
obeys_parts (event ∷ a) b scene made next obeys =
    let p = obeys_parts a b obeys.between obeys.rest next obeys.behind in
    record {
      between = p.between;
      first = obeys.first ++ p.first;
      rest = p.rest;
      joined = obeys.joined ∙ ap (λ (l : List WorldStep). obeys.first ++ l) p.joined ∙ sym (append_assoc obeys.first p.first p.rest);
      before = record { between = obeys.between; first = obeys.first; rest = p.first; joined = refl; before = obeys.before; behind = p.before };
      behind = p.behind;
    }

one_event : (event : Event) (scene : Scene) (made : List WorldStep) (next : Scene) → Obeys (event ∷ []) scene made next → Plays event scene made next
one_event event scene made next obeys =
    let (none, same) = obeys.behind in
    let all : made ≡ obeys.first = obeys.joined ∙ ap (λ (l : List WorldStep). obeys.first ++ l) none ∙ append-nil obeys.first in
    subst (λ (s : Scene). Plays event scene made s) (sym same) (subst (λ (l : List WorldStep). Plays event scene l obeys.between) (sym all) obeys.before)

-- ---- a world

-- whose station holds no entries has a header
titled : (role : Role) (header : Header) (log : Log) (steps : List WorldStep) → IsBegun role header log steps → IsHeader header
titled role header log steps begun = (begun.nothing _ (begun.fine.may Keep)).journal.leads.titled

-- the ids of the handheld's journal
pub ids_of : (world : WorldView) → HasPlayed world → IsId world.script.ends.handheld.own × IsId world.script.ends.handheld.peer
ids_of world played =
    let header : IsHeader (header_of world.script Supplier) = titled Supplier (header_of world.script Supplier) played.handheld (steps_of world.noted) played.handheld_told.begun in
    (header.own, header.peer)

module _ (world : WorldView) (played : HasPlayed world) (match : IdsMatch world.script) where
  abbrev id : List ℕ
  id = world.script.ends.handheld.own

  abbrev other_id : List ℕ
  other_id = world.script.ends.handheld.peer

  abbrev chooser : Role → Chooser
  chooser = choosers (chooser_of world.script Supplier) (chooser_of world.script Receiver)

  abbrev header : Role → Header
  header = headers id other_id

  pub receiver_titled : header_of world.script Receiver ≡ header Receiver
  receiver_titled =
      ap (λ (own : List ℕ). let h : Header = record { role = Receiver; own = own; peer = world.script.ends.receiver.peer } in h) match.0
      ∙ ap (λ (peer : List ℕ). let h : Header = record { role = Receiver; own = other_id; peer = peer } in h) match.1

  pub is_header : IsHeader (header Supplier)
  is_header = titled Supplier (header Supplier) played.handheld (steps_of world.noted) played.handheld_told.begun

  abbrev last_at : Role → Option Standing
  last_at Supplier = played.handheld_told.last
  last_at Receiver = played.receiver_told.last

  come : BothCome chooser header (λ (role : Role). state_of (log_for played.handheld played.receiver role).calls) (λ (role : Role). None) world.noted last_at
  come Supplier = played.handheld_told.diligent
  come Receiver =
      subst (λ (h : Header). ComesBy Receiver (chooser Receiver) h (state_of played.receiver.calls) None world.noted played.receiver_told.last) receiver_titled played.receiver_told.diligent

  image_at : (role : Role) → image_by (side world.scene role).log ≡ image_by (side played.last role).log
  image_at Supplier = played.handheld_image
  image_at Receiver = played.receiver_image

  refused_at : (role : Role) → refused_in (last_at role) ≡ refused_by world role
  refused_at Supplier = played.handheld_told.refused
  refused_at Receiver = played.receiver_told.refused

  holds_at : (role : Role) → HoldsLast (header_of world.script role) (last_at role) (image_by (side world.scene role).log)
  holds_at Supplier = played.handheld_told.holds
  holds_at Receiver = played.receiver_told.holds

  unarmed_at : (role : Role) → (log_for played.handheld played.receiver role).plan ≡ no_plan
  unarmed_at Supplier = played.handheld_is.plan
  unarmed_at Receiver = played.receiver_is.plan

  pub ends_in_clean : (events : List Event) → world.script.events ≡ events ++ Clean ∷ [] → EndsInClean events world
  ends_in_clean events script =
      let both = obeys_parts events (Clean ∷ []) (first_scene played.handheld played.receiver) (steps_of world.noted) played.last
      (subst (λ (l : List Event). Obeys l (first_scene played.handheld played.receiver) (steps_of world.noted) played.last) script played.obeys) in
      let (front, back, parts, is, then_is) = split_steps both.first both.rest world.noted both.joined in
      let cut = λ (role : Role). split_comes role (chooser role) (header role) front back (state_of (log_for played.handheld played.receiver role).calls) None (last_at role)
      (subst (λ (l : List Noted). ComesBy role (chooser role) (header role) (state_of (log_for played.handheld played.receiver role).calls) None l (last_at role)) parts (come role)) in
      let mid : Role → Option Standing = λ (role : Role). (cut role).0 in
      let obeys : Obeys events (first_scene played.handheld played.receiver) (steps_of front) both.between = subst (λ (l : List WorldStep). Obeys events (first_scene played.handheld played.receiver) l both.between) (sym is) both.before in
      let plays : Plays Clean both.between (steps_of back) played.last =
      subst (λ (l : List WorldStep). Plays Clean both.between l played.last) (sym then_is) (one_event Clean both.between both.rest played.last both.behind) in
      let go : RunningGo mid both.between =
      keeps_script chooser header refl refl events (first_scene played.handheld played.receiver) both.between front (λ (role : Role). state_of (log_for played.handheld played.receiver role).calls) (λ (role : Role). None) mid obeys
      (λ role. (cut role).1) (hears_first played.handheld played.receiver (λ (role : Role). None)) in
      let hear : RunningHear mid both.between = running_hear mid both.between go in
      let calls : CallSo (steps_of back) = (split_calls front back (subst (λ (l : List Noted). CallSo (steps_of l)) parts played.calls)).1 in
      let state : Role → State = come_to played.handheld played.receiver front in
      let behind : BothCome chooser header state mid back last_at = λ role. (cut role).2 in
      let clean : GoWell back → PlaysClean id other_id (chooser_of world.script Supplier) (chooser_of world.script Receiver) state (steps_of back) played.last last_at =
      λ well. plays_clean id other_id is_header.own is_header.peer (chooser_of world.script Supplier) (chooser_of world.script Receiver) state both.between played.last mid last_at (steps_of back) hear
      (record { noted = back; is = refl; come = behind; calls = calls; well = well }) plays in
      record {
        handheld = played.handheld;
        receiver = played.receiver;
        before = front;
        behind = back;
        joined = parts;
        between = both.between;
        last = played.last;
        obeys = obeys;
        plays = plays;
        unarmed = unarmed_at;
        image = image_at;
        standing = last_at;
        refused = refused_at;
        well = λ free. clean_unhindered id other_id is_header.own is_header.peer (chooser_of world.script Supplier) (chooser_of world.script Receiver) state both.between played.last mid last_at
            back hear (running_work mid both.between go) behind calls plays free;
        foreseen = λ most free. clean_foreseen id other_id is_header.own is_header.peer (chooser_of world.script Supplier) (chooser_of world.script Receiver) most state both.between played.last mid last_at
            back hear (running_work mid both.between go) behind calls plays free;
        clean = clean;
        holds = λ well role now is.
            holds_now (header_of world.script role) (last_at role) (image_by (side world.scene role).log) (holds_at role)
            (both_fine id other_id (chooser_of world.script Supplier) (chooser_of world.script Receiver) state back played.last mid last_at behind well (clean well) role) now is;
      }

  -- its records begin as those of the world
  pub ends_so : (events : List Event) (script : world.script.events ≡ events ++ Clean ∷ []) → ((ends_in_clean events script).handheld ≡ played.handheld) × ((ends_in_clean events script).receiver ≡ played.receiver)
  unfolding ends_in_clean
  ends_so events script = (refl, refl)
