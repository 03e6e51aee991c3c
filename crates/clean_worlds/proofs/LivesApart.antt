-- Where no sets clash in both lives of a world, none clash of what both journals hold as a clean event opens its ends.
use Rattle.std.proofs.Common.{◌≡◌, true, false, List, [], ◌∷◌, ◌++◌, refl, sym, ◌∙◌, ap, subst, append_assoc}
use Rattle.std.specs.Prelude.{◌&&◌}
use Rattle.std.proofs.lemmas.List.{map-append}
use Rattle.dsd_values.specs.declared.role.Role.{Role}
use Rattle.dsd_values.specs.declared.role.Role.TheVariants.{Receiver, Supplier}
use Rattle.dsd_station.specs.Replayed.{State, state_of}
use Rattle.dsd_journal.specs.JournalImage.{Holds}
use Rattle.dsd_journal.specs.declared.entry.Entry.{Entry}
use Rattle.dsd_journal.specs.declared.header.Header.{Header}
use Rattle.dsd_end.specs.Cabling.{NoClash}
use Rattle.dsd_end.specs.Lives.{last_list}
use Rattle.dsd_end.specs.Runs.{Run}
use Rattle.dsd_end.proofs.Growing.{Grows}
use Rattle.cable_world.specs.Leaving.{IsBegun, image_left, state_after, state_behind}
use Rattle.cable_world.specs.Living.{begins_run, is_opening}
use Rattle.cable_world.specs.Noted.{Noted, kind_of, runs_by, step_of, steps_of}
use Rattle.cable_world.specs.Obeying.{first_scene}
use Rattle.cable_world.specs.Progressing.{OneList}
use Rattle.cable_world.specs.Steps.{Opening, StepKind, WorldStep, same_role}
use Rattle.cable_world.specs.Worlds.{HasPlayed, WorldView}
use Rattle.cable_world.specs.declared.answer.Answer.{Answer}
use Rattle.cable_world.specs.declared.answer.Answer.TheVariants.{Broken, Ended, NotOpened, Opened, Running}
use Rattle.cable_world.proofs.Recorded.{state_at_end}
use Rattle.clean_worlds.specs.CleanBeginnings.{OpensOver}
use Rattle.clean_worlds.specs.CleanPlays.{headers}
use Rattle.clean_worlds.specs.CleanWorlds.{IdsMatch, come_to, log_for}
use Rattle.clean_worlds.specs.Histories.{NoSetsClash}
use Rattle.clean_worlds.specs.WholeFrames.{GoWell, is_fault}
use Rattle.clean_worlds.proofs.CleanPlayed.{after_more}
use Rattle.clean_worlds.proofs.BackedLists.{begun_at}
use Rattle.clean_worlds.proofs.ListsGrow.{list_grows, still_apart}
use Rattle.clean_worlds.proofs.NotedParts.{split_steps, split_well}
use Rattle.clean_worlds.proofs.OpeningsFound.{same_self}
use Rattle.clean_worlds.proofs.WorldsClean.{receiver_titled}

-- ---- an opening without a fault begins a run

begins_well : (answer : Answer) → kind_of answer ≡ Opening → is_fault answer ≡ false → runs_by answer ≡ true
begins_well Opened kind fine = refl
begins_well (NotOpened fault) kind fine = absurd (cc)
begins_well Running kind fine = refl
begins_well (Ended end) kind fine = let no : false ≡ true = ap is_opening kind in absurd (cc)
begins_well (Broken fault) kind fine = absurd (cc)

well_at : (noted : List Noted) (before rest : List WorldStep) (opening : WorldStep) → steps_of noted ≡ before ++ opening ∷ rest → GoWell noted → opening.kind ≡ Opening → begins_run opening ≡ true
well_at noted before rest opening e well kind =
    let (front, back, both, is, then_is) = split_steps before (opening ∷ rest) noted e in
    by back then_is (split_well front back (subst GoWell both well)).1
  where
    by : (back : List Noted) → steps_of back ≡ opening ∷ rest → GoWell back → begins_run opening ≡ true
    by [] then_is well = absurd (cc)
    by (one ∷ back) then_is well =
        let same : step_of one ≡ opening = cc in
        let runs : opening.runs ≡ true = ap (λ (s : WorldStep). s.runs) (sym same) ∙ begins_well one.answer (ap (λ (s : WorldStep). s.kind) same ∙ kind) well.0.answer in
        ap (λ (k : StepKind). is_opening k && opening.runs) kind ∙ runs

module _ (one_list : OneList) (world : WorldView) (played : HasPlayed world) (match : IdsMatch world.script) where
  abbrev header : Role → Header
  header = headers world.script.ends.handheld.own world.script.ends.handheld.peer

  abbrev life_of : Role → List Run
  life_of Supplier = played.lives.handheld
  life_of Receiver = played.lives.receiver

  abbrev state_at : Role → State
  state_at role = state_of (log_for played.handheld played.receiver role).calls

  -- the image left at the end holds what the life leaves
  last_left : (role : Role) → Holds (header role) (last_list (life_of role)) (image_left (state_after role (state_at role) (steps_of world.noted)))
  last_left Supplier =
      let at_end = state_at_end Supplier world.script.events (first_scene played.handheld played.receiver) (steps_of world.noted) played.last played.obeys in
      subst (Holds (header Supplier) (last_list played.lives.handheld)) (played.handheld_image ∙ ap image_left at_end) played.lives.handheld_is.holds
  last_left Receiver =
      let at_end = state_at_end Receiver world.script.events (first_scene played.handheld played.receiver) (steps_of world.noted) played.last played.obeys in
      subst (λ (h : Header). Holds h (last_list played.lives.receiver) (image_left (state_after Receiver (state_of played.receiver.calls) (steps_of world.noted)))) (receiver_titled world played match)
      (subst (Holds _ (last_list played.lives.receiver)) (played.receiver_image ∙ ap image_left at_end) played.lives.receiver_is.holds)

  opens_grow : (role : Role) (before behind : List Noted) (entries : List Entry) → world.noted ≡ before ++ behind → GoWell behind
      → OpensOver role (header role) (come_to played.handheld played.receiver before role) (steps_of behind) entries → Grows entries (last_list (life_of role))
  opens_grow role before behind entries joined well o =
      let front : List WorldStep = steps_of before ++ o.before in
      let whole : steps_of world.noted ≡ front ++ o.opening ∷ o.rest =
      ap steps_of joined ∙ map-append step_of before behind ∙ ap (λ (l : List WorldStep). steps_of before ++ l) o.joined ∙ sym (append_assoc (steps_of before) o.before (o.opening ∷ o.rest)) in
      let finds : Holds (header role) entries (state_behind (state_after role (state_at role) front) o.opening).journal =
      subst (λ (s : State). Holds (header role) entries (state_behind s o.opening).journal) (sym (after_more role (state_at role) (steps_of before) o.before)) o.holds in
      list_grows one_list role (header role) o.opening o.rest (ap (same_role role) o.own.0 ∙ same_self role) (well_at behind o.before o.rest o.opening o.joined well o.own.1)
      (log_for played.handheld played.receiver role) front entries (last_list (life_of role))
      (subst (IsBegun role (header role) (log_for played.handheld played.receiver role)) whole (begun_at world played match role)) finds
      (subst (λ (l : List WorldStep). Holds (header role) (last_list (life_of role)) (image_left (state_after role (state_at role) l))) whole (last_left role))

  pub openings_apart : (before behind : List Noted) (s r : List Entry) → world.noted ≡ before ++ behind → GoWell behind → OpensOver Supplier (header Supplier) (come_to played.handheld played.receiver before Supplier) (steps_of behind) s
      → OpensOver Receiver (header Receiver) (come_to played.handheld played.receiver before Receiver) (steps_of behind) r → NoClash played.lives.handheld played.lives.receiver → NoSetsClash s r
  openings_apart before behind s r joined well opens those clash =
      let one = opens_grow Supplier before behind s joined well opens in
      let two = opens_grow Receiver before behind r joined well those in
      record {
        there = still_apart s r (last_list played.lives.handheld) (last_list played.lives.receiver) one two clash.there;
        back = still_apart r s (last_list played.lives.receiver) (last_list played.lives.handheld) two one clash.back;
      }
