-- A clean event heals what any events before it have left.
use Rattle.std.proofs.Common.{◌≡◌, ℕ, List, [], ◌∷◌, ◌++◌, refl, sym, ◌∙◌, ap, subst, append_assoc, append-nil, arith, Contains}
use Rattle.std.specs.Prelude.{All}
use Rattle.std.proofs.lemmas.List.{map-append}
use Rattle.std.proofs.lemmas.List.Elements.{All-nil}
use Rattle.base_record_894.specs.RecordText.{IsBase}
use Rattle.dsd_values.specs.declared.role.Role.{Role}
use Rattle.dsd_values.specs.declared.role.Role.TheVariants.{Receiver, Supplier}
use Rattle.dsd_station.specs.Logged.{Log}
use Rattle.dsd_station.specs.Planned.{Plan}
use Rattle.dsd_station.specs.declared.feeding.Given.TheVariants.{Unplugged}
use Rattle.dsd_station.specs.Replayed.{State, state_of}
use Rattle.dsd_journal.specs.JournalImage.{Holds}
use Rattle.dsd_journal.specs.declared.entry.Entry.{Entry}
use Rattle.dsd_journal.specs.declared.header.Header.{Header}
use Rattle.dsd_end.specs.Cabling.{NoClash}
use Rattle.clean_sessions.specs.DeliveryStands.{AreBacked}
use Rattle.clean_sessions.proofs.SessionsSettled.{session_settled}
use Rattle.cable_world.specs.Leaving.{IsBegun, image_left, state_after}
use Rattle.cable_world.specs.Living.{CallSo, HasNoHear}
use Rattle.cable_world.specs.Noted.{Noted, step_of, steps_of}
use Rattle.cable_world.specs.Obeying.{Hears, Obeys, Plays, Unplugs, first_scene}
use Rattle.cable_world.specs.Progressing.{OneList}
use Rattle.cable_world.specs.Scenes.{Scene}
use Rattle.cable_world.specs.Steps.{WorldStep}
use Rattle.cable_world.specs.Worlds.{HasPlayed, WorldView, chooser_of}
use Rattle.cable_world.specs.declared.event.Event.{Event}
use Rattle.cable_world.specs.declared.event.Event.TheVariants.{Clean, Unplug}
use Rattle.cable_world.proofs.CutScripts.{obeys_both}
use Rattle.cable_world.proofs.JoinedRuns.{left_may}
use Rattle.clean_worlds.specs.CleanBeginnings.{OpensOver}
use Rattle.clean_worlds.specs.CleanPlays.{headers}
use Rattle.clean_worlds.specs.CleanWorlds.{EndsInClean, IdsMatch, come_to, log_for}
use Rattle.clean_worlds.specs.Healing.{Heals, HealsInClean, HealsUnlessSetsClash}
use Rattle.clean_worlds.specs.Histories.{NoSetsClash}
use Rattle.clean_worlds.specs.WholeFrames.{GoWell}
use Rattle.clean_worlds.proofs.BackedLists.{backed_behind, begun_at}
use Rattle.clean_worlds.proofs.CleanPlayed.{after_more}
use Rattle.clean_worlds.proofs.LivesApart.{openings_apart}
use Rattle.clean_worlds.proofs.FrontsBegin.{begun_front}
use Rattle.clean_worlds.proofs.NotedParts.{split_called}
use Rattle.clean_worlds.proofs.OpeningsFound.{FindsEach, calls_at, clean_finds, found, opening_reads}
use Rattle.clean_worlds.proofs.WorldsClean.{ends_in_clean, ends_so, is_header}

-- what an opening of a clean event finds was left behind its unplugging
opens_left : (role : Role) (header : Header) (state : State) (scene next : Scene) (steps : List WorldStep) (entries : List Entry) → (plays : Plays Clean scene steps next) → CallSo steps
    → OpensOver role header state steps entries → Holds header entries (image_left (state_after role state plays.first))
opens_left role header state scene next steps entries plays calls o =
    let left : List ℕ = image_left (state_after role state plays.first) in
    let finds : FindsEach role left state (o.before ++ o.opening ∷ o.rest) = subst (FindsEach role left state) o.joined (clean_finds role scene steps next state plays) in
    let at : image_left (state_after role state o.before) ≡ left = found role left o.before o.rest o.opening state finds o.own.0 o.own.1 in
    let its = calls_at o.before o.rest o.opening (subst CallSo o.joined calls) in
    subst (Holds header entries) (opening_reads (state_after role state o.before) o.opening o.own.1 its ∙ at) o.holds

-- two scripts without HEAR, one behind the other
free_both : (a b : List Event) → HasNoHear a → HasNoHear b → HasNoHear (a ++ b)
free_both [] b free more = more
free_both (event ∷ a) b free more = (free.0, free_both a b free.1 more)

module _ (one_list : OneList) (world : WorldView) (played : HasPlayed world) (match : IdsMatch world.script) (events : List Event) (free : HasNoHear events) where
  abbrev header : Role → Header
  header = headers world.script.ends.handheld.own world.script.ends.handheld.peer

  -- the lists over which a clean event opens both ends
  pub openings_backed : (before behind : List Noted) (between last : Scene) (s r : List Entry) → world.noted ≡ before ++ behind → Obeys events (first_scene played.handheld played.receiver) (steps_of before) between
      → Plays Clean between (steps_of behind) last → OpensOver Supplier (header Supplier) (come_to played.handheld played.receiver before Supplier) (steps_of behind) s
      → OpensOver Receiver (header Receiver) (come_to played.handheld played.receiver before Receiver) (steps_of behind) r → NoSetsClash s r → AreBacked Supplier s r
  openings_backed before behind between last s r joined obeys plays opens those apart =
      let front : List WorldStep = steps_of before ++ plays.first in
      let parts : steps_of world.noted ≡ steps_of before ++ steps_of behind = ap steps_of joined ∙ map-append step_of before behind in
      let whole : steps_of world.noted ≡ front ++ plays.rest = parts ∙ ap (λ (l : List WorldStep). steps_of before ++ l) plays.joined ∙ sym (append_assoc (steps_of before) plays.first plays.rest) in
      let cut : Obeys (events ++ Unplug ∷ []) (first_scene played.handheld played.receiver) front plays.between =
      obeys_both events (Unplug ∷ []) (first_scene played.handheld played.receiver) (steps_of before) between plays.first plays.between obeys
      (record { between = plays.between; first = plays.first; rest = []; joined = sym (append-nil plays.first); before = plays.before; behind = (refl, refl) }) in
      let calls : CallSo front = (split_called front plays.rest (subst CallSo whole played.calls)).0 in
      let late : CallSo (steps_of behind) = (split_called (steps_of before) (steps_of behind) (subst CallSo parts played.calls)).1 in
      let begun : (role : Role) → IsBegun role (header role) (log_for played.handheld played.receiver role) front =
      λ role. begun_front role (header role) (log_for played.handheld played.receiver role) front plays.rest (subst (IsBegun role (header role) (log_for played.handheld played.receiver role)) whole (begun_at world played match role)) in
      let still : (role : Role) → state_after role (come_to played.handheld played.receiver before role) plays.first ≡ state_after role (state_of (log_for played.handheld played.receiver role).calls) front =
      λ role. sym (after_more role (state_of (log_for played.handheld played.receiver role).calls) (steps_of before) plays.first) in
      backed_behind one_list (events ++ Unplug ∷ []) played.handheld played.receiver front plays.between (header Supplier) (header Receiver) cut (free_both events (Unplug ∷ []) free (tt, tt))
      (ap (λ (p : Plan). p.fed) played.handheld_is.plan) (ap (λ (p : Plan). p.fed) played.receiver_is.plan) calls (begun Supplier) (begun Receiver) s r
      (subst (λ (x : State). Holds (header Supplier) s (image_left x)) (still Supplier) (opens_left Supplier (header Supplier) (come_to played.handheld played.receiver before Supplier) between last (steps_of behind) s plays late opens))
      (subst (λ (x : State). Holds (header Receiver) r (image_left x)) (still Receiver) (opens_left Receiver (header Receiver) (come_to played.handheld played.receiver before Receiver) between last (steps_of behind) r plays late those))
      apart

  -- ---- the world's last event

  module _ (script : world.script.events ≡ events ++ Clean ∷ []) where
    abbrev ends : EndsInClean events world
    ends = ends_in_clean world played match events script

    -- so what holds of its records holds of those of the world
    as_played : (P : Log → Log → Type 0) → P ends.handheld ends.receiver → P played.handheld played.receiver
    as_played P so =
        let (one, two) = ends_so world played match events script in
        subst (λ (l : Log). P l played.receiver) one (subst (P ends.handheld) two so)

    abbrev obeys : Obeys events (first_scene played.handheld played.receiver) (steps_of ends.before) ends.between
    obeys = as_played (λ (handheld receiver : Log). Obeys events (first_scene handheld receiver) (steps_of ends.before) ends.between) ends.obeys

    abbrev OpensEnd : Role → List Entry → Type 0
    OpensEnd role entries = OpensOver role (header role) (come_to played.handheld played.receiver ends.before role) (steps_of ends.behind) entries

    opens_end : (role : Role) (entries : List Entry) → OpensOver role (header role) (come_to ends.handheld ends.receiver ends.before role) (steps_of ends.behind) entries → OpensEnd role entries
    opens_end role entries = as_played (λ (handheld receiver : Log). OpensOver role (header role) (come_to handheld receiver ends.before role) (steps_of ends.behind) entries)

    pub heals_unless : All IsBase (chooser_of world.script Supplier).drafts → (well : GoWell ends.behind) → NoSetsClash (ends.clean well).supplier_entries (ends.clean well).receiver_entries → Heals _ _ _ _ _ _ _ _ (ends.clean well)
    heals_unless drafts well apart =
        let plays = ends.clean well in
        let backed = openings_backed ends.before ends.behind ends.between ends.last plays.supplier_entries plays.receiver_entries ends.joined obeys ends.plays
        (opens_end Supplier plays.supplier_entries plays.supplier_opens) (opens_end Receiver plays.receiver_entries plays.receiver_opens) apart in
        let titled = is_header world played match in
        record {
          backed = backed;
          settled = session_settled world.script.ends.handheld.own world.script.ends.handheld.peer (chooser_of world.script Supplier) (chooser_of world.script Receiver) plays.supplier_entries plays.receiver_entries
              plays.played.first plays.played.more plays.played.new titled.own titled.peer drafts (All-nil IsBase) backed plays.played.session;
        }

    pub heals_lists : All IsBase (chooser_of world.script Supplier).drafts → HealsUnlessSetsClash events world
    heals_lists drafts = record { ends = ends; heals = λ well apart. heals_unless drafts well apart }

    pub heals_lives : All IsBase (chooser_of world.script Supplier).drafts → NoClash played.lives.handheld played.lives.receiver → HealsInClean events world
    heals_lives drafts clash = record {
      ends = ends;
      heals = λ well.
          let plays = ends.clean well in
          heals_unless drafts well (openings_apart one_list world played match ends.before ends.behind plays.supplier_entries plays.receiver_entries ends.joined well
          (opens_end Supplier plays.supplier_entries plays.supplier_opens) (opens_end Receiver plays.receiver_entries plays.receiver_opens) clash);
    }

    -- ---- from two empty journals

    -- no end runs before the first event, so that unplugging makes no step
    no_step : {last : Scene} → events ≡ [] → (plays : Plays Clean ends.between (steps_of ends.behind) last) → plays.first ≡ []
    no_step {last} none plays =
        let at : ends.between ≡ first_scene played.handheld played.receiver = (subst (λ (l : List Event). Obeys l (first_scene played.handheld played.receiver) (steps_of ends.before) ends.between) none obeys).1 in
        let apart : Unplugs (first_scene played.handheld played.receiver) plays.first plays.between = subst (λ (s : Scene). Unplugs s plays.first plays.between) at plays.before in
        let rest = subst (λ (s : Scene). Hears Receiver Unplugged s apart.rest plays.between) apart.before.1 apart.behind in
        apart.joined ∙ ap (λ (l : List WorldStep). l ++ apart.rest) apart.before.0 ∙ rest.0

    opens_empty : events ≡ [] → (role : Role) (entries : List Entry) → OpensEnd role entries → entries ≡ []
    opens_empty none role entries opens =
        let log : Log = log_for played.handheld played.receiver role in
        let begun : IsBegun role (header role) log (steps_of world.noted) = begun_at world played match role in
        let parts : steps_of world.noted ≡ steps_of ends.before ++ steps_of ends.behind = ap steps_of ends.joined ∙ map-append step_of ends.before ends.behind in
        let late : CallSo (steps_of ends.behind) = (split_called (steps_of ends.before) (steps_of ends.behind) (subst CallSo parts played.calls)).1 in
        let nothing : steps_of ends.before ≡ [] = (subst (λ (l : List Event). Obeys l (first_scene played.handheld played.receiver) (steps_of ends.before) ends.between) none obeys).0 in
        let held : Holds (header role) entries (image_left (state_after role (come_to played.handheld played.receiver ends.before role) ends.plays.first)) =
        opens_left role (header role) (come_to played.handheld played.receiver ends.before role) ends.between ends.last (steps_of ends.behind) entries ends.plays late opens in
        let at_first : Holds (header role) entries (image_left (state_of log.calls)) =
        subst (λ (l : List WorldStep). Holds (header role) entries (image_left (state_after role (state_of log.calls) l))) nothing
        (subst (λ (l : List WorldStep). Holds (header role) entries (image_left (state_after role (come_to played.handheld played.receiver ends.before role) l))) (no_step none ends.plays) held) in
        (one_list (image_left (state_of log.calls)) (header role) (header role) entries [] at_first (begun.nothing (image_left (state_of log.calls)) (left_may (state_of log.calls) begun.fine))).1

    pub opens_nothing : events ≡ [] → (role : Role) (entries : List Entry) → OpensOver role (header role) (come_to ends.handheld ends.receiver ends.before role) (steps_of ends.behind) entries → entries ≡ []
    opens_nothing none role entries opens = opens_empty none role entries (opens_end role entries opens)

    none_there : (text : List ℕ) → Contains [] text → ⊥
    none_there text found = omega (arith, found.1)

    pub apart_empty : (s r : List Entry) → s ≡ [] → r ≡ [] → NoSetsClash s r
    apart_empty s r none nothing =
        subst (λ (l : List Entry). NoSetsClash l r) (sym none) (subst (λ (l : List Entry). NoSetsClash [] l) (sym nothing)
        (record { there = λ taken signed set other found. absurd (none_there taken found); back = λ taken signed set other found. absurd (none_there taken found) }))

    pub heals_empty : events ≡ [] → All IsBase (chooser_of world.script Supplier).drafts → HealsInClean events world
    heals_empty none drafts = record {
      ends = ends;
      heals = λ well.
          let plays = ends.clean well in
          heals_unless drafts well (apart_empty plays.supplier_entries plays.receiver_entries (opens_empty none Supplier plays.supplier_entries (opens_end Supplier plays.supplier_entries plays.supplier_opens))
          (opens_empty none Receiver plays.receiver_entries (opens_end Receiver plays.receiver_entries plays.receiver_opens)));
    }
