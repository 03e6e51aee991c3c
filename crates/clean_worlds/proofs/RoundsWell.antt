-- The rounds of CLEAN go well, where nothing armed is left and both journals have room.
use Rattle.std.proofs.Common.{◌≡◌, ℕ, zero, suc, ◌<◌, Bool, true, false, List, [], ◌∷◌, ◌++◌, length, Option, refl, sym, ◌∙◌, ap, subst, append_assoc, append-nil}
use Rattle.std.specs.Prelude.{if◌then◌else◌}
use Rattle.dsd_values.specs.declared.role.Role.{Role}
use Rattle.dsd_values.specs.declared.role.Role.TheVariants.{Receiver, Supplier}
use Rattle.dsd_record.specs.Choices.{Chooser}
use Rattle.dsd_station.specs.declared.feeding.Given.{Given}
use Rattle.dsd_station.specs.declared.feeding.Given.TheVariants as given
use Rattle.dsd_station.specs.Heard.{answers_in}
use Rattle.dsd_station.specs.Plans.{with_fed}
use Rattle.dsd_station.specs.Replayed.{State}
use Rattle.dsd_journal.specs.Headers.{IsHeader}
use Rattle.dsd_journal.specs.declared.entry.Entry.{Entry}
use Rattle.dsd_journal.specs.declared.header.Header.{Header}
use Rattle.dsd_end.specs.Runs.{bytes_heard}
use Rattle.dsd_end.specs.Standings.{Standing}
use Rattle.dsd_end.specs.declared.fault.TheConstants.{NOISE_BYTES}
use Rattle.cable_world.specs.Diligence.{ComesBy}
use Rattle.cable_world.specs.Leaving.{behind_if, state_after}
use Rattle.cable_world.specs.Noted.{Noted, step_of, steps_of}
use Rattle.cable_world.specs.Obeying.{AreRounds, Course, Delivers, DeliversOf, Exchanges, Hears, HearsIf, IsPolledOut, IsRound, IsRoundOf, Nothing, Then, unchanged}
use Rattle.cable_world.specs.Scenes.{Scene, Side, fed, side, stepped, with_waiting}
use Rattle.cable_world.specs.Steps.{WorldStep, other, same_role}
use Rattle.clean_worlds.specs.Faultless.{HasRoom, bytes_by}
use Rattle.clean_worlds.specs.WholeFrames.{GoWell}
use Rattle.clean_worlds.specs.WorldHalls.{BothCome}
use Rattle.clean_worlds.proofs.NotedParts.{split_comes, split_steps}
use Rattle.clean_worlds.proofs.PolledOnce.{same_roles}
use Rattle.clean_worlds.proofs.PolledWell.{Stands, poll_on, stands_as}
use Rattle.clean_worlds.proofs.RoundsClean.{apart_roles, hears_apart, waits_not}
use Rattle.clean_worlds.proofs.ScriptsKept.{each_role, heard_beside}
use Rattle.clean_worlds.proofs.SessionPlayed.{no_steps}
use Rattle.clean_worlds.proofs.SparedCalls.{spared_fed}
use Rattle.clean_worlds.proofs.Stepped.{busy_runs, fed_own}

-- ---- what an end hears in some steps

bytes_own : (role : Role) (one : WorldStep) (steps : List WorldStep) → one.role ≡ role → bytes_by role (one ∷ steps) ≡ bytes_heard (answers_in one.part) ++ bytes_by role steps
bytes_own role one steps own =
    ap (λ (b : Bool). (if b then bytes_heard (answers_in one.part) else []) ++ bytes_by role steps) (ap (same_role role) own ∙ same_roles role)

bytes_apart : (role : Role) (one : WorldStep) (steps : List WorldStep) → one.role ≡ role → bytes_by (other role) (one ∷ steps) ≡ bytes_by (other role) steps
bytes_apart role one steps own =
    ap (λ (b : Bool). (if b then bytes_heard (answers_in one.part) else []) ++ bytes_by (other role) steps) (ap (same_role (other role)) own ∙ apart_roles role (other role) refl)

pub bytes_more : (role : Role) (a b : List WorldStep) → bytes_by role (a ++ b) ≡ bytes_by role a ++ bytes_by role b
bytes_more role [] b = refl
bytes_more role (one ∷ a) b =
    let its : List ℕ = if same_role role one.role then bytes_heard (answers_in one.part) else [] in
    ap (λ (l : List ℕ). its ++ l) (bytes_more role a b) ∙ sym (append_assoc its (bytes_by role a) (bytes_by role b))

polled_silent : (role : Role) (noted : List Noted) (scene next : Scene) → IsPolledOut role scene (steps_of noted) next → bytes_by (other role) (steps_of noted) ≡ []
polled_silent role [] scene next out = refl
polled_silent role (one ∷ noted) scene next (busy, makes, out) = bytes_apart role (step_of one) (steps_of noted) makes.role ∙ polled_silent role noted (stepped scene (step_of one)) next out

heard_silent : (runs : Bool) (role : Role) (what : Given) (noted : List Noted) (scene next : Scene) → HearsIf runs role what scene (steps_of noted) next → bytes_by (other role) (steps_of noted) ≡ []
heard_silent true role what noted scene next out = polled_silent role noted (fed scene role what) next out
heard_silent false role what noted scene next (none, same) = ap (bytes_by (other role)) none

pub joined_well : (front back : List Noted) → GoWell front → GoWell back → GoWell (front ++ back)
joined_well [] back a b = b
joined_well (one ∷ front) back a b = (a.0, joined_well front back a.1 b)

module _ (chooser : Role → Chooser) (header : Role → Header) (are : (role : Role) → IsHeader (header role)) (first : Role → List Entry) (total : Role → List ℕ)
    (room : (role : Role) → HasRoom (header role).role (chooser role) (first role) (total role)) (quiet : (role : Role) → length (total role) < NOISE_BYTES) where
  abbrev pub StandsAt : Role → Side → Option Standing → List ℕ → Type 0
  StandsAt role its standing bytes = Stands (header role) (are role) (chooser role) (first role) its standing bytes

  abbrev pub BothStand : Scene → (Role → Option Standing) → (Role → List ℕ) → Type 0
  BothStand scene standing bytes = (role : Role) → StandsAt role (side scene role) (standing role) (bytes role)

  -- Steps of this course go well, and both ends stand so behind them.
  pub record Goes (noted : List Noted) (next : Scene) (after : Role → Option Standing) (bytes : Role → List ℕ) : Type 0 where
    pub well : GoWell noted
    pub stand : BothStand next after (λ (role : Role). bytes role ++ bytes_by role (steps_of noted))

  abbrev pub Well : Course → Type 0
  Well course =
      (scene next : Scene) (noted : List Noted) (state : Role → State) (before after : Role → Option Standing) (bytes more : Role → List ℕ) → course scene (steps_of noted) next → BothCome chooser header state before noted after
      → BothStand scene before bytes → ((role : Role) → total role ≡ (bytes role ++ bytes_by role (steps_of noted)) ++ more role) → Goes noted next after bytes

  still : (role : Role) (old new : Side) (before after : Option Standing) (bytes more : List ℕ) → new ≡ old → after ≡ before → more ≡ bytes → StandsAt role old before bytes → StandsAt role new after more
  still role old new before after bytes more same stays none s = stands_as (header role) (are role) (chooser role) (first role) old new before after bytes more same stays none s

  none_heard : (bytes heard : List ℕ) → heard ≡ [] → bytes ++ heard ≡ bytes
  none_heard bytes heard none = ap (λ (l : List ℕ). bytes ++ l) none ∙ append-nil bytes

  well_none : (noted : List Noted) → steps_of noted ≡ [] → GoWell noted
  well_none [] none = tt
  well_none (one ∷ noted) none = absurd (cc)

  well_nothing : Well Nothing
  well_nothing scene next noted state before after bytes more (none, same) come stand split = record {
    well = well_none noted none;
    stand = λ role.
        still role (side scene role) (side next role) (before role) (after role) (bytes role) (bytes role ++ bytes_by role (steps_of noted)) (ap (λ (s : Scene). side s role) same)
        (no_steps role (chooser role) (header role) (state role) (before role) (after role) noted none (come role)) (none_heard (bytes role) (bytes_by role (steps_of noted)) (ap (bytes_by role) none)) (stand role);
  }

  well_then : (one two : Course) → Well one → Well two → Well (Then one two)
  well_then one two before_well behind_well scene next noted state before after bytes more both come stand split =
      let (front, back, parts, is, then_is) = split_steps both.first both.rest noted both.joined in
      let cut = λ (role : Role). split_comes role (chooser role) (header role) front back (state role) (before role) (after role)
      (subst (λ (l : List Noted). ComesBy role (chooser role) (header role) (state role) (before role) l (after role)) parts (come role)) in
      let mid : Role → Option Standing = λ (role : Role). (cut role).0 in
      let all : (role : Role) → bytes_by role (steps_of noted) ≡ bytes_by role (steps_of front) ++ bytes_by role (steps_of back) =
      λ role. ap (bytes_by role) both.joined ∙ bytes_more role both.first both.rest ∙ ap (λ (l : List WorldStep). bytes_by role l ++ bytes_by role both.rest) (sym is)
      ∙ ap (λ (l : List WorldStep). bytes_by role (steps_of front) ++ bytes_by role l) (sym then_is) in
      let joined : (role : Role) → bytes role ++ bytes_by role (steps_of noted) ≡ (bytes role ++ bytes_by role (steps_of front)) ++ bytes_by role (steps_of back) =
      λ role. ap (λ (l : List ℕ). bytes role ++ l) (all role) ∙ sym (append_assoc (bytes role) (bytes_by role (steps_of front)) (bytes_by role (steps_of back))) in
      let whole : (role : Role) → total role ≡ ((bytes role ++ bytes_by role (steps_of front)) ++ bytes_by role (steps_of back)) ++ more role =
      λ role. split role ∙ ap (λ (l : List ℕ). l ++ more role) (joined role) in
      let a = before_well scene both.between front state before mid bytes (λ (role : Role). bytes_by role (steps_of back) ++ more role) (subst (λ (l : List WorldStep). one scene l both.between) (sym is) both.before) (λ role. (cut role).1) stand
      (λ role. whole role ∙ append_assoc (bytes role ++ bytes_by role (steps_of front)) (bytes_by role (steps_of back)) (more role)) in
      let b = behind_well both.between next back (λ (role : Role). state_after role (state role) (steps_of front)) mid after (λ (role : Role). bytes role ++ bytes_by role (steps_of front)) more
      (subst (λ (l : List WorldStep). two both.between l next) (sym then_is) both.behind) (λ role. (cut role).2) a.stand whole in
      record {
        well = subst GoWell (sym parts) (joined_well front back a.well b.well);
        stand = λ role. still role (side next role) (side next role) (after role) (after role) _ (bytes role ++ bytes_by role (steps_of noted)) refl refl (joined role) (b.stand role);
      }

  -- ---- what one end hears

  record OwnGoes (role : Role) (noted : List Noted) (next : Scene) (after : Option Standing) (bytes : List ℕ) : Type 0 where
    well : GoWell noted
    stand : StandsAt role (side next role) after (bytes ++ bytes_by role (steps_of noted))

  polled_well : (role : Role) (noted : List Noted) (state : State) (scene next : Scene) (before after : Option Standing) (bytes more : List ℕ) → IsPolledOut role scene (steps_of noted) next
      → ComesBy role (chooser role) (header role) state before noted after → StandsAt role (side scene role) before bytes → total role ≡ (bytes ++ bytes_by role (steps_of noted)) ++ more → OwnGoes role noted next after bytes
  polled_well role [] state scene next before after bytes more (idle, same) comes stand split = record {
    well = tt;
    stand = still role (side scene role) (side next role) before after bytes (bytes ++ []) (ap (λ (s : Scene). side s role) same) comes (append-nil bytes) stand;
  }
  polled_well role (one ∷ noted) state scene next before after bytes more (busy, makes, out) (mid, follows, comes) stand split =
      let its : List ℕ = bytes_heard (answers_in one.part) in
      let rest : List ℕ = bytes_by role (steps_of noted) in
      let all : bytes ++ bytes_by role (step_of one ∷ steps_of noted) ≡ (bytes ++ its) ++ rest =
      ap (λ (l : List ℕ). bytes ++ l) (bytes_own role (step_of one) (steps_of noted) makes.role) ∙ sym (append_assoc bytes its rest) in
      let whole : total role ≡ ((bytes ++ its) ++ rest) ++ more = split ∙ ap (λ (l : List ℕ). l ++ more) all in
      let (well, now) = poll_on (header role) (are role) (chooser role) (first role) (total role) (room role) (quiet role) role state scene one before mid bytes (rest ++ more) makes (busy_runs (side scene role) busy) stand follows
      (whole ∙ append_assoc (bytes ++ its) rest more) in
      let later = polled_well role noted (behind_if (same_role role one.role) state (step_of one)) (stepped scene (step_of one)) next mid after (bytes ++ its) more out comes now whole in
      record {
        well = (well, later.well);
        stand = still role (side next role) (side next role) after after ((bytes ++ its) ++ rest) (bytes ++ bytes_by role (step_of one ∷ steps_of noted)) refl refl all later.stand;
      }

  stand_fed : (role : Role) (what : Given) (scene : Scene) (before : Option Standing) (bytes : List ℕ) → StandsAt role (side scene role) before bytes → StandsAt role (side (fed scene role what) role) before bytes
  stand_fed role what scene before bytes s =
      still role (record (side scene role) { log = with_fed (side scene role).log what }) (side (fed scene role what) role) before before bytes bytes (fed_own role scene what) refl refl
      (record { spared = spared_fed (side scene role).log what s.spared; works = s.works; goes = s.goes })

  heard_well : (runs : Bool) (role : Role) (what : Given) (noted : List Noted) (state : State) (scene next : Scene) (before after : Option Standing) (bytes more : List ℕ) → HearsIf runs role what scene (steps_of noted) next
      → ComesBy role (chooser role) (header role) state before noted after → StandsAt role (side scene role) before bytes → total role ≡ (bytes ++ bytes_by role (steps_of noted)) ++ more → OwnGoes role noted next after bytes
  heard_well true role what noted state scene next before after bytes more out comes stand split =
      polled_well role noted state (fed scene role what) next before after bytes more out comes (stand_fed role what scene before bytes stand) split
  heard_well false role what noted state scene next before after bytes more (none, same) comes stand split = record {
    well = well_none noted none;
    stand = still role (side scene role) (side next role) before after bytes (bytes ++ bytes_by role (steps_of noted)) (ap (λ (s : Scene). side s role) same)
        (no_steps role (chooser role) (header role) state before after noted none comes) (none_heard bytes (bytes_by role (steps_of noted)) (ap (bytes_by role) none)) stand;
  }

  well_hears : (role : Role) (what : Given) → Well (Hears role what)
  well_hears role what scene next noted state before after bytes more goes come stand split =
      let runs : Bool = (side scene role).runs in
      let far : Role = other role in
      let own = heard_well runs role what noted (state role) scene next (before role) (after role) (bytes role) (more role) goes (come role) (stand role) (split role) in
      record {
        well = own.well;
        stand = each_role (λ (r : Role). StandsAt r (side next r) (after r) (bytes r ++ bytes_by r (steps_of noted))) role own.stand
            (still far (side scene far) (side next far) (before far) (after far) (bytes far) (bytes far ++ bytes_by far (steps_of noted)) (heard_beside runs role what noted scene next goes)
            (hears_apart runs role far (chooser far) (header far) (apart_roles role far refl) what noted (state far) scene next (before far) (after far) goes (come far))
            (none_heard (bytes far) (bytes_by far (steps_of noted)) (heard_silent runs role what noted scene next goes)) (stand far));
      }

  -- ---- rounds

  well_waiting : (waiting : List (Role × List ℕ)) (course : Course) → Well course → Well (λ (scene : Scene). course (with_waiting scene waiting))
  well_waiting waiting course well scene next noted state before after bytes more goes come stand split =
      well (with_waiting scene waiting) next noted state before after bytes more goes come
      (λ role. still role (side scene role) (side (with_waiting scene waiting) role) (before role) (before role) (bytes role) (bytes role) (waits_not role scene waiting) refl refl (stand role)) split

  well_delivers_of : (waiting : List (Role × List ℕ)) → Well (DeliversOf waiting unchanged)
  well_delivers_of [] = well_nothing
  well_delivers_of (one ∷ waiting) = well_waiting waiting (Hears one.0 (given.Bytes one.1)) (well_hears one.0 (given.Bytes one.1))

  well_delivers : Well (Delivers unchanged)
  well_delivers scene next noted state before after bytes more goes come stand split = well_delivers_of scene.waiting scene next noted state before after bytes more goes come stand split

  well_round_of : (waiting : List (Role × List ℕ)) → Well (IsRoundOf waiting)
  well_round_of [] = well_then (Hears Supplier (given.Quiet 1)) (Hears Receiver (given.Quiet 1)) (well_hears Supplier (given.Quiet 1)) (well_hears Receiver (given.Quiet 1))
  well_round_of (one ∷ waiting) = well_delivers

  well_round : Well IsRound
  well_round scene next noted state before after bytes more goes come stand split = well_round_of scene.waiting scene next noted state before after bytes more goes come stand split

  well_rounds : (n : ℕ) → Well (AreRounds n)
  well_rounds zero scene next noted state before after bytes more (off, goes) come stand split = well_nothing scene next noted state before after bytes more goes come stand split
  well_rounds (suc n) scene next noted state before after bytes more (on, goes) come stand split = well_then IsRound (AreRounds n) well_round (well_rounds n) scene next noted state before after bytes more goes come stand split

  pub well_exchanges : Well Exchanges
  well_exchanges scene next noted state before after bytes more (n, goes) come stand split = well_rounds n scene next noted state before after bytes more goes come stand split
