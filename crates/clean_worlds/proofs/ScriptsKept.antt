-- Between the events of a script each running end has taken all that it was fed, and its station works.
use Rattle.std.proofs.Common.{◌≡◌, ℕ, zero, suc, ◌-◌, Bool, true, false, List, [], ◌∷◌, Option, Some, None, refl, sym, ◌∙◌, ap, subst}
use Rattle.std.specs.Prelude.{slice_get}
use Rattle.dsd_values.specs.declared.role.Role.{Role}
use Rattle.dsd_values.specs.declared.role.Role.TheVariants.{Receiver, Supplier}
use Rattle.dsd_record.specs.Choices.{Chooser}
use Rattle.dsd_station.specs.declared.feeding.Given.{Given}
use Rattle.dsd_station.specs.declared.feeding.Given.TheVariants as given
use Rattle.dsd_station.specs.declared.call.Pick.{Pick}
use Rattle.dsd_station.specs.Logged.{Log}
use Rattle.dsd_station.specs.Plans.{with_failure, with_stop}
use Rattle.dsd_station.specs.Replayed.{State}
use Rattle.dsd_journal.specs.declared.header.Header.{Header}
use Rattle.dex_line.specs.Occurrence.{broken}
use Rattle.dsd_end.specs.Standings.{Standing}
use Rattle.cable_world.specs.Diligence.{ComesBy}
use Rattle.cable_world.specs.Leaving.{behind_if, state_after}
use Rattle.cable_world.specs.Noted.{Noted, step_of, steps_of}
use Rattle.cable_world.specs.Obeying.{AreRounds, Course, Delivers, DeliversOf, Exchanges, Hears, HearsAgain, HearsIf, IsPolledIf, IsRound, IsRoundOf, Nothing, Obeys, Opens, Plays, Starts, StartsIf, Then, Times, Unplugs, first_scene, unchanged, without_first}
use Rattle.cable_world.specs.Scenes.{Scene, Side, fed, restarted, side, stepped, with_log, with_waiting}
use Rattle.cable_world.specs.Steps.{WorldStep, other, same_role}
use Rattle.cable_world.specs.declared.event.Event.{Event}
use Rattle.cable_world.specs.declared.event.Event.TheVariants.{Start, Pass, Lose, Break, Again, Quiet, Unplug, Hear, Stop, Fail, Clean}
use Rattle.clean_worlds.specs.WorldHalls.{BothCome}
use Rattle.clean_worlds.proofs.NotedParts.{split_comes, split_steps}
use Rattle.clean_worlds.proofs.Opened.{opened_apart}
use Rattle.clean_worlds.proofs.RoundsClean.{apart_roles, follows_other, hears_apart, waits_not}
use Rattle.clean_worlds.proofs.RunningKept.{GoesIfRunning, RunningGo, heard_on, polled_beside, receiver_hears, supplier_hears}
use Rattle.clean_worlds.proofs.SessionPlayed.{no_steps}
use Rattle.clean_worlds.proofs.Stepped.{fed_other, stepped_other}

-- ---- the other end

pub each_role : (P : Role → Type 0) (role : Role) → P role → P (other role) → (each : Role) → P each
each_role P Supplier own others Supplier = own
each_role P Supplier own others Receiver = others
each_role P Receiver own others Supplier = others
each_role P Receiver own others Receiver = own

hears_as : (before after : Option Standing) (old new : Side) → after ≡ before → new ≡ old → GoesIfRunning before old → GoesIfRunning after new
hears_as before after old new stands same hears = subst (λ (s : Side). GoesIfRunning after s) (sym same) (subst (λ (s : Option Standing). GoesIfRunning s old) (sym stands) hears)

pub heard_beside : (runs : Bool) (role : Role) (what : Given) (noted : List Noted) (scene next : Scene) → HearsIf runs role what scene (steps_of noted) next → side next (other role) ≡ side scene (other role)
heard_beside true role what noted scene next out = polled_beside role noted (fed scene role what) next out ∙ fed_other role scene what
heard_beside false role what noted scene next (none, same) = ap (λ (s : Scene). side s (other role)) same

-- a world begins with no end that runs
pub hears_first : (supplier receiver : Log) (standing : Role → Option Standing) → RunningGo standing (first_scene supplier receiver)
hears_first supplier receiver standing Supplier on = absurd (cc)
hears_first supplier receiver standing Receiver on = absurd (cc)

module _ (chooser : Role → Chooser) (header : Role → Header) (is_supplier : (header Supplier).role ≡ Supplier) (is_receiver : (header Receiver).role ≡ Receiver) where
  -- running ends that can go on before it can go on behind it
  abbrev pub Keeps : Course → Type 0
  Keeps course =
      (scene next : Scene) (noted : List Noted) (state : Role → State) (before after : Role → Option Standing) → course scene (steps_of noted) next → BothCome chooser header state before noted after
      → RunningGo before scene → RunningGo after next

  keeps_nothing : Keeps Nothing
  keeps_nothing scene next noted state before after (none, same) come hear role =
      hears_as (before role) (after role) (side scene role) (side next role) (no_steps role (chooser role) (header role) (state role) (before role) (after role) noted none (come role)) (ap (λ (s : Scene). side s role) same) (hear role)

  keeps_then : (one two : Course) → Keeps one → Keeps two → Keeps (Then one two)
  keeps_then one two first rest scene next noted state before after both come hear =
      let (front, back, parts, is, then_is) = split_steps both.first both.rest noted both.joined in
      let cut = λ (role : Role). split_comes role (chooser role) (header role) front back (state role) (before role) (after role)
      (subst (λ (l : List Noted). ComesBy role (chooser role) (header role) (state role) (before role) l (after role)) parts (come role)) in
      let mid : Role → Option Standing = λ (role : Role). (cut role).0 in
      rest both.between next back (λ (role : Role). state_after role (state role) (steps_of front)) mid after (subst (λ (l : List WorldStep). two both.between l next) (sym then_is) both.behind) (λ role. (cut role).2)
      (first scene both.between front state before mid (subst (λ (l : List WorldStep). one scene l both.between) (sym is) both.before) (λ role. (cut role).1) hear)

  keeps_times : (n : ℕ) (one : Course) → Keeps one → Keeps (Times n one)
  keeps_times zero one keeps = keeps_nothing
  keeps_times (suc n) one keeps = keeps_then one (Times n one) keeps (keeps_times n one keeps)

  -- a change of the scene that leaves both ends as they are
  keeps_change : (change : Scene → Scene) → ((scene : Scene) (role : Role) (standing : Option Standing) → GoesIfRunning standing (side scene role) → GoesIfRunning standing (side (change scene) role))
      → (course : Course) → Keeps course → Keeps (λ (scene : Scene). course (change scene))
  keeps_change change same course keeps scene next noted state before after goes come hear = keeps (change scene) next noted state before after goes come (λ role. same scene role (before role) (hear role))

  waits_same : (waiting : Scene → List (Role × List ℕ)) (scene : Scene) (role : Role) (standing : Option Standing) → GoesIfRunning standing (side scene role) → GoesIfRunning standing (side (with_waiting scene (waiting scene)) role)
  waits_same waiting scene role standing hears = subst (GoesIfRunning standing) (sym (waits_not role scene (waiting scene))) hears

  -- ---- what an end does

  keeps_hears : (role : Role) (what : Given) → Keeps (Hears role what)
  keeps_hears role what scene next noted state before after goes come hear =
      each_role (λ (r : Role). GoesIfRunning (after r) (side next r)) role
      (heard_on (side scene role).runs role what (chooser role) (header role) noted (state role) scene next (before role) (after role) (hear role) goes (come role))
      (hears_as (before (other role)) (after (other role)) (side scene (other role)) (side next (other role))
      (hears_apart (side scene role).runs role (other role) (chooser (other role)) (header (other role)) (apart_roles role (other role) refl) what noted (state (other role)) scene next (before (other role)) (after (other role)) goes
      (come (other role))) (heard_beside (side scene role).runs role what noted scene next goes) (hear (other role)))

  receiver_beside : (noted : List Noted) (state : State) (scene next : Scene) (before after : Option Standing) → Opens Receiver (restarted scene Receiver) (steps_of noted) next
      → ComesBy Supplier (chooser Supplier) (header Supplier) state before noted after → (after ≡ before) × (side next Supplier ≡ side scene Supplier)
  receiver_beside [] state scene next before after opens comes = absurd opens
  receiver_beside (one ∷ more ∷ noted) state scene next before after (makes, (none, same)) comes = absurd (cc)
  receiver_beside (one ∷ []) state scene next before after (makes, (none, same)) (mid, follows, comes) = (
    comes ∙ follows_other Supplier (chooser Supplier) (header Supplier) state one Receiver before mid makes.role refl follows,
    ap (λ (s : Scene). side s Supplier) same ∙ opened_apart Receiver scene one makes.role,
  )

  first_beside : (runs : Bool) (noted : List Noted) (state : State) (scene next : Scene) (before after : Option Standing) → IsPolledIf runs Supplier scene (steps_of noted) next
      → ComesBy Receiver (chooser Receiver) (header Receiver) state before noted after → (after ≡ before) × (side next Receiver ≡ side scene Receiver)
  first_beside false noted state scene next before after (none, same) comes =
      (no_steps Receiver (chooser Receiver) (header Receiver) state before after noted none comes, ap (λ (s : Scene). side s Receiver) same)
  first_beside true [] state scene next before after (step, only, polls, same) comes = absurd (cc)
  first_beside true (two ∷ more ∷ noted) state scene next before after (step, only, polls, same) comes = absurd (cc)
  first_beside true (two ∷ []) state scene next before after (step, only, polls, same) (mid, follows, comes) =
      let is : step_of two ≡ step = cc in (
        comes ∙ follows_other Receiver (chooser Receiver) (header Receiver) state two Supplier before mid (ap (λ (s : WorldStep). s.role) is ∙ polls.role) refl follows,
        ap (λ (s : Scene). side s Receiver) same ∙ stepped_other Supplier scene step polls.role,
      )

  supplier_beside : (noted : List Noted) (state : State) (scene next : Scene) (before after : Option Standing) → Opens Supplier (restarted scene Supplier) (steps_of noted) next
      → ComesBy Receiver (chooser Receiver) (header Receiver) state before noted after → (after ≡ before) × (side next Receiver ≡ side scene Receiver)
  supplier_beside [] state scene next before after opens comes = absurd opens
  supplier_beside (one ∷ noted) state scene next before after (makes, first) (mid, follows, comes) =
      let new : Scene = stepped (restarted scene Supplier) (step_of one) in
      let (stays, same) = first_beside (side new Supplier).runs noted (behind_if (same_role Receiver one.role) state (step_of one)) new next mid after first comes in
      (stays ∙ follows_other Receiver (chooser Receiver) (header Receiver) state one Supplier before mid makes.role refl follows, same ∙ opened_apart Supplier scene one makes.role)

  keeps_starts_if : (runs : Bool) (role : Role) → Keeps (StartsIf runs role)
  keeps_starts_if true role scene next noted state before after goes come hear = keeps_nothing scene next noted state before after goes come hear
  keeps_starts_if false Receiver scene next noted state before after opens come hear =
      let (stays, same) = receiver_beside noted (state Supplier) scene next (before Supplier) (after Supplier) opens (come Supplier) in
      each_role (λ (r : Role). GoesIfRunning (after r) (side next r)) Receiver
      (receiver_hears (chooser Receiver) (header Receiver) is_receiver noted (state Receiver) scene next (before Receiver) (after Receiver) opens (come Receiver))
      (hears_as (before Supplier) (after Supplier) (side scene Supplier) (side next Supplier) stays same (hear Supplier))
  keeps_starts_if false Supplier scene next noted state before after opens come hear =
      let (stays, same) = supplier_beside noted (state Receiver) scene next (before Receiver) (after Receiver) opens (come Receiver) in
      each_role (λ (r : Role). GoesIfRunning (after r) (side next r)) Supplier
      (supplier_hears (chooser Supplier) (header Supplier) is_supplier noted (state Supplier) scene next (before Supplier) (after Supplier) opens (come Supplier))
      (hears_as (before Receiver) (after Receiver) (side scene Receiver) (side next Receiver) stays same (hear Receiver))

  keeps_starts : (role : Role) → Keeps (Starts role)
  keeps_starts role scene next noted state before after goes come hear = keeps_starts_if (side scene role).runs role scene next noted state before after goes come hear

  -- ---- frames

  keeps_delivers_of : (waiting : List (Role × List ℕ)) (change : List ℕ → List ℕ) → Keeps (DeliversOf waiting change)
  keeps_delivers_of [] change = keeps_nothing
  keeps_delivers_of (one ∷ waiting) change = keeps_change (λ (s : Scene). with_waiting s waiting) (waits_same (λ (s : Scene). waiting)) (Hears one.0 (given.Bytes (change one.1))) (keeps_hears one.0 (given.Bytes (change one.1)))

  keeps_delivers : (change : List ℕ → List ℕ) → Keeps (Delivers change)
  keeps_delivers change scene next noted state before after goes come hear = keeps_delivers_of scene.waiting change scene next noted state before after goes come hear

  keeps_again : (frame : Option (List ℕ)) (role : Role) → Keeps (HearsAgain frame role)
  keeps_again None role = keeps_nothing
  keeps_again (Some frame) role = keeps_hears role (given.Bytes frame)

  keeps_unplugs : Keeps Unplugs
  keeps_unplugs =
      keeps_change (λ (s : Scene). with_waiting s []) (waits_same (λ (s : Scene). [])) (Then (Hears Supplier given.Unplugged) (Hears Receiver given.Unplugged))
      (keeps_then (Hears Supplier given.Unplugged) (Hears Receiver given.Unplugged) (keeps_hears Supplier given.Unplugged) (keeps_hears Receiver given.Unplugged))

  keeps_round_of : (waiting : List (Role × List ℕ)) → Keeps (IsRoundOf waiting)
  keeps_round_of [] = keeps_then (Hears Supplier (given.Quiet 1)) (Hears Receiver (given.Quiet 1)) (keeps_hears Supplier (given.Quiet 1)) (keeps_hears Receiver (given.Quiet 1))
  keeps_round_of (one ∷ waiting) = keeps_delivers unchanged

  keeps_round : Keeps IsRound
  keeps_round scene next noted state before after goes come hear = keeps_round_of scene.waiting scene next noted state before after goes come hear

  keeps_rounds : (n : ℕ) → Keeps (AreRounds n)
  keeps_rounds zero scene next noted state before after (off, goes) come hear = keeps_nothing scene next noted state before after goes come hear
  keeps_rounds (suc n) scene next noted state before after (on, goes) come hear = keeps_then IsRound (AreRounds n) keeps_round (keeps_rounds n) scene next noted state before after goes come hear

  keeps_exchanges : Keeps Exchanges
  keeps_exchanges scene next noted state before after (n, goes) come hear = keeps_rounds n scene next noted state before after goes come hear

  -- ---- the events

  stop_same : (n : ℕ) (pick : Pick) (role : Role) (scene : Scene) (each : Role) (standing : Option Standing) → GoesIfRunning standing (side scene each) → GoesIfRunning standing (side (with_log scene role (with_stop (side scene role).log n pick)) each)
  stop_same n pick Supplier scene Supplier standing hears on = let (now, is, can) = hears on in (now, is, record { can = record { later = can.can.later; fed = can.can.fed; taken = can.can.taken }; works = can.works })
  stop_same n pick Supplier scene Receiver standing hears on = hears on
  stop_same n pick Receiver scene Supplier standing hears on = hears on
  stop_same n pick Receiver scene Receiver standing hears on = let (now, is, can) = hears on in (now, is, record { can = record { later = can.can.later; fed = can.can.fed; taken = can.can.taken }; works = can.works })

  fail_same : (n : ℕ) (role : Role) (scene : Scene) (each : Role) (standing : Option Standing) → GoesIfRunning standing (side scene each) → GoesIfRunning standing (side (with_log scene role (with_failure (side scene role).log n)) each)
  fail_same n Supplier scene Supplier standing hears on = let (now, is, can) = hears on in (now, is, record { can = record { later = can.can.later; fed = can.can.fed; taken = can.can.taken }; works = can.works })
  fail_same n Supplier scene Receiver standing hears on = hears on
  fail_same n Receiver scene Supplier standing hears on = hears on
  fail_same n Receiver scene Receiver standing hears on = let (now, is, can) = hears on in (now, is, record { can = record { later = can.can.later; fed = can.can.fed; taken = can.can.taken }; works = can.works })

  keeps_event : (event : Event) → Keeps (Plays event)
  keeps_event (Start role) = keeps_starts role
  keeps_event (Pass n) = keeps_times n (Delivers unchanged) (keeps_delivers unchanged)
  keeps_event Lose = keeps_change (λ (s : Scene). with_waiting s (without_first s.waiting)) (waits_same (λ (s : Scene). without_first s.waiting)) Nothing keeps_nothing
  keeps_event Break = keeps_delivers broken
  keeps_event (Again role k) = λ scene next noted state before after goes come hear. keeps_again (slice_get (side scene (other role)).spoken (k - 1)) role scene next noted state before after goes come hear
  keeps_event (Quiet role n) = keeps_times n (Hears role (given.Quiet 1)) (keeps_hears role (given.Quiet 1))
  keeps_event Unplug = keeps_unplugs
  keeps_event (Hear role bytes) = keeps_hears role (given.Bytes bytes)
  keeps_event (Stop role n pick) = keeps_change (λ (s : Scene). with_log s role (with_stop (side s role).log n pick)) (stop_same n pick role) Nothing keeps_nothing
  keeps_event (Fail role n) = keeps_change (λ (s : Scene). with_log s role (with_failure (side s role).log n)) (fail_same n role) Nothing keeps_nothing
  keeps_event Clean =
      keeps_then Unplugs (Then (Starts Receiver) (Then (Starts Supplier) Exchanges)) keeps_unplugs
      (keeps_then (Starts Receiver) (Then (Starts Supplier) Exchanges) (keeps_starts Receiver) (keeps_then (Starts Supplier) Exchanges (keeps_starts Supplier) keeps_exchanges))

  pub keeps_script : (events : List Event) → Keeps (Obeys events)
  keeps_script [] = keeps_nothing
  keeps_script (event ∷ events) = keeps_then (Plays event) (Obeys events) (keeps_event event) (keeps_script events)
