-- What the openings of a clean event find: the images that were left behind its unplugging.
use Rattle.std.proofs.Common.{◌≡◌, ℕ, zero, suc, Bool, true, false, if◌then◌else◌, List, [], ◌∷◌, ◌++◌, Option, Some, None, refl, sym, ◌∙◌, ap, subst}
use Rattle.std.specs.Prelude.{⊤}
use Rattle.dsd_values.specs.declared.role.Role.{Role}
use Rattle.dsd_values.specs.declared.role.Role.TheVariants.{Receiver, Supplier}
use Rattle.dsd_station.specs.declared.call.Call.{Call}
use Rattle.dsd_station.specs.declared.call.Call.TheVariants.{Attach, Size, Read, Write, Sync, Listen, Speak, Restart}
use Rattle.dsd_station.specs.declared.call.Outcome.{Outcome}
use Rattle.dsd_station.specs.declared.call.Outcome.TheVariants.{Done, Failing, Stopped}
use Rattle.dsd_station.specs.declared.feeding.Given.{Given}
use Rattle.dsd_station.specs.declared.feeding.Given.TheVariants as given
use Rattle.dsd_station.specs.Replayed.{State, image_or, replay, restarted, step}
use Rattle.cable_world.specs.Leaving.{behind_if, image_left, recorded, state_after, state_behind}
use Rattle.cable_world.specs.Living.{AreCallsOf, CallSo, is_opening}
use Rattle.cable_world.specs.Obeying.{AreRounds, Course, DeliversOf, Exchanges, Hears, HearsIf, IsFirstPolled, IsPolledIf, IsPolledOut, IsRound, IsRoundOf, Nothing, Plays, Starts, StartsIf, Then, Unplugs, unchanged}
use Rattle.cable_world.specs.Scenes.{Scene, fed, side, stepped, with_waiting}
use Rattle.cable_world.specs.Scenes as scenes
use Rattle.cable_world.specs.Steps.{Opening, Poll, StepKind, WorldStep, same_role}
use Rattle.cable_world.specs.declared.event.Event.TheVariants.{Clean}

-- ---- an opening reads the image that was left

sync_reads : (state : State) (outcome : Outcome) → (step state (Sync outcome)).journal ≡ state.journal
sync_reads state Done = refl
sync_reads state Failing = refl
sync_reads state (Stopped pick) = refl

calls_read : (state : State) (part : List Call) → AreCallsOf Opening part → (replay state part).journal ≡ state.journal
calls_read state [] may = refl
calls_read state (Attach journal port answer ∷ part) may = absurd may.0
calls_read state (Size answer ∷ part) may = calls_read (step state (Size answer)) part may.1
calls_read state (Read at room answer ∷ part) may = calls_read (step state (Read at room answer)) part may.1
calls_read state (Write at bytes outcome ∷ part) may = absurd may.0
calls_read state (Sync outcome ∷ part) may = calls_read (step state (Sync outcome)) part may.1 ∙ sync_reads state outcome
calls_read state (Listen answer ∷ part) may = absurd may.0
calls_read state (Speak bytes outcome ∷ part) may = absurd may.0
calls_read state (Restart ∷ part) may = absurd may.0

restart_reads : (state : State) → (step state Restart).journal ≡ image_left state
restart_reads state = by state.left
  where
    by : (left : Option (List ℕ)) → (restarted state left).journal ≡ image_or left state.journal
    by None = refl
    by (Some image) = refl

pub opening_reads : (state : State) (one : WorldStep) → one.kind ≡ Opening → AreCallsOf one.kind one.part → (state_behind state one).journal ≡ image_left state
opening_reads state one kind calls =
    let all : recorded one ≡ Restart ∷ one.part = ap (λ (k : StepKind). if is_opening k then Restart ∷ one.part else one.part) kind in
    ap (λ (l : List Call). (replay state l).journal) all ∙ calls_read (step state Restart) one.part (subst (λ (k : StepKind). AreCallsOf k one.part) kind calls) ∙ restart_reads state

pub calls_at : (before rest : List WorldStep) (one : WorldStep) → CallSo (before ++ one ∷ rest) → AreCallsOf one.kind one.part
calls_at [] rest one calls = calls.0
calls_at (first ∷ before) rest one calls = calls_at before rest one calls.1

-- ---- what openings find

-- each opening of this end finds this image
abbrev pub FindsEach : Role → List ℕ → State → List WorldStep → Type 0
FindsEach role left state [] = ⊤
FindsEach role left state (one ∷ steps) = (same_role role one.role ≡ true → one.kind ≡ Opening → image_left state ≡ left) × FindsEach role left (behind_if (same_role role one.role) state one) steps

pub same_self : (role : Role) → same_role role role ≡ true
same_self Supplier = refl
same_self Receiver = refl

pub found : (role : Role) (left : List ℕ) (before rest : List WorldStep) (opening : WorldStep) (state : State) → FindsEach role left state (before ++ opening ∷ rest) → opening.role ≡ role → opening.kind ≡ Opening
    → image_left (state_after role state before) ≡ left
found role left [] rest opening state finds own kind = finds.0 (ap (same_role role) own ∙ same_self role) kind
found role left (one ∷ before) rest opening state finds own kind = found role left before rest opening (behind_if (same_role role one.role) state one) finds.1 own kind

finds_both : (role : Role) (left : List ℕ) (state : State) (a b : List WorldStep) → FindsEach role left state a → FindsEach role left (state_after role state a) b → FindsEach role left state (a ++ b)
finds_both role left state [] b first more = more
finds_both role left state (one ∷ a) b first more = (first.0, finds_both role left (behind_if (same_role role one.role) state one) a b first.1 more)

-- ---- steps without an opening of this end

abbrev NoneOpens : Role → List WorldStep → Type 0
NoneOpens role [] = ⊤
NoneOpens role (one ∷ steps) = (same_role role one.role ≡ true → one.kind ≡ Opening → ⊥) × NoneOpens role steps

none_finds : (role : Role) (left : List ℕ) (state : State) (steps : List WorldStep) → NoneOpens role steps → FindsEach role left state steps
none_finds role left state [] none = tt
none_finds role left state (one ∷ steps) none = ((λ own kind. absurd (none.0 own kind)), none_finds role left (behind_if (same_role role one.role) state one) steps none.1)

none_both : (role : Role) (a b : List WorldStep) → NoneOpens role a → NoneOpens role b → NoneOpens role (a ++ b)
none_both role [] b none more = more
none_both role (one ∷ a) b none more = (none.0, none_both role a b none.1 more)

poll_not : (kind : StepKind) → kind ≡ Poll → kind ≡ Opening → ⊥
poll_not kind poll opening = let no : false ≡ true = ap is_opening (sym poll ∙ opening) in absurd (cc)

abbrev Spares : Role → Course → Type 0
Spares role course = (scene : Scene) (made : List WorldStep) (next : Scene) → course scene made next → NoneOpens role made

module _ (role : Role) where
  nothing_spares : Spares role Nothing
  nothing_spares scene made next (none, same) = subst (NoneOpens role) (sym none) tt

  then_spares : (one two : Course) → Spares role one → Spares role two → Spares role (Then one two)
  then_spares one two first more scene made next c =
      subst (NoneOpens role) (sym c.joined) (none_both role c.first c.rest (first scene c.first c.between c.before) (more c.between c.rest next c.behind))

  polled_spares : (who : Role) → Spares role (IsPolledOut who)
  polled_spares who scene [] next out = tt
  polled_spares who scene (one ∷ made) next (busy, makes, out) = ((λ own kind. poll_not one.kind makes.kind kind), polled_spares who (stepped scene one) made next out)

  hears_if_spares : (runs : Bool) (who : Role) (what : Given) → Spares role (HearsIf runs who what)
  hears_if_spares true who what scene made next c = polled_spares who (fed scene who what) made next c
  hears_if_spares false who what scene made next c = nothing_spares scene made next c

  hears_spares : (who : Role) (what : Given) → Spares role (Hears who what)
  hears_spares who what scene made next c = hears_if_spares (side scene who).runs who what scene made next c

  unplugs_spares : Spares role Unplugs
  unplugs_spares scene made next c =
      then_spares (Hears Supplier given.Unplugged) (Hears Receiver given.Unplugged) (hears_spares Supplier given.Unplugged) (hears_spares Receiver given.Unplugged) (with_waiting scene []) made next c

  round_spares : (waiting : List (Role × List ℕ)) → Spares role (IsRoundOf waiting)
  round_spares [] scene made next c = then_spares (Hears Supplier (given.Quiet 1)) (Hears Receiver (given.Quiet 1)) (hears_spares Supplier (given.Quiet 1)) (hears_spares Receiver (given.Quiet 1)) scene made next c
  round_spares (one ∷ waiting) scene made next c = delivers_spares scene.waiting scene made next c
    where
      delivers_spares : (waits : List (Role × List ℕ)) → Spares role (DeliversOf waits unchanged)
      delivers_spares [] scene made next c = nothing_spares scene made next c
      delivers_spares (first ∷ more) scene made next c = hears_spares first.0 (given.Bytes first.1) (with_waiting scene more) made next c

  rounds_spare : (n : ℕ) → Spares role (AreRounds n)
  rounds_spare zero scene made next c = nothing_spares scene made next c.1
  rounds_spare (suc n) scene made next c = then_spares IsRound (AreRounds n) (λ at steps there round. round_spares at.waiting at steps there round) (rounds_spare n) scene made next c.1

  exchanges_spare : Spares role Exchanges
  exchanges_spare scene made next (n, rounds) = rounds_spare n scene made next rounds

  -- ---- an end that is started

  polled_if_spares : (runs : Bool) → Spares role (IsPolledIf runs Supplier)
  polled_if_spares true scene made next (one, only, makes, same) = subst (NoneOpens role) (sym only) ((λ own kind. poll_not one.kind makes.kind kind), tt)
  polled_if_spares false scene made next c = nothing_spares scene made next c

  first_polled_spares : (who : Role) → Spares role (IsFirstPolled who)
  first_polled_spares Receiver scene made next c = nothing_spares scene made next c
  first_polled_spares Supplier scene made next c = polled_if_spares scene.supplier.runs scene made next c

  -- it finds the image that was left, whichever end it is
  starts_if_finds : (runs : Bool) (who : Role) (scene : Scene) (made : List WorldStep) (next : Scene) (state : State) → StartsIf runs who scene made next → FindsEach role (image_left state) state made
  starts_if_finds true who scene made next state c = none_finds role (image_left state) state made (nothing_spares scene made next c)
  starts_if_finds false who scene [] next state c = absurd c
  starts_if_finds false who scene (one ∷ made) next state (makes, more) = (
    (λ own kind. refl),
    none_finds role (image_left state) (behind_if (same_role role one.role) state one) made (first_polled_spares who (stepped (scenes.restarted scene who) one) made next more),
  )

  starts_finds : (who : Role) (scene : Scene) (made : List WorldStep) (next : Scene) (state : State) → Starts who scene made next → FindsEach role (image_left state) state made
  starts_finds who scene made next state c = starts_if_finds (side scene who).runs who scene made next state c

  -- ---- steps of the other end

  abbrev AreApart : List WorldStep → Type 0
  AreApart [] = ⊤
  AreApart (one ∷ steps) = (same_role role one.role ≡ false) × AreApart steps

  apart_spares : (steps : List WorldStep) → AreApart steps → NoneOpens role steps
  apart_spares [] apart = tt
  apart_spares (one ∷ steps) apart = ((λ own kind. let not = apart.0 in absurd (cc)), apart_spares steps apart.1)

  apart_stays : (steps : List WorldStep) (state : State) → AreApart steps → state_after role state steps ≡ state
  apart_stays [] state apart = refl
  apart_stays (one ∷ steps) state apart =
      ap (λ (b : Bool). state_after role (behind_if b state one) steps) apart.0 ∙ apart_stays steps state apart.1

  polled_if_apart : (runs : Bool) (scene : Scene) (made : List WorldStep) (next : Scene) → same_role role Supplier ≡ false → IsPolledIf runs Supplier scene made next → AreApart made
  polled_if_apart true scene made next not (one, only, makes, same) = subst AreApart (sym only) (ap (same_role role) makes.role ∙ not, tt)
  polled_if_apart false scene made next not (none, same) = subst AreApart (sym none) tt

  first_polled_apart : (who : Role) (scene : Scene) (made : List WorldStep) (next : Scene) → same_role role who ≡ false → IsFirstPolled who scene made next → AreApart made
  first_polled_apart Receiver scene made next not (none, same) = subst AreApart (sym none) tt
  first_polled_apart Supplier scene made next not c = polled_if_apart scene.supplier.runs scene made next not c

  starts_if_apart : (runs : Bool) (who : Role) (scene : Scene) (made : List WorldStep) (next : Scene) → same_role role who ≡ false → StartsIf runs who scene made next → AreApart made
  starts_if_apart true who scene made next not (none, same) = subst AreApart (sym none) tt
  starts_if_apart false who scene [] next not c = absurd c
  starts_if_apart false who scene (one ∷ made) next not (makes, more) =
      (ap (same_role role) makes.role ∙ not, first_polled_apart who (stepped (scenes.restarted scene who) one) made next not more)

  starts_apart : (who : Role) (scene : Scene) (made : List WorldStep) (next : Scene) → same_role role who ≡ false → Starts who scene made next → AreApart made
  starts_apart who scene made next not c = starts_if_apart (side scene who).runs who scene made next not c

-- ---- a clean event

-- behind the unplugging
starts_find : (role : Role) (scene : Scene) (steps : List WorldStep) (next : Scene) (state : State) → Then (Starts Receiver) (Then (Starts Supplier) Exchanges) scene steps next
    → FindsEach role (image_left state) state steps
starts_find Receiver scene steps next state opens =
    let begun = opens.behind in
    let left : List ℕ = image_left state in
    let beside = apart_spares Receiver begun.first (starts_apart Receiver Supplier opens.between begun.first begun.between refl begun.before) in
    let none = subst (NoneOpens Receiver) (sym begun.joined) (none_both Receiver begun.first begun.rest beside (exchanges_spare Receiver begun.between begun.rest next begun.behind)) in
    subst (FindsEach Receiver left state) (sym opens.joined)
    (finds_both Receiver left state opens.first opens.rest (starts_finds Receiver Receiver scene opens.first opens.between state opens.before) (none_finds Receiver left (state_after Receiver state opens.first) opens.rest none))
starts_find Supplier scene steps next state opens =
    let begun = opens.behind in
    let left : List ℕ = image_left state in
    let beside = starts_apart Supplier Receiver scene opens.first opens.between refl opens.before in
    let still : state_after Supplier state opens.first ≡ state = apart_stays Supplier opens.first state beside in
    let here = starts_finds Supplier Supplier opens.between begun.first begun.between state begun.before in
    let none = none_finds Supplier left (state_after Supplier state begun.first) begun.rest (exchanges_spare Supplier begun.between begun.rest next begun.behind) in
    let there : FindsEach Supplier left state opens.rest = subst (FindsEach Supplier left state) (sym begun.joined) (finds_both Supplier left state begun.first begun.rest here none) in
    subst (FindsEach Supplier left state) (sym opens.joined)
    (finds_both Supplier left state opens.first opens.rest (none_finds Supplier left state opens.first (apart_spares Supplier opens.first beside)) (subst (λ (s : State). FindsEach Supplier left s opens.rest) (sym still) there))

pub clean_finds : (role : Role) (scene : Scene) (steps : List WorldStep) (next : Scene) (state : State) → (plays : Plays Clean scene steps next) → FindsEach role (image_left (state_after role state plays.first)) state steps
clean_finds role scene steps next state plays =
    let left : List ℕ = image_left (state_after role state plays.first) in
    subst (FindsEach role left state) (sym plays.joined)
    (finds_both role left state plays.first plays.rest (none_finds role left state plays.first (unplugs_spares role scene plays.first plays.between plays.before))
    (starts_find role plays.between plays.rest next (state_after role state plays.first) plays.behind))
