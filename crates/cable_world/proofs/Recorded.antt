-- The record of each station is what its steps added, one behind the other.
use Rattle.std.proofs.Common.{◌≡◌, ℕ, zero, suc, ◌-◌, Bool, true, false, List, [], ◌∷◌, ◌++◌, refl, sym, ◌∙◌, ap, subst, append_assoc, append-nil, if◌then◌else◌, Option, Some, None}
use Rattle.std.specs.Prelude.{slice_get}
use Rattle.dsd_values.specs.declared.role.Role.{Role}
use Rattle.dsd_values.specs.declared.role.Role.TheVariants.{Receiver, Supplier}
use Rattle.dsd_station.specs.declared.call.Call.{Call}
use Rattle.dsd_station.specs.declared.call.Call.TheVariants.{Restart}
use Rattle.dsd_station.specs.declared.call.Pick.{Pick}
use Rattle.dsd_station.specs.declared.feeding.Given.{Given}
use Rattle.dsd_station.specs.declared.feeding.Given.TheVariants as given
use Rattle.dsd_station.specs.Plans.{after_restart, with_failure, with_stop}
use Rattle.dsd_station.specs.Replayed.{State, replay, state_of, step}
use Rattle.dex_line.specs.Occurrence.{broken}
use Rattle.cable_world.specs.Leaving.{behind_if, record_of, recorded, state_after, state_behind}
use Rattle.cable_world.specs.Obeying.{AreRounds, Course, Delivers, DeliversOf, Exchanges, Hears, HearsAgain, HearsIf, IsFirstPolled, IsPolledIf, IsPolledOut, IsRound, IsRoundOf, Makes, Nothing, Obeys, Plays, Starts, StartsIf, Then, Times, Unplugs, unchanged, without_first}
use Rattle.cable_world.specs.Scenes.{Scene, fed, restarted, side, stepped, with_log, with_waiting}
use Rattle.cable_world.specs.declared.event.Event.{Event}
use Rattle.cable_world.specs.declared.event.Event.TheVariants.{Start, Pass, Lose, Break, Again, Quiet, Unplug, Hear, Stop, Fail, Clean}
use Rattle.cable_world.specs.Steps.{Opening, Poll, StepKind, WorldStep, other, same_role}
use Rattle.cable_world.proofs.JoinedRuns.{replay_more}
use Rattle.cable_world.proofs.Taking.{all_played_calls}

abbrev calls_of : Role → Scene → List Call
calls_of role scene = (side scene role).log.calls

abbrev added : Role → WorldStep → List Call
added role one = if same_role role one.role then recorded one else []

record_more : (role : Role) (a b : List WorldStep) → record_of role (a ++ b) ≡ record_of role a ++ record_of role b
record_more role [] b = refl
record_more role (one ∷ a) b = ap (λ (l : List Call). added role one ++ l) (record_more role a b) ∙ sym (append_assoc (added role one) (record_of role a) (record_of role b))

abbrev Adds : Role → Scene → List WorldStep → Scene → Type 0
Adds role scene made next = calls_of role next ≡ calls_of role scene ++ record_of role made

abbrev Grows : Role → Course → Type 0
Grows role course = (scene : Scene) (made : List WorldStep) (next : Scene) → course scene made next → Adds role scene made next

abbrev step_of : Role → StepKind → Bool → List Call → WorldStep
step_of role kind runs part = record { role = role; kind = kind; runs = runs; part = part }

as_said : (who : Role) (kind : StepKind) (one : WorldStep) → one.role ≡ who → one.kind ≡ kind → step_of who kind one.runs one.part ≡ one
as_said who kind one r k = ap (λ (x : Role). step_of x kind one.runs one.part) (sym r) ∙ ap (λ (x : StepKind). step_of one.role x one.runs one.part) (sym k)

polling : (role who : Role) (runs : Bool) (part : List Call) (scene : Scene) → calls_of role (stepped scene (step_of who Poll runs part)) ≡ calls_of role scene ++ added role (step_of who Poll runs part)
polling Supplier Supplier runs part scene = all_played_calls scene.supplier.log part
polling Receiver Receiver runs part scene = all_played_calls scene.receiver.log part
polling Supplier Receiver runs part scene = sym (append-nil scene.supplier.log.calls)
polling Receiver Supplier runs part scene = sym (append-nil scene.receiver.log.calls)

opening : (role who : Role) (runs : Bool) (part : List Call) (scene : Scene)
    → calls_of role (stepped (restarted scene who) (step_of who Opening runs part)) ≡ calls_of role scene ++ added role (step_of who Opening runs part)
opening Supplier Supplier runs part scene = all_played_calls (after_restart scene.supplier.log) part ∙ append_assoc scene.supplier.log.calls (Restart ∷ []) part
opening Receiver Receiver runs part scene = all_played_calls (after_restart scene.receiver.log) part ∙ append_assoc scene.receiver.log.calls (Restart ∷ []) part
opening Supplier Receiver runs part scene = sym (append-nil scene.supplier.log.calls)
opening Receiver Supplier runs part scene = sym (append-nil scene.receiver.log.calls)

fed_same : (role who : Role) (what : Given) (scene : Scene) → calls_of role (fed scene who what) ≡ calls_of role scene
fed_same Supplier Supplier what scene = refl
fed_same Receiver Receiver what scene = refl
fed_same Supplier Receiver what scene = refl
fed_same Receiver Supplier what scene = refl

stop_same : (role who : Role) (n : ℕ) (pick : Pick) (scene : Scene) → calls_of role (with_log scene who (with_stop (side scene who).log n pick)) ≡ calls_of role scene
stop_same Supplier Supplier n pick scene = refl
stop_same Receiver Receiver n pick scene = refl
stop_same Supplier Receiver n pick scene = refl
stop_same Receiver Supplier n pick scene = refl

fail_same : (role who : Role) (n : ℕ) (scene : Scene) → calls_of role (with_log scene who (with_failure (side scene who).log n)) ≡ calls_of role scene
fail_same Supplier Supplier n scene = refl
fail_same Receiver Receiver n scene = refl
fail_same Supplier Receiver n scene = refl
fail_same Receiver Supplier n scene = refl

waiting_same : (role : Role) (waiting : List (Role × List ℕ)) (scene : Scene) → calls_of role (with_waiting scene waiting) ≡ calls_of role scene
waiting_same Supplier waiting scene = refl
waiting_same Receiver waiting scene = refl

module _ (role : Role) where
  nothing : Grows role Nothing
  nothing scene made next (none, same) =
      ap (calls_of role) same ∙ sym (append-nil (calls_of role scene)) ∙ ap (λ (l : List WorldStep). calls_of role scene ++ record_of role l) (sym none)

  -- from a scene with the same record
  from : (scene now : Scene) (made : List WorldStep) (next : Scene) → calls_of role now ≡ calls_of role scene → Adds role now made next → Adds role scene made next
  from scene now made next same adds = adds ∙ ap (λ (l : List Call). l ++ record_of role made) same

  one_more : (scene now : Scene) (one : WorldStep) (made : List WorldStep) (next : Scene) → calls_of role now ≡ calls_of role scene ++ added role one → Adds role now made next → Adds role scene (one ∷ made) next
  one_more scene now one made next step adds = adds ∙ ap (λ (l : List Call). l ++ record_of role made) step ∙ append_assoc (calls_of role scene) (added role one) (record_of role made)

  then_on : (one two : Course) → Grows role one → Grows role two → Grows role (Then one two)
  then_on one two grows more scene made next c =
      more c.between c.rest next c.behind
      ∙ ap (λ (l : List Call). l ++ record_of role c.rest) (grows scene c.first c.between c.before)
      ∙ append_assoc (calls_of role scene) (record_of role c.first) (record_of role c.rest)
      ∙ ap (λ (l : List Call). calls_of role scene ++ l) (sym (record_more role c.first c.rest) ∙ ap (record_of role) (sym c.joined))

  times_on : (n : ℕ) (one : Course) → Grows role one → Grows role (Times n one)
  times_on zero one grows = nothing
  times_on (suc n) one grows = then_on one (Times n one) grows (times_on n one grows)

  poll_on : (who : Role) (scene : Scene) (one : WorldStep) → Makes who Poll scene one → calls_of role (stepped scene one) ≡ calls_of role scene ++ added role one
  poll_on who scene one makes =
      subst (λ (st : WorldStep). calls_of role (stepped scene st) ≡ calls_of role scene ++ added role st) (as_said who Poll one makes.role makes.kind) (polling role who one.runs one.part scene)

  opening_on : (who : Role) (scene : Scene) (one : WorldStep) → Makes who Opening (restarted scene who) one → calls_of role (stepped (restarted scene who) one) ≡ calls_of role scene ++ added role one
  opening_on who scene one makes =
      subst (λ (st : WorldStep). calls_of role (stepped (restarted scene who) st) ≡ calls_of role scene ++ added role st) (as_said who Opening one makes.role makes.kind) (opening role who one.runs one.part scene)

  polled_on : (who : Role) → Grows role (IsPolledOut who)
  polled_on who scene [] next (rests, same) = ap (calls_of role) same ∙ sym (append-nil (calls_of role scene))
  polled_on who scene (one ∷ made) next (busy, makes, more) = one_more scene (stepped scene one) one made next (poll_on who scene one makes) (polled_on who (stepped scene one) made next more)

  hears_if : (runs : Bool) (who : Role) (what : Given) → Grows role (HearsIf runs who what)
  hears_if true who what scene made next c = from scene (fed scene who what) made next (fed_same role who what scene) (polled_on who (fed scene who what) made next c)
  hears_if false who what scene made next c = nothing scene made next c

  hears_on : (who : Role) (what : Given) → Grows role (Hears who what)
  hears_on who what scene made next c = hears_if (side scene who).runs who what scene made next c

  polled_if : (runs : Bool) → Grows role (IsPolledIf runs Supplier)
  polled_if true scene made next (one, is, makes, after) =
      ap (calls_of role) after ∙ poll_on Supplier scene one makes
      ∙ ap (λ (l : List Call). calls_of role scene ++ l) (sym (append-nil (added role one)) ∙ ap (record_of role) (sym is))
  polled_if false scene made next c = nothing scene made next c

  first_polled : (who : Role) → Grows role (IsFirstPolled who)
  first_polled Receiver scene made next c = nothing scene made next c
  first_polled Supplier scene made next c = polled_if scene.supplier.runs scene made next c

  starts_if : (runs : Bool) (who : Role) → Grows role (StartsIf runs who)
  starts_if true who scene made next c = nothing scene made next c
  starts_if false who scene [] next c = absurd c
  starts_if false who scene (one ∷ made) next (makes, more) =
      one_more scene (stepped (restarted scene who) one) one made next (opening_on who scene one makes) (first_polled who (stepped (restarted scene who) one) made next more)

  starts_on : (who : Role) → Grows role (Starts who)
  starts_on who scene made next c = starts_if (side scene who).runs who scene made next c

  delivers_of : (waiting : List (Role × List ℕ)) (change : List ℕ → List ℕ) → Grows role (DeliversOf waiting change)
  delivers_of [] change scene made next c = nothing scene made next c
  delivers_of (one ∷ waiting) change scene made next c =
      from scene (with_waiting scene waiting) made next (waiting_same role waiting scene) (hears_on one.0 (given.Bytes (change one.1)) (with_waiting scene waiting) made next c)

  delivers_on : (change : List ℕ → List ℕ) → Grows role (Delivers change)
  delivers_on change scene made next c = delivers_of scene.waiting change scene made next c

  again_on : (frame : Option (List ℕ)) (who : Role) → Grows role (HearsAgain frame who)
  again_on None who scene made next c = nothing scene made next c
  again_on (Some frame) who scene made next c = hears_on who (given.Bytes frame) scene made next c

  unplugs_on : Grows role Unplugs
  unplugs_on scene made next c =
      from scene (with_waiting scene []) made next (waiting_same role [] scene)
      (then_on (Hears Supplier given.Unplugged) (Hears Receiver given.Unplugged) (hears_on Supplier given.Unplugged) (hears_on Receiver given.Unplugged) (with_waiting scene []) made next c)

  round_of : (waiting : List (Role × List ℕ)) → Grows role (IsRoundOf waiting)
  round_of [] scene made next c =
      then_on (Hears Supplier (given.Quiet 1)) (Hears Receiver (given.Quiet 1)) (hears_on Supplier (given.Quiet 1)) (hears_on Receiver (given.Quiet 1)) scene made next c
  round_of (one ∷ waiting) scene made next c = delivers_on unchanged scene made next c

  round_on : Grows role IsRound
  round_on scene made next c = round_of scene.waiting scene made next c

  rounds_on : (n : ℕ) → Grows role (AreRounds n)
  rounds_on zero scene made next c = nothing scene made next c.1
  rounds_on (suc n) scene made next c = then_on IsRound (AreRounds n) round_on (rounds_on n) scene made next c.1

  exchanges_on : Grows role Exchanges
  exchanges_on scene made next (n, c) = rounds_on n scene made next c

  plays_on : (event : Event) → Grows role (Plays event)
  plays_on (Start who) scene made next c = starts_on who scene made next c
  plays_on (Pass n) scene made next c = times_on n (Delivers unchanged) (delivers_on unchanged) scene made next c
  plays_on Lose scene made next c =
      from scene (with_waiting scene (without_first scene.waiting)) made next (waiting_same role (without_first scene.waiting) scene) (nothing (with_waiting scene (without_first scene.waiting)) made next c)
  plays_on Break scene made next c = delivers_on broken scene made next c
  plays_on (Again who k) scene made next c = again_on (slice_get (side scene (other who)).spoken (k - 1)) who scene made next c
  plays_on (Quiet who n) scene made next c = times_on n (Hears who (given.Quiet 1)) (hears_on who (given.Quiet 1)) scene made next c
  plays_on Unplug scene made next c = unplugs_on scene made next c
  plays_on (Hear who bytes) scene made next c = hears_on who (given.Bytes bytes) scene made next c
  plays_on (Stop who n pick) scene made next c =
      let now : Scene = with_log scene who (with_stop (side scene who).log n pick) in
      from scene now made next (stop_same role who n pick scene) (nothing now made next c)
  plays_on (Fail who n) scene made next c =
      let now : Scene = with_log scene who (with_failure (side scene who).log n) in
      from scene now made next (fail_same role who n scene) (nothing now made next c)
  plays_on Clean scene made next c =
      then_on Unplugs (Then (Starts Receiver) (Then (Starts Supplier) Exchanges)) unplugs_on
      (then_on (Starts Receiver) (Then (Starts Supplier) Exchanges) (starts_on Receiver) (then_on (Starts Supplier) Exchanges (starts_on Supplier) exchanges_on))
      scene made next c

  pub obeys_adds : (events : List Event) (scene : Scene) (made : List WorldStep) (next : Scene) → Obeys events scene made next
      → (side next role).log.calls ≡ (side scene role).log.calls ++ record_of role made
  obeys_adds [] scene made next c = nothing scene made next c
  obeys_adds (event ∷ events) scene made next c = then_on (Plays event) (Obeys events) (plays_on event) (obeys_adds events) scene made next c

  -- and what a record comes to is what the steps come to
  pub replay_record : (state : State) (steps : List WorldStep) → replay state (record_of role steps) ≡ state_after role state steps
  replay_record state [] = refl
  replay_record state (one ∷ steps) = by (same_role role one.role) refl (replay_record (state_behind state one) steps) (replay_record state steps)
    where
      by : (own : Bool) → same_role role one.role ≡ own → replay (state_behind state one) (record_of role steps) ≡ state_after role (state_behind state one) steps
          → replay state (record_of role steps) ≡ state_after role state steps
          → replay state ((if own then recorded one else []) ++ record_of role steps) ≡ state_after role (behind_if own state one) steps
      by true is there here = replay_more state (recorded one) (record_of role steps) ∙ there
      by false is there here = here

  pub state_at_end : (events : List Event) (scene : Scene) (made : List WorldStep) (next : Scene) → Obeys events scene made next
      → state_of (side next role).log.calls ≡ state_after role (state_of (side scene role).log.calls) made
  state_at_end events scene made next c =
      ap state_of (obeys_adds events scene made next c) ∙ replay_more (state_of []) (side scene role).log.calls (record_of role made) ∙ replay_record (state_of (side scene role).log.calls) made
