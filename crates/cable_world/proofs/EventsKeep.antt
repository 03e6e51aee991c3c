-- Each event of a script without HEAR keeps what one end hears to what the other spoke.
use Rattle.std.proofs.Common.{◌≡◌, ℕ, zero, suc, ◌-◌, Bool, true, false, List, [], ◌∷◌, ◌++◌, refl, sym, ◌∙◌, ap, subst, inl, inr, append_assoc, Option, Some, None}
use Rattle.std.specs.Prelude.{◌&&◌, not, slice_get}
use Rattle.dsd_values.specs.declared.role.Role.{Role}
use Rattle.dsd_values.specs.declared.role.Role.TheVariants.{Receiver, Supplier}
use Rattle.dsd_station.specs.declared.feeding.Given.{Given}
use Rattle.dsd_station.specs.declared.feeding.Given.TheVariants as given
use Rattle.dsd_station.specs.Plans.{with_failure, with_stop}
use Rattle.dex_line.specs.Occurrence.{broken}
use Rattle.cable_world.specs.Delivering.{IsDelivered}
use Rattle.dsd_end.specs.Runs.{Run}
use Rattle.cable_world.specs.Living.{HasNoHear, IsNoHear}
use Rattle.cable_world.specs.Obeying.{AreRounds, Becomes, Course, Delivers, DeliversOf, Exchanges, Hears, HearsAgain, HearsIf, IsFirstPolled, IsPolledIf, IsPolledOut, IsRound, IsRoundOf, Nothing, Obeys, Opens, Plays, Starts, StartsIf, Then, Times, Unplugs, unchanged, without_first}
use Rattle.cable_world.specs.Scenes.{Scene, Side, due, fed, is_busy, is_nothing, restarted, side, stepped, with_log, with_waiting}
use Rattle.cable_world.specs.declared.event.Event.{Event}
use Rattle.cable_world.specs.declared.event.Event.TheVariants.{Start, Pass, Lose, Break, Again, Quiet, Unplug, Hear, Stop, Fail, Clean}
use Rattle.cable_world.specs.Steps.{WorldStep, other}
use Rattle.cable_world.proofs.HeardWell.{AreWhole, Fits, Held, IsWhole, WaitWhole}
use Rattle.cable_world.proofs.StepsKeep.{Keeps, Onward, Stands, failing, feeding, moved, opening_on, poll_on, restarting, stopping}

module _ (others : List Run) where
  -- ---- courses

  nothing_on : (role : Role) → Keeps others role Nothing
  nothing_on role scene made next rest (none, same) onward h stands =
      let at : Stands others role h scene rest = subst (λ (l : List WorldStep). Stands others role h scene (l ++ rest)) none stands in
      subst (λ (l : List WorldStep). Held role others h (l ++ rest)) (sym none) (onward h (subst (λ (s : Scene). Stands others role h s rest) (sym same) at))

  then_on : (role : Role) (one two : Course) → Keeps others role one → Keeps others role two → Keeps others role (Then one two)
  then_on role one two keeps_one keeps_two scene made next rest c onward h stands =
      let joined : made ++ rest ≡ c.first ++ (c.rest ++ rest) = ap (λ (l : List WorldStep). l ++ rest) c.joined ∙ append_assoc c.first c.rest rest in
      subst (Held role others h) (sym joined)
      (keeps_one scene c.first c.between (c.rest ++ rest) c.before (keeps_two c.between c.rest next rest c.behind onward) h (subst (Stands others role h scene) joined stands))

  times_on : (role : Role) (n : ℕ) (one : Course) → Keeps others role one → Keeps others role (Times n one)
  times_on role zero one keeps = nothing_on role
  times_on role (suc n) one keeps = then_on role one (Times n one) keeps (times_on role n one keeps)

  runs_where : (its : Side) → is_busy its ≡ true → its.runs ≡ true
  runs_where its busy = by its.runs (is_nothing (due its)) busy
    where
      by : (runs nothing : Bool) → (runs && not nothing) ≡ true → runs ≡ true
      by true nothing e = refl
      by false nothing e = absurd (cc)

  polled_on : (role who : Role) → Keeps others role (IsPolledOut who)
  polled_on role who scene [] next rest (rests, same) onward h stands = onward h (subst (λ (s : Scene). Stands others role h s rest) (sym same) stands)
  polled_on role who scene (step ∷ made) next rest (busy, makes, more) onward h stands =
      poll_on others role who scene step h (made ++ rest) makes (runs_where (side scene who) busy) (polled_on role who (stepped scene step) made next rest more onward) stands

  hears_if_on : (role who : Role) (what : Given) (runs : Bool) → (who ≡ role → Fits others what) → Keeps others role (HearsIf runs who what)
  hears_if_on role who what true fits scene made next rest c onward h stands = polled_on role who (fed scene who what) made next rest c onward h (feeding others role who what h scene (made ++ rest) fits stands)
  hears_if_on role who what false fits scene made next rest c onward h stands = nothing_on role scene made next rest c onward h stands

  hears_on : (role who : Role) (what : Given) → (who ≡ role → Fits others what) → Keeps others role (Hears who what)
  hears_on role who what fits scene made next rest c onward h stands = hears_if_on role who what (side scene who).runs fits scene made next rest c onward h stands

  first_poll_on : (role : Role) (runs : Bool) (scene : Scene) (made : List WorldStep) (next : Scene) (rest : List WorldStep) → scene.supplier.runs ≡ runs
      → IsPolledIf runs Supplier scene made next → Onward others role next rest → Onward others role scene (made ++ rest)
  first_poll_on role true scene made next rest on (step, one, makes, after) onward h stands =
      let at : Stands others role h scene (step ∷ rest) = subst (λ (l : List WorldStep). Stands others role h scene (l ++ rest)) one stands in
      let further : Onward others role (stepped scene step) rest = subst (λ (s : Scene). Onward others role s rest) after onward in
      subst (λ (l : List WorldStep). Held role others h (l ++ rest)) (sym one) (poll_on others role Supplier scene step h rest makes on further at)
  first_poll_on role false scene made next rest on c onward h stands = nothing_on role scene made next rest c onward h stands

  first_polled_on : (role who : Role) → Keeps others role (IsFirstPolled who)
  first_polled_on role Receiver scene made next rest c onward h stands = nothing_on role scene made next rest c onward h stands
  first_polled_on role Supplier scene made next rest c onward h stands = first_poll_on role scene.supplier.runs scene made next rest refl c onward h stands

  restarted_empty : (who : Role) (scene : Scene) → (side (restarted scene who) who).log.plan.fed ≡ []
  restarted_empty Supplier scene = refl
  restarted_empty Receiver scene = refl

  opens_on : (role who : Role) (scene : Scene) (made : List WorldStep) (next : Scene) (rest : List WorldStep) → (side scene who).log.plan.fed ≡ []
      → Opens who scene made next → Onward others role next rest → Onward others role scene (made ++ rest)
  opens_on role who scene [] next rest none c onward h stands = absurd c
  opens_on role who scene (step ∷ made) next rest none (makes, more) onward h stands =
      opening_on others role who scene step h (made ++ rest) makes none (first_polled_on role who (stepped scene step) made next rest more onward) stands

  starts_if_on : (role who : Role) (runs : Bool) (scene : Scene) (made : List WorldStep) (next : Scene) (rest : List WorldStep) → (side scene who).runs ≡ runs
      → StartsIf runs who scene made next → Onward others role next rest → Onward others role scene (made ++ rest)
  starts_if_on role who true scene made next rest on c onward h stands = nothing_on role scene made next rest c onward h stands
  starts_if_on role who false scene made next rest on c onward h stands =
      opens_on role who (restarted scene who) made next rest (restarted_empty who scene) c onward h (restarting others role who h scene (made ++ rest) on stands)

  starts_on : (role who : Role) → Keeps others role (Starts who)
  starts_on role who scene made next rest c onward h stands = starts_if_on role who (side scene who).runs scene made next rest refl c onward h stands

  -- ---- frames

  abbrev Delivered : (List ℕ → List ℕ) → Type 0
  Delivered change = (frame : List ℕ) → IsWhole others frame → IsDelivered others (change frame)

  delivered_whole : Delivered unchanged
  delivered_whole frame (shape, spoken, is, out) = (shape, spoken, inl (is, out))

  delivered_broken : Delivered broken
  delivered_broken frame (shape, spoken, is, out) = (shape, spoken, inr (ap broken is))

  waits_in : (role : Role) (h : List ℕ) (scene : Scene) (steps : List WorldStep) → Stands others role h scene steps → WaitWhole role others scene.waiting
  waits_in role h scene steps s = s.0.waits

  delivers_of : (role : Role) (change : List ℕ → List ℕ) (waiting : List (Role × List ℕ)) (scene : Scene) (made : List WorldStep) (next : Scene) (rest : List WorldStep) → Delivered change
      → WaitWhole role others waiting → DeliversOf waiting change scene made next → Onward others role next rest → Onward others role scene (made ++ rest)
  delivers_of role change [] scene made next rest delivered waits c onward h stands = nothing_on role scene made next rest c onward h stands
  delivers_of role change (one ∷ waiting) scene made next rest delivered waits c onward h stands =
      hears_on role one.0 (given.Bytes (change one.1)) (λ same. delivered one.1 (waits.0 same)) (with_waiting scene waiting) made next rest c onward h (moved others role h scene (made ++ rest) waiting waits.1 stands)

  delivers_on : (role : Role) (change : List ℕ → List ℕ) → Delivered change → Keeps others role (Delivers change)
  delivers_on role change delivered scene made next rest c onward h stands =
      delivers_of role change scene.waiting scene made next rest delivered (waits_in role h scene (made ++ rest) stands) c onward h stands

  without_whole : (role : Role) (waiting : List (Role × List ℕ)) → WaitWhole role others waiting → WaitWhole role others (without_first waiting)
  without_whole role [] waits = tt
  without_whole role (one ∷ waiting) waits = waits.1

  loses_on : (role : Role) (scene : Scene) (made : List WorldStep) (next : Scene) (rest : List WorldStep) → Becomes (with_waiting scene (without_first scene.waiting)) made next
      → Onward others role next rest → Onward others role scene (made ++ rest)
  loses_on role scene made next rest c onward h stands =
      nothing_on role (with_waiting scene (without_first scene.waiting)) made next rest c onward h
      (moved others role h scene (made ++ rest) (without_first scene.waiting) (without_whole role scene.waiting (waits_in role h scene (made ++ rest) stands)) stands)

  one_whole : (frames : List (List ℕ)) (k : ℕ) (frame : List ℕ) → AreWhole others frames → slice_get frames k ≡ Some frame → IsWhole others frame
  one_whole [] k frame whole e = absurd (cc)
  one_whole (f ∷ frames) zero frame whole e = let same : f ≡ frame = cc in subst (IsWhole others) same whole.0
  one_whole (f ∷ frames) (suc k) frame whole e = one_whole frames k frame whole.1 e

  again_of : (role who : Role) (frame : Option (List ℕ)) → (who ≡ role → (bytes : List ℕ) → frame ≡ Some bytes → IsWhole others bytes) → Keeps others role (HearsAgain frame who)
  again_of role who None whole scene made next rest c onward h stands = nothing_on role scene made next rest c onward h stands
  again_of role who (Some frame) whole scene made next rest c onward h stands =
      hears_on role who (given.Bytes frame) (λ same. delivered_whole frame (whole same frame refl)) scene made next rest c onward h stands

  again_on : (role who : Role) (k : ℕ) (scene : Scene) (made : List WorldStep) (next : Scene) (rest : List WorldStep)
      → HearsAgain (slice_get (side scene (other who)).spoken k) who scene made next → Onward others role next rest → Onward others role scene (made ++ rest)
  again_on role who k scene made next rest c onward h stands =
      again_of role who (slice_get (side scene (other who)).spoken k)
      (λ same bytes e. one_whole (side scene (other who)).spoken k bytes (subst (λ (r : Role). AreWhole others (side scene (other r)).spoken) (sym same) stands.0.whole) e)
      scene made next rest c onward h stands

  unplugged_on : (role who : Role) → Keeps others role (Hears who given.Unplugged)
  unplugged_on role who = hears_on role who given.Unplugged (λ same. tt)

  quiet_on : (role who : Role) → Keeps others role (Hears who (given.Quiet 1))
  quiet_on role who = hears_on role who (given.Quiet 1) (λ same. tt)

  unplugs_on : (role : Role) → Keeps others role Unplugs
  unplugs_on role scene made next rest c onward h stands =
      then_on role (Hears Supplier given.Unplugged) (Hears Receiver given.Unplugged) (unplugged_on role Supplier) (unplugged_on role Receiver) (with_waiting scene []) made next rest c onward h
      (moved others role h scene (made ++ rest) [] tt stands)

  -- ---- CLEAN

  round_of : (role : Role) (waiting : List (Role × List ℕ)) → Keeps others role (IsRoundOf waiting)
  round_of role [] scene made next rest c onward h stands =
      then_on role (Hears Supplier (given.Quiet 1)) (Hears Receiver (given.Quiet 1)) (quiet_on role Supplier) (quiet_on role Receiver) scene made next rest c onward h stands
  round_of role (one ∷ waiting) scene made next rest c onward h stands = delivers_on role unchanged delivered_whole scene made next rest c onward h stands

  round_on : (role : Role) → Keeps others role IsRound
  round_on role scene made next rest c onward h stands = round_of role scene.waiting scene made next rest c onward h stands

  rounds_on : (role : Role) (n : ℕ) → Keeps others role (AreRounds n)
  rounds_on role zero scene made next rest c onward h stands = nothing_on role scene made next rest c.1 onward h stands
  rounds_on role (suc n) scene made next rest c onward h stands = then_on role IsRound (AreRounds n) (round_on role) (rounds_on role n) scene made next rest c.1 onward h stands

  exchanges_on : (role : Role) → Keeps others role Exchanges
  exchanges_on role scene made next rest (n, c) onward h stands = rounds_on role n scene made next rest c onward h stands

  cleans_on : (role : Role) → Keeps others role (Then Unplugs (Then (Starts Receiver) (Then (Starts Supplier) Exchanges)))
  cleans_on role =
      then_on role Unplugs (Then (Starts Receiver) (Then (Starts Supplier) Exchanges)) (unplugs_on role)
      (then_on role (Starts Receiver) (Then (Starts Supplier) Exchanges) (starts_on role Receiver)
      (then_on role (Starts Supplier) Exchanges (starts_on role Supplier) (exchanges_on role)))

  -- ---- the events

  plays_on : (role : Role) (event : Event) → IsNoHear event → Keeps others role (Plays event)
  plays_on role (Start who) free scene made next rest c onward h stands = starts_on role who scene made next rest c onward h stands
  plays_on role (Pass n) free scene made next rest c onward h stands = times_on role n (Delivers unchanged) (delivers_on role unchanged delivered_whole) scene made next rest c onward h stands
  plays_on role Lose free scene made next rest c onward h stands = loses_on role scene made next rest c onward h stands
  plays_on role Break free scene made next rest c onward h stands = delivers_on role broken delivered_broken scene made next rest c onward h stands
  plays_on role (Again who k) free scene made next rest c onward h stands = again_on role who (k - 1) scene made next rest c onward h stands
  plays_on role (Quiet who n) free scene made next rest c onward h stands = times_on role n (Hears who (given.Quiet 1)) (quiet_on role who) scene made next rest c onward h stands
  plays_on role Unplug free scene made next rest c onward h stands = unplugs_on role scene made next rest c onward h stands
  plays_on role (Hear who bytes) free scene made next rest c onward h stands = absurd free
  plays_on role (Stop who n pick) free scene made next rest c onward h stands =
      nothing_on role (with_log scene who (with_stop (side scene who).log n pick)) made next rest c onward h (stopping others role who n pick h scene (made ++ rest) stands)
  plays_on role (Fail who n) free scene made next rest c onward h stands =
      nothing_on role (with_log scene who (with_failure (side scene who).log n)) made next rest c onward h (failing others role who n h scene (made ++ rest) stands)
  plays_on role Clean free scene made next rest c onward h stands = cleans_on role scene made next rest c onward h stands

  pub obeys_on : (role : Role) (events : List Event) → HasNoHear events → Keeps others role (Obeys events)
  obeys_on role [] free scene made next rest c onward h stands = nothing_on role scene made next rest c onward h stands
  obeys_on role (event ∷ events) free scene made next rest c onward h stands =
      then_on role (Plays event) (Obeys events) (plays_on role event free.0) (obeys_on role events free.1) scene made next rest c onward h stands
