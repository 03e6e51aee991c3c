-- Events that arm nothing leave nothing armed, where nothing was left before them.
use Rattle.std.proofs.Common.{◌≡◌, ℕ, zero, suc, ◌-◌, Bool, true, false, List, [], ◌∷◌, Option, Some, None, sym, ap, subst}
use Rattle.std.specs.Prelude.{slice_get}
use Rattle.dsd_values.specs.declared.role.Role.{Role}
use Rattle.dsd_values.specs.declared.role.Role.TheVariants.{Receiver, Supplier}
use Rattle.dsd_station.specs.declared.feeding.Given.{Given}
use Rattle.dsd_station.specs.declared.feeding.Given.TheVariants as given
use Rattle.dsd_station.specs.ByPlan.{fail_off, stop_off}
use Rattle.dsd_station.specs.Logged.{Log}
use Rattle.dsd_station.specs.Planned.{Plan, no_plan}
use Rattle.dex_line.specs.Occurrence.{broken}
use Rattle.cable_world.specs.Obeying.{AreRounds, Course, Delivers, DeliversOf, Exchanges, Hears, HearsAgain, HearsIf, IsFirstPolled, IsPolledIf, IsPolledOut, IsRound, IsRoundOf, Nothing, Obeys, Plays, Starts, StartsIf, Then, Times, Unplugs, first_scene, unchanged, without_first}
use Rattle.cable_world.specs.Scenes.{Scene, Side, fed, restarted, side, stepped, with_waiting}
use Rattle.cable_world.specs.Steps.{WorldStep, other}
use Rattle.cable_world.specs.declared.event.Event.{Event}
use Rattle.cable_world.specs.declared.event.Event.TheVariants.{Again, Break, Clean, Fail, Hear, Lose, Pass, Quiet, Start, Stop, Unplug}
use Rattle.clean_worlds.specs.Faultless.{AreSpared, ArmsNothing, IsNoArming, IsSpared}
use Rattle.clean_worlds.proofs.Opened.{restarted_other}
use Rattle.clean_worlds.proofs.RoundsClean.{waits_not}
use Rattle.clean_worlds.proofs.ScriptsKept.{each_role}
use Rattle.clean_worlds.proofs.SparedCalls.{spared_again, spared_fed, spared_stepped}
use Rattle.clean_worlds.proofs.Stepped.{fed_other, fed_own, stepped_other}

no_arming : (log : Log) → log.plan ≡ no_plan → IsSpared log
no_arming log none = record { failure = ap (λ (p : Plan). fail_off p.failure log.calls) none; stop = ap (λ (p : Plan). stop_off p.stop log.calls) none }

-- ---- what one end does

at_end : (role : Role) (scene new : Scene) → IsSpared (side new role).log → side new (other role) ≡ side scene (other role) → AreSpared scene → AreSpared new
at_end role scene new own apart spared = each_role (λ (r : Role). IsSpared (side new r).log) role own (subst (λ (s : Side). IsSpared s.log) (sym apart) (spared (other role)))

stepped_spared : (role : Role) (scene : Scene) (step : WorldStep) → step.role ≡ role → AreSpared scene → AreSpared (stepped scene step)
stepped_spared role scene step own spared = at_end role scene (stepped scene step) (spared_stepped role scene step own (spared role)) (stepped_other role scene step own) spared

fed_spared : (role : Role) (what : Given) (scene : Scene) → AreSpared scene → AreSpared (fed scene role what)
fed_spared role what scene spared =
    at_end role scene (fed scene role what) (subst (λ (s : Side). IsSpared s.log) (sym (fed_own role scene what)) (spared_fed (side scene role).log what (spared role))) (fed_other role scene what) spared

restarted_spared : (role : Role) (scene : Scene) → AreSpared scene → AreSpared (restarted scene role)
restarted_spared role scene spared = at_end role scene (restarted scene role) (spared_again role scene (spared role)) (restarted_other role scene) spared

waiting_spared : (waiting : List (Role × List ℕ)) (scene : Scene) → AreSpared scene → AreSpared (with_waiting scene waiting)
waiting_spared waiting scene spared role = subst (λ (s : Side). IsSpared s.log) (sym (waits_not role scene waiting)) (spared role)

-- ---- courses

abbrev pub Spares : Course → Type 0
Spares course = (scene : Scene) (made : List WorldStep) (next : Scene) → course scene made next → AreSpared scene → AreSpared next

spares_nothing : Spares Nothing
spares_nothing scene made next (none, same) spared = subst AreSpared (sym same) spared

spares_then : (one two : Course) → Spares one → Spares two → Spares (Then one two)
spares_then one two first rest scene made next both spared = rest both.between both.rest next both.behind (first scene both.first both.between both.before spared)

spares_times : (n : ℕ) (one : Course) → Spares one → Spares (Times n one)
spares_times zero one spares = spares_nothing
spares_times (suc n) one spares = spares_then one (Times n one) spares (spares_times n one spares)

spares_out : (role : Role) → Spares (IsPolledOut role)
spares_out role scene [] next (idle, same) spared = subst AreSpared (sym same) spared
spares_out role scene (step ∷ made) next (busy, makes, out) spared = spares_out role (stepped scene step) made next out (stepped_spared role scene step makes.role spared)

spares_hears_if : (runs : Bool) (role : Role) (what : Given) → Spares (HearsIf runs role what)
spares_hears_if true role what = λ scene made next out spared. spares_out role (fed scene role what) made next out (fed_spared role what scene spared)
spares_hears_if false role what = spares_nothing

spares_hears : (role : Role) (what : Given) → Spares (Hears role what)
spares_hears role what scene made next hears spared = spares_hears_if (side scene role).runs role what scene made next hears spared

spares_polled_if : (runs : Bool) (role : Role) → Spares (IsPolledIf runs role)
spares_polled_if true role = λ scene made next polled spared. let (step, only, makes, same) = polled in subst AreSpared (sym same) (stepped_spared role scene step makes.role spared)
spares_polled_if false role = spares_nothing

spares_first : (role : Role) → Spares (IsFirstPolled role)
spares_first Receiver = spares_nothing
spares_first Supplier = λ scene made next first spared. spares_polled_if scene.supplier.runs Supplier scene made next first spared

spares_starts_if : (runs : Bool) (role : Role) → Spares (StartsIf runs role)
spares_starts_if true role scene made next goes spared = spares_nothing scene made next goes spared
spares_starts_if false role scene [] next opens spared = absurd opens
spares_starts_if false role scene (step ∷ made) next (makes, first) spared =
    spares_first role (stepped (restarted scene role) step) made next first (stepped_spared role (restarted scene role) step makes.role (restarted_spared role scene spared))

spares_starts : (role : Role) → Spares (Starts role)
spares_starts role scene made next starts spared = spares_starts_if (side scene role).runs role scene made next starts spared

spares_delivers_of : (waiting : List (Role × List ℕ)) (change : List ℕ → List ℕ) → Spares (DeliversOf waiting change)
spares_delivers_of [] change = spares_nothing
spares_delivers_of (one ∷ waiting) change = λ scene made next hears spared. spares_hears one.0 (given.Bytes (change one.1)) (with_waiting scene waiting) made next hears (waiting_spared waiting scene spared)

spares_delivers : (change : List ℕ → List ℕ) → Spares (Delivers change)
spares_delivers change scene made next delivers spared = spares_delivers_of scene.waiting change scene made next delivers spared

spares_again : (frame : Option (List ℕ)) (role : Role) → Spares (HearsAgain frame role)
spares_again None role = spares_nothing
spares_again (Some frame) role = spares_hears role (given.Bytes frame)

spares_unplugs : Spares Unplugs
spares_unplugs scene made next both spared =
    spares_then (Hears Supplier given.Unplugged) (Hears Receiver given.Unplugged) (spares_hears Supplier given.Unplugged) (spares_hears Receiver given.Unplugged) (with_waiting scene []) made next both (waiting_spared [] scene spared)

spares_round_of : (waiting : List (Role × List ℕ)) → Spares (IsRoundOf waiting)
spares_round_of [] = spares_then (Hears Supplier (given.Quiet 1)) (Hears Receiver (given.Quiet 1)) (spares_hears Supplier (given.Quiet 1)) (spares_hears Receiver (given.Quiet 1))
spares_round_of (one ∷ waiting) = spares_delivers unchanged

spares_round : Spares IsRound
spares_round scene made next round spared = spares_round_of scene.waiting scene made next round spared

spares_rounds : (n : ℕ) → Spares (AreRounds n)
spares_rounds zero scene made next (off, goes) spared = spares_nothing scene made next goes spared
spares_rounds (suc n) scene made next (on, goes) spared = spares_then IsRound (AreRounds n) spares_round (spares_rounds n) scene made next goes spared

spares_exchanges : Spares Exchanges
spares_exchanges scene made next (n, goes) spared = spares_rounds n scene made next goes spared

-- ---- events

spares_event : (event : Event) → IsNoArming event → Spares (Plays event)
spares_event (Start role) not = spares_starts role
spares_event (Pass n) not = spares_times n (Delivers unchanged) (spares_delivers unchanged)
spares_event Lose not = λ scene made next lost spared. subst AreSpared (sym lost.1) (waiting_spared (without_first scene.waiting) scene spared)
spares_event Break not = spares_delivers broken
spares_event (Again role k) not = λ scene made next goes spared. spares_again (slice_get (side scene (other role)).spoken (k - 1)) role scene made next goes spared
spares_event (Quiet role n) not = spares_times n (Hears role (given.Quiet 1)) (spares_hears role (given.Quiet 1))
spares_event Unplug not = spares_unplugs
spares_event (Hear role bytes) not = spares_hears role (given.Bytes bytes)
spares_event (Stop role n pick) not = absurd not
spares_event (Fail role n) not = absurd not
spares_event Clean not =
    spares_then Unplugs (Then (Starts Receiver) (Then (Starts Supplier) Exchanges)) spares_unplugs
    (spares_then (Starts Receiver) (Then (Starts Supplier) Exchanges) (spares_starts Receiver) (spares_then (Starts Supplier) Exchanges (spares_starts Supplier) spares_exchanges))

pub spares_script : (events : List Event) → ArmsNothing events → Spares (Obeys events)
spares_script [] not = spares_nothing
spares_script (event ∷ events) not = spares_then (Plays event) (Obeys events) (spares_event event not.0) (spares_script events not.1)

-- two stations that were told nothing
pub unarmed_first : (supplier receiver : Log) → supplier.plan ≡ no_plan → receiver.plan ≡ no_plan → AreSpared (first_scene supplier receiver)
unarmed_first supplier receiver one two Supplier = no_arming supplier one
unarmed_first supplier receiver one two Receiver = no_arming receiver two
