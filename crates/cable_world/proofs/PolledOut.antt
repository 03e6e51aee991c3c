-- An end on a cable that hears something is polled until it is taken.
use Rattle.std.proofs.Common.{◌≡◌, ◌<◌, ◌^◌, ◌&&◌, Bool, true, false, ℕ, List, [], ◌∷◌, ◌++◌, length, Result, OnOk, refl, sym, ◌∙◌, ap, subst, arith}
use Rattle.std.specs.Prelude.{not}
use Rattle.dsd_values.specs.declared.role.Role.TheVariants.{Receiver, Supplier}
use Rattle.dsd_values.specs.declared.role.Role.{Role}
use Rattle.dsd_values.specs.declared.fault.Memory.{Memory}
use Rattle.dsd_station.specs.declared.feeding.Given.{Given}
use Rattle.dsd_station.specs.declared.feeding.Given.TheVariants as given
use Rattle.dsd_station.specs.Planned.{Due, DueQuiet}
use Rattle.dsd_station.specs.Plans.{with_fed}
use Rattle.dsd_station.proofs.Planning.{due_by-fed}
use Rattle.cable_world.specs.CableSteps.{Goes, IsOpen, IsPolled}
use Rattle.cable_world.specs.Cables.{cable_of, scene_of}
use Rattle.cable_world.specs.Changing.{Changes}
use Rattle.cable_world.specs.Obeying.{Hears, HearsIf, IsPolledOut, Nothing, Then}
use Rattle.cable_world.specs.CableLeft.{left_at, left_to_do}
use Rattle.cable_world.specs.Scenes.{Scene, Side, due, fed, is_busy, is_nothing, side}
use Rattle.cable_world.specs.Seats.{SeatView, with_log}
use Rattle.cable_world.specs.Feeding.{IsFed, given_to}
use Rattle.cable_world.specs.Steps.{WorldStep, other}
use Rattle.cable_world.specs.declared.cable.Cable.{Cable}
use Rattle.cable_world.specs.declared.cable.Waiting.{Waiting}
use Rattle.cable_world.proofs.Going.{after_change, goes_as, goes_nothing, goes_then, on_ok_so}
use Rattle.cable_world.proofs.PlannedSeats.{left_as, plans_handheld, plans_receiver}

-- ---- what is left to do

waits_few : (cable : Cable) → length cable.waiting.items < 2 ^ 63
waits_few cable = let (is, wrapped) = cable.waiting.ok in let (room, inside) = cable.waiting.small in omega (arith, is, room, inside)

pub less_to_do : (role : Role) (old new : Cable) → left_at new role < left_at old role → left_at new (other role) ≡ left_at old (other role) → left_to_do new < left_to_do old
less_to_do Supplier old new spent same = let few = waits_few new in omega (arith, spent, same, few)
less_to_do Receiver old new spent same = let few = waits_few new in omega (arith, spent, same, few)

-- ---- polled out

and_left : (a b : Bool) → (a && b) ≡ true → a ≡ true
and_left true b e = refl
and_left false b e = absurd (cc)

pub busy_runs : (its : Side) → is_busy its ≡ true → its.runs ≡ true
busy_runs its busy = and_left its.runs (not (is_nothing (due its))) busy

polled_then : (role : Role) (scene : Scene) → is_busy (side scene role) ≡ true → (made : List WorldStep) (next : Scene) → Then (IsPolled role) (IsPolledOut role) scene made next → IsPolledOut role scene made next
polled_then role scene busy made next then =
    let (step, one, makes, at) = then.before in
    subst (λ (l : List WorldStep). IsPolledOut role scene l next) (sym (then.joined ∙ ap (λ (l : List WorldStep). l ++ then.rest) one)) (busy, makes, subst (λ (s : Scene). IsPolledOut role s then.rest next) at then.behind)

polled_none : (role : Role) (scene : Scene) → is_busy (side scene role) ≡ false → (made : List WorldStep) (next : Scene) → Nothing scene made next → IsPolledOut role scene made next
polled_none role scene idle made next (none, same) = subst (λ (l : List WorldStep). IsPolledOut role scene l next) (sym none) (idle, same)

pub polls_more : (role : Role) (at mid new : Cable) → is_busy (side (scene_of (cable_of at)) role) ≡ true → Goes (IsPolled role) at mid → Goes (IsPolledOut role) mid new → Goes (IsPolledOut role) at new
polls_more role at mid new busy polled rest =
    goes_as (Then (IsPolled role) (IsPolledOut role)) (IsPolledOut role) at new (polled_then role (scene_of (cable_of at)) busy) (goes_then (IsPolled role) (IsPolledOut role) at mid new polled rest)

pub polls_no_more : (role : Role) (at : Cable) → is_busy (side (scene_of (cable_of at)) role) ≡ false → IsOpen at → Goes (IsPolledOut role) at at
polls_no_more role at idle ready = goes_as Nothing (IsPolledOut role) at at (polled_none role (scene_of (cable_of at)) idle) (goes_nothing at ready)

-- ---- hears

hears_if : (runs : Bool) (role : Role) (what : Given) (scene : Scene) → runs ≡ true → (made : List WorldStep) (next : Scene) → Then (Changes (given_to role what)) (IsPolledOut role) scene made next → HearsIf runs role what scene made next
hears_if true role what scene on made next then = after_change (given_to role what) (IsPolledOut role) scene made next then
hears_if false role what scene on made next then = absurd (cc)

hears_not : (runs : Bool) (role : Role) (what : Given) (scene : Scene) → runs ≡ false → (made : List WorldStep) (next : Scene) → Nothing scene made next → HearsIf runs role what scene made next
hears_not true role what scene off made next none = absurd (cc)
hears_not false role what scene off made next none = none

pub hears_nothing : (role : Role) (what : Given) (cable : Cable) → (side (scene_of (cable_of cable)) role).runs ≡ false → IsOpen cable → Goes (Hears role what) cable cable
hears_nothing role what cable off ready = goes_as Nothing (Hears role what) cable cable (hears_not (side (scene_of (cable_of cable)) role).runs role what (scene_of (cable_of cable)) off) (goes_nothing cable ready)

pub hears_fed : (role : Role) (what : Given) (old mid new : Cable) → (side (scene_of (cable_of old)) role).runs ≡ true → IsFed role what old mid → Goes (IsPolledOut role) mid new → Goes (Hears role what) old new
hears_fed role what old mid new on feeds polled =
    goes_as (Then (Changes (given_to role what)) (IsPolledOut role)) (Hears role what) old new (hears_if (side (scene_of (cable_of old)) role).runs role what (scene_of (cable_of old)) on)
    (goes_then (Changes (given_to role what)) (IsPolledOut role) old mid new feeds.goes polled)

-- ---- a Quiet makes a running end busy

something : (dues : List Due) → is_nothing (dues ++ DueQuiet ∷ []) ≡ false
something [] = refl
something (one ∷ more) = refl

busy_if : (its : Side) → its.runs ≡ true → is_nothing (due its) ≡ false → is_busy its ≡ true
busy_if its on some = ap (λ (b : Bool). b && not (is_nothing (due its))) on ∙ ap not some

quiet_side : (its : Side) → its.runs ≡ true → is_busy (record its { log = with_fed its.log (given.Quiet 1) }) ≡ true
quiet_side its on =
    busy_if (record its { log = with_fed its.log (given.Quiet 1) }) on
    (ap is_nothing (due_by-fed its.log.plan.fed (record { given = given.Quiet 1; at = length its.log.calls }) its.log.calls refl) ∙ something (due its))

quiet_scene : (role : Role) (scene : Scene) → (side scene role).runs ≡ true → is_busy (side (fed scene role (given.Quiet 1)) role) ≡ true
quiet_scene Supplier scene on = quiet_side scene.supplier on
quiet_scene Receiver scene on = quiet_side scene.receiver on

fed_scene : (role : Role) (what : Given) (old mid : Cable) → IsFed role what old mid → scene_of (cable_of mid) ≡ fed (scene_of (cable_of old)) role what
fed_scene role what old mid feeds = let (none, same) = feeds.goes.goes in same

pub quiet_busy : (role : Role) (old mid : Cable) → (side (scene_of (cable_of old)) role).runs ≡ true → IsFed role (given.Quiet 1) old mid → is_busy (side (scene_of (cable_of mid)) role) ≡ true
quiet_busy role old mid on feeds = ap (λ (s : Scene). is_busy (side s role)) (fed_scene role (given.Quiet 1) old mid feeds) ∙ quiet_scene role (scene_of (cable_of old)) on

pub quiet_less : (role : Role) (old mid new : Cable) (r : Result (Unit {0}) Memory) → IsFed role (given.Quiet 1) old mid
    → (is_busy (side (scene_of (cable_of mid)) role) ≡ true → OnOk r (left_to_do new < left_to_do mid)) → (side (scene_of (cable_of old)) role).runs ≡ true → OnOk r (left_to_do new < left_to_do old)
quiet_less role old mid new r feeds less on =
    let same = feeds.left in on_ok_so r (less (quiet_busy role old mid on feeds)) (λ (l : left_to_do new < left_to_do mid). subst (λ (n : ℕ). left_to_do new < n) same l)

-- ---- fed

module _ (what : Given) (old new : Cable) (ready : IsOpen old) (waiting : new.waiting.items ≡ old.waiting.items) (setting : new.setting ≡ old.setting) (steps : new.steps.items ≡ old.steps.items) where
  pub feeds_handheld : new.handheld ≡ with_log old.handheld (with_fed old.handheld.log what) → new.receiver ≡ old.receiver → IsFed Supplier what old new
  feeds_handheld handheld receiver = record {
    goes = plans_handheld (with_fed old.handheld.log what).plan (given_to Supplier what) old new ready waiting setting steps refl handheld receiver;
    left = left_as new old (ap (λ (s : SeatView). s.player) handheld) (ap (λ (s : SeatView). s.player) receiver) (ap (λ (l : List Waiting). length l) waiting);
  }

  pub feeds_receiver : new.receiver ≡ with_log old.receiver (with_fed old.receiver.log what) → new.handheld ≡ old.handheld → IsFed Receiver what old new
  feeds_receiver receiver handheld = record {
    goes = plans_receiver (with_fed old.receiver.log what).plan (given_to Receiver what) old new ready waiting setting steps refl receiver handheld;
    left = left_as new old (ap (λ (s : SeatView). s.player) handheld) (ap (λ (s : SeatView). s.player) receiver) (ap (λ (l : List Waiting). length l) waiting);
  }
