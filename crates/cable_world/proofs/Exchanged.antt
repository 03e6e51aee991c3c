-- Rounds in which the ends of a cable exchange until none runs, and courses that are gone many times.
use Rattle.std.proofs.Common.{◌≡◌, ◌<◌, ◌≤◌, Bool, true, false, ℕ, zero, suc, List, [], ◌∷◌, Result, OnOk, refl, sym, ◌∙◌, ap, subst, arith, length}
use Rattle.std.specs.Prelude.{◌||◌}
use Rattle.dsd_values.specs.declared.fault.Memory.{Memory}
use Rattle.dsd_values.specs.declared.role.Role.TheVariants.{Receiver, Supplier}
use Rattle.dsd_values.specs.declared.role.Role.{Role}
use Rattle.dsd_station.specs.declared.feeding.Given.TheVariants as given
use Rattle.cable_world.specs.CableSteps.{Goes, IsOpen}
use Rattle.cable_world.specs.Cables.{cable_of, scene_of}
use Rattle.cable_world.specs.Obeying.{Course, Delivers, Exchanges, Hears, HearsIf, IsRound, IsRoundOf, Nothing, Then, Times, unchanged}
use Rattle.cable_world.specs.CableLeft.{left_to_do}
use Rattle.cable_world.specs.Scenes.{Scene, some_runs}
use Rattle.cable_world.specs.Steps.{WorldStep}
use Rattle.cable_world.specs.declared.cable.Cable.{Cable}
use Rattle.cable_world.proofs.Going.{goes_as, goes_nothing, goes_then, on_ok_so}

-- ---- so many times

pub times_more : (one : Course) (n k : ℕ) (at mid new : Cable) → suc k ≡ n → Goes one at mid → Goes (Times k one) mid new → Goes (Times n one) at new
times_more one n k at mid new e first rest = subst (λ (m : ℕ). Goes (Times m one) at new) e (goes_then one (Times k one) at mid new first rest)

times_idle : (one : Course) (scene : Scene) → one scene [] scene → (n : ℕ) → Times n one scene [] scene
times_idle one scene idle zero = (refl, refl)
times_idle one scene idle (suc n) = record { between = scene; first = []; rest = []; joined = refl; before = idle; behind = times_idle one scene idle n }

times_none : (one : Course) (n : ℕ) (scene : Scene) → one scene [] scene → (made : List WorldStep) (next : Scene) → Nothing scene made next → Times n one scene made next
times_none one n scene idle made next (none, same) =
    subst (λ (l : List WorldStep). Times n one scene l next) (sym none) (subst (λ (s : Scene). Times n one scene [] s) (sym same) (times_idle one scene idle n))

-- a course that does nothing here does nothing many times
pub goes_no_more : (one : Course) (n : ℕ) (at : Cable) → IsOpen at → one (scene_of (cable_of at)) [] (scene_of (cable_of at)) → Goes (Times n one) at at
goes_no_more one n at ready idle = goes_as Nothing (Times n one) at at (times_none one n (scene_of (cable_of at)) idle) (goes_nothing at ready)

pub goes_none : (one : Course) (n : ℕ) (at : Cable) → n ≡ 0 → IsOpen at → Goes (Times n one) at at
goes_none one n at e ready = subst (λ (m : ℕ). Goes (Times m one) at at) (sym e) (goes_nothing at ready)

-- ---- both ends hear that nothing comes

hears_off : (runs : Bool) (scene : Scene) (made : List WorldStep) (next : Scene) → runs ≡ false → HearsIf runs Supplier (given.Quiet 1) scene made next → next ≡ scene
hears_off true scene made next off hears = absurd (cc)
hears_off false scene made next off (none, same) = same

other_runs : (a b : Bool) → (a || b) ≡ true → a ≡ false → b ≡ true
other_runs true b some off = absurd (cc)
other_runs false b some off = some

both_of : (old mid new : Cable) (r : Result (Unit {0}) Memory) (runs : Bool) → (scene_of (cable_of old)).supplier.runs ≡ runs → (runs ≡ false → (scene_of (cable_of mid)).receiver.runs ≡ true) → left_to_do mid ≤ left_to_do old
    → ((scene_of (cable_of old)).supplier.runs ≡ true → left_to_do mid < left_to_do old) → OnOk r (left_to_do new ≤ left_to_do mid)
    → ((scene_of (cable_of mid)).receiver.runs ≡ true → OnOk r (left_to_do new < left_to_do mid)) → OnOk r (left_to_do new < left_to_do old)
both_of old mid new r true is on left less left' less' = on_ok_so r left' (λ (l : left_to_do new ≤ left_to_do mid). let a = less is in omega (arith, a, l))
both_of old mid new r false is on left less left' less' = on_ok_so r (less' (on refl)) (λ (l : left_to_do new < left_to_do mid). omega (arith, left, l))

pub both_less : (old mid new : Cable) (r : Result (Unit {0}) Memory) → Goes (Hears Supplier (given.Quiet 1)) old mid → left_to_do mid ≤ left_to_do old
    → ((scene_of (cable_of old)).supplier.runs ≡ true → left_to_do mid < left_to_do old) → OnOk r (left_to_do new ≤ left_to_do mid)
    → ((scene_of (cable_of mid)).receiver.runs ≡ true → OnOk r (left_to_do new < left_to_do mid)) → some_runs (scene_of (cable_of old)) ≡ true → OnOk r (left_to_do new < left_to_do old)
both_less old mid new r goes left less left' less' some =
    both_of old mid new r (scene_of (cable_of old)).supplier.runs refl
    (λ off.
    ap (λ (s : Scene). s.receiver.runs) (hears_off (scene_of (cable_of old)).supplier.runs (scene_of (cable_of old)) _ (scene_of (cable_of mid)) off goes.goes)
    ∙ other_runs (scene_of (cable_of old)).supplier.runs (scene_of (cable_of old)).receiver.runs some off)
    left less left' less'

-- ---- rounds

round_if : (waits : List (Role × List ℕ)) (scene : Scene) → scene.waiting ≡ waits → waits ≡ [] → (made : List WorldStep) (next : Scene)
    → Then (Hears Supplier (given.Quiet 1)) (Hears Receiver (given.Quiet 1)) scene made next → IsRoundOf waits scene made next
round_if [] scene is none made next both = both
round_if (one ∷ waits) scene is none made next both = absurd (cc)

round_else : (waits : List (Role × List ℕ)) (scene : Scene) → 0 < length waits → (made : List WorldStep) (next : Scene) → Delivers unchanged scene made next → IsRoundOf waits scene made next
round_else [] scene some made next delivers = absurd (omega (arith, some))
round_else (one ∷ waits) scene some made next delivers = delivers

pub quiet_round : (old new : Cable) → (scene_of (cable_of old)).waiting ≡ [] → Goes (Then (Hears Supplier (given.Quiet 1)) (Hears Receiver (given.Quiet 1))) old new → Goes IsRound old new
quiet_round old new none goes =
    goes_as (Then (Hears Supplier (given.Quiet 1)) (Hears Receiver (given.Quiet 1))) IsRound old new (round_if (scene_of (cable_of old)).waiting (scene_of (cable_of old)) refl none) goes

pub delivering_round : (old new : Cable) → 0 < length (scene_of (cable_of old)).waiting → Goes (Delivers unchanged) old new → Goes IsRound old new
delivering_round old new some goes = goes_as (Delivers unchanged) IsRound old new (round_else (scene_of (cable_of old)).waiting (scene_of (cable_of old)) some) goes

rounds_then : (scene : Scene) → some_runs scene ≡ true → (made : List WorldStep) (next : Scene) → Then IsRound Exchanges scene made next → Exchanges scene made next
rounds_then scene some made next then =
    let (n, rounds) = then.behind in (suc n, (some, record { between = then.between; first = then.first; rest = then.rest; joined = then.joined; before = then.before; behind = rounds }))

pub exchanges_more : (at mid new : Cable) → some_runs (scene_of (cable_of at)) ≡ true → Goes IsRound at mid → Goes Exchanges mid new → Goes Exchanges at new
exchanges_more at mid new some round rest = goes_as (Then IsRound Exchanges) Exchanges at new (rounds_then (scene_of (cable_of at)) some) (goes_then IsRound Exchanges at mid new round rest)

rounds_none : (scene : Scene) → some_runs scene ≡ false → (made : List WorldStep) (next : Scene) → Nothing scene made next → Exchanges scene made next
rounds_none scene none made next nothing = (0, (none, nothing))

pub exchanges_no_more : (at : Cable) → some_runs (scene_of (cable_of at)) ≡ false → IsOpen at → Goes Exchanges at at
exchanges_no_more at none ready = goes_as Nothing Exchanges at at (rounds_none (scene_of (cable_of at)) none) (goes_nothing at ready)
