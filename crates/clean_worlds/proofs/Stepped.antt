-- What one step makes of a scene, and feeding.
use Rattle.std.proofs.Common.{◌≡◌, ◌≤◌, ◌+◌, ℕ, None, if◌then◌else◌, Bool, true, false, ◌&&◌, List, [], ◌∷◌, ◌++◌, length, map, refl, sym, ◌∙◌, ap, subst, arith, append_assoc, append-nil, length-append}
use Rattle.std.specs.Prelude.{not}
use Rattle.dsd_values.specs.declared.role.Role.{Role}
use Rattle.dsd_values.specs.declared.role.Role.TheVariants.{Receiver, Supplier}
use Rattle.dsd_station.specs.declared.call.Call.{Call}
use Rattle.dsd_station.specs.declared.feeding.Given.{Given}
use Rattle.dsd_station.specs.declared.feeding.Given.TheVariants as given
use Rattle.dsd_station.specs.ByPlan.{due_by}
use Rattle.dsd_station.specs.Failures.{failed_in, has_failed}
use Rattle.dsd_station.specs.Logged.{Log, played}
use Rattle.dsd_station.specs.Placed.{EachFedBy}
use Rattle.dsd_station.specs.Planned.{Due, DueByte, Plan}
use Rattle.dsd_station.specs.Plans.{with_fed}
use Rattle.dsd_station.specs.Replayed.{State, state_of}
use Rattle.dsd_station.proofs.Planning.{due_by-fed, fed_later, fed_more}
use Rattle.dsd_station.proofs.Tying.{state_push}
use Rattle.cable_world.specs.Scenes.{Scene, Side, all_played, due, fed, is_busy, is_nothing, sent_to, side, side_stepped, stepped, with_side, with_waiting}
use Rattle.cable_world.specs.Steps.{WorldStep, frames_in, other}
use Rattle.cable_world.proofs.Unarmed.{outcome_left}

-- ---- sides

own_side : (role : Role) (scene : Scene) (its : Side) (waiting : List (Role × List ℕ)) → side (with_waiting (with_side scene role its) waiting) role ≡ its
own_side Supplier scene its waiting = refl
own_side Receiver scene its waiting = refl

other_side : (role : Role) (scene : Scene) (its : Side) (waiting : List (Role × List ℕ)) → side (with_waiting (with_side scene role its) waiting) (other role) ≡ side scene (other role)
other_side Supplier scene its waiting = refl
other_side Receiver scene its waiting = refl

abbrev stepped_as : Role → Scene → WorldStep → Scene
stepped_as role scene step = with_waiting (with_side scene role (side_stepped (side scene role) step)) (scene.waiting ++ sent_to (other role) (frames_in step.part))

module _ (role : Role) (scene : Scene) (step : WorldStep) (own : step.role ≡ role) where
  pub stepped_own : side (stepped scene step) role ≡ side_stepped (side scene role) step
  stepped_own = ap (λ (r : Role). side (stepped_as r scene step) role) own ∙ own_side role scene (side_stepped (side scene role) step) (scene.waiting ++ sent_to (other role) (frames_in step.part))

  pub stepped_other : side (stepped scene step) (other role) ≡ side scene (other role)
  stepped_other = ap (λ (r : Role). side (stepped_as r scene step) (other role)) own ∙ other_side role scene (side_stepped (side scene role) step) (scene.waiting ++ sent_to (other role) (frames_in step.part))

  pub stepped_waiting : (stepped scene step).waiting ≡ scene.waiting ++ sent_to (other role) (frames_in step.part)
  stepped_waiting = ap (λ (r : Role). scene.waiting ++ sent_to (other r) (frames_in step.part)) own

pub fed_own : (role : Role) (scene : Scene) (what : Given) → side (fed scene role what) role ≡ record (side scene role) { log = with_fed (side scene role).log what }
fed_own Supplier scene what = refl
fed_own Receiver scene what = refl

pub fed_other : (role : Role) (scene : Scene) (what : Given) → side (fed scene role what) (other role) ≡ side scene (other role)
fed_other Supplier scene what = refl
fed_other Receiver scene what = refl

pub fed_waiting : (role : Role) (scene : Scene) (what : Given) → (fed scene role what).waiting ≡ scene.waiting
fed_waiting Supplier scene what = refl
fed_waiting Receiver scene what = refl

pub sent_more : (role : Role) (a b : List (List ℕ)) → sent_to role (a ++ b) ≡ sent_to role a ++ sent_to role b
sent_more role [] b = refl
sent_more role (frame ∷ a) b = ap (λ (l : List (Role × List ℕ)). (role, frame) ∷ l) (sent_more role a b)

-- ---- logs

pub all_played_calls : (log : Log) (part : List Call) → (all_played log part).calls ≡ log.calls ++ part
all_played_calls log [] = sym (append-nil log.calls)
all_played_calls log (call ∷ part) = all_played_calls (played log call) part ∙ append_assoc log.calls (call ∷ []) part

all_played_plan : (log : Log) (part : List Call) → (all_played log part).plan ≡ log.plan
all_played_plan log [] = refl
all_played_plan log (call ∷ part) = all_played_plan (played log call) part

pub played_due : (log : Log) (part : List Call) → due_by (all_played log part).plan.fed (all_played log part).calls ≡ due_by log.plan.fed (log.calls ++ part)
played_due log part =
    ap (λ (p : Plan). due_by p.fed (all_played log part).calls) (all_played_plan log part) ∙ ap (due_by log.plan.fed) (all_played_calls log part)

pub played_fed : (log : Log) (part : List Call) → EachFedBy (length log.calls) log.plan.fed → EachFedBy (length (all_played log part).calls) (all_played log part).plan.fed
played_fed log part fed =
    let longer : length log.calls ≤ length (log.calls ++ part) = omega (arith, length-append log.calls part) in
    let on = fed_later log.plan.fed (length log.calls) (length (log.calls ++ part)) longer fed in
    subst (λ (p : Plan). EachFedBy (length (all_played log part).calls) p.fed) (sym (all_played_plan log part))
    (subst (λ (l : List Call). EachFedBy (length l) log.plan.fed) (sym (all_played_calls log part)) on)

-- a station that works still does behind calls of which none failed
left_played : (calls part : List Call) → (state_of calls).left ≡ None → failed_in part ≡ 0 → (state_of (calls ++ part)).left ≡ None
left_played calls [] works none = subst (λ (l : List Call). (state_of l).left ≡ None) (sym (append-nil calls)) works
left_played calls (call ∷ part) works none =
    let (fine, rest) = first_fine (has_failed call) (failed_in part) none in
    subst (λ (l : List Call). (state_of l).left ≡ None) (append_assoc calls (call ∷ []) part)
    (left_played (calls ++ call ∷ []) part (ap (λ (s : State). s.left) (state_push calls (calls ++ call ∷ []) call refl) ∙ outcome_left (state_of calls) call fine works) rest)
  where
    first_fine : (b : Bool) (n : ℕ) → (if b then 1 else 0) + n ≡ 0 → (b ≡ false) × (n ≡ 0)
    first_fine true n e = absurd (omega (arith, e))
    first_fine false n e = (refl, omega (arith, e))

pub works_played : (log : Log) (part : List Call) → (state_of log.calls).left ≡ None → failed_in part ≡ 0 → (state_of (all_played log part).calls).left ≡ None
works_played log part works none = subst (λ (l : List Call). (state_of l).left ≡ None) (sym (all_played_calls log part)) (left_played log.calls part works none)

-- bytes that are fed where nothing is due are what is due
pub bytes_due : (its : Side) (bytes : List ℕ) → due its ≡ [] → due (record its { log = with_fed its.log (given.Bytes bytes) }) ≡ map DueByte bytes
bytes_due its bytes none =
    due_by-fed its.log.plan.fed (record { given = given.Bytes bytes; at = length its.log.calls }) its.log.calls refl ∙ ap (λ (l : List Due). l ++ map DueByte bytes) none

pub bytes_fed : (its : Side) (what : Given) → EachFedBy (length its.log.calls) its.log.plan.fed → EachFedBy (length (with_fed its.log what).calls) (with_fed its.log what).plan.fed
bytes_fed its what fed = fed_more its.log.plan.fed (record { given = what; at = length its.log.calls }) (length its.log.calls) fed (omega arith)

-- ---- busy

and_false : (a : Bool) → (a && false) ≡ true → ⊥
and_false true e = absurd (cc)
and_false false e = absurd (cc)

pub not_busy : (its : Side) → due its ≡ [] → is_busy its ≡ true → ⊥
not_busy its none busy = and_false its.runs (sym (ap (λ (l : List Due). its.runs && not (is_nothing l)) none) ∙ busy)

pub not_idle : (its : Side) (one : Due) (more : List Due) → its.runs ≡ true → due its ≡ one ∷ more → is_busy its ≡ false → ⊥
not_idle its one more on some idle =
    let busy : is_busy its ≡ true = ap (λ (r : Bool). r && not (is_nothing (due its))) on ∙ ap (λ (l : List Due). not (is_nothing l)) some in
    absurd (cc)

pub busy_runs : (its : Side) → is_busy its ≡ true → its.runs ≡ true
busy_runs its busy = and_left its.runs (not (is_nothing (due its))) busy
  where
    and_left : (a b : Bool) → (a && b) ≡ true → a ≡ true
    and_left true b e = refl
    and_left false b e = absurd (cc)
