-- A station on which nothing armed is left: its calls go well, and it stays so.
use Rattle.std.proofs.Common.{◌≡◌, List, [], ◌∷◌, None, sym, subst}
use Rattle.dsd_values.specs.declared.role.Role.{Role}
use Rattle.dsd_station.specs.declared.call.Call.{Call}
use Rattle.dsd_station.specs.declared.call.Call.TheVariants.{Restart}
use Rattle.dsd_station.specs.declared.feeding.Given.{Given}
use Rattle.dsd_station.specs.ByPlan.{EachAnswered}
use Rattle.dsd_station.specs.Logged.{Log, played}
use Rattle.dsd_station.specs.Plans.{after_restart, with_fed}
use Rattle.dsd_station.specs.Replayed.{state_of}
use Rattle.cable_world.specs.Scenes.{Scene, Side, all_played, restarted, side, stepped}
use Rattle.cable_world.specs.Steps.{WorldStep}
use Rattle.cable_world.proofs.Unarmed.{AreFine, all_fine, fail_stays, left_restarted, stop_stays}
use Rattle.clean_worlds.specs.Faultless.{IsSpared}
use Rattle.clean_worlds.proofs.Opened.{restarted_own}
use Rattle.clean_worlds.proofs.Stepped.{all_played_calls, stepped_own}

pub calls_well : (log : Log) (part : List Call) → (state_of log.calls).left ≡ None → IsSpared log → EachAnswered log.plan log.calls part → AreFine log.calls part
calls_well log part works is each = all_fine log.plan log.calls part works is.failure is.stop each

spared_played : (log : Log) (part : List Call) → IsSpared log → IsSpared (all_played log part)
spared_played log [] is = is
spared_played log (call ∷ part) is =
    spared_played (played log call) part (record { failure = fail_stays log.plan.failure log.calls (call ∷ []) is.failure; stop = stop_stays log.plan.stop log.calls (call ∷ []) is.stop })

pub spared_fed : (log : Log) (given : Given) → IsSpared log → IsSpared (with_fed log given)
spared_fed log given is = record { failure = is.failure; stop = is.stop }

pub spared_restarted : (log : Log) → IsSpared log → IsSpared (after_restart log)
spared_restarted log is = record { failure = fail_stays log.plan.failure log.calls (Restart ∷ []) is.failure; stop = stop_stays log.plan.stop log.calls (Restart ∷ []) is.stop }

-- a step of this end
pub spared_stepped : (role : Role) (scene : Scene) (step : WorldStep) → step.role ≡ role → IsSpared (side scene role).log → IsSpared (side (stepped scene step) role).log
spared_stepped role scene step own is = subst (λ (s : Side). IsSpared s.log) (sym (stepped_own role scene step own)) (spared_played (side scene role).log step.part is)

-- and its station works behind it
pub works_stepped : (role : Role) (scene : Scene) (step : WorldStep) → step.role ≡ role → AreFine (side scene role).log.calls step.part → (state_of (side (stepped scene step) role).log.calls).left ≡ None
works_stepped role scene step own fine =
    subst (λ (s : Side). (state_of s.log.calls).left ≡ None) (sym (stepped_own role scene step own))
    (subst (λ (l : List Call). (state_of l).left ≡ None) (sym (all_played_calls (side scene role).log step.part)) fine.works)

-- ---- behind a restart

pub spared_again : (role : Role) (scene : Scene) → IsSpared (side scene role).log → IsSpared (side (restarted scene role) role).log
spared_again role scene is = subst (λ (s : Side). IsSpared s.log) (sym (restarted_own role scene)) (spared_restarted (side scene role).log is)

pub works_again : (role : Role) (scene : Scene) → (state_of (side (restarted scene role) role).log.calls).left ≡ None
works_again role scene = subst (λ (s : Side). (state_of s.log.calls).left ≡ None) (sym (restarted_own role scene)) (left_restarted (side scene role).log)
