use Rattle.std.proofs.Common.{rules, ◌≡◌, ◌≤◌, ◌<◌, ◌^◌, ℕ, List, [], ◌∷◌, ◌++◌, length, if◌then◌else◌, sym, ◌∙◌, ap, subst, arith, length-append}
use Rattle.dsd_station.specs.declared.call.Call.{Call}
use Rattle.dsd_station.specs.Feeds.{counted}
use Rattle.dsd_station.specs.Replayed.{state_of}
use Rattle.dsd_station.specs.ByPlan.{answered, due_after, due_by, fail_off, stop_off}
use Rattle.dsd_station.specs.Cursors.{due_at, IsIn}
use Rattle.dsd_station.specs.Failures.{has_failed}
use Rattle.dsd_station.specs.Logged.{Log, IsPlayed}
use Rattle.dsd_station.specs.Notes.{Fits}
use Rattle.dsd_station.specs.Placed.{log_of}
use Rattle.dsd_station.proofs.Planning.{due_by-push, fail_off-push, stop_off-push, fail_armed_later, stop_armed_later, fed_later}
use Rattle.dsd_station.proofs.Playing.{played_is, counts_on}
use Rattle.dsd_station.proofs.memory_station.MemoryStation.play.Goals as goal

pub invariant_of-self-2 : goal.invariant_of-self-2
invariant_of-self-2 c =
    let inside = c.self.inside in
    let was = c.self.invariant in
    let call = c.args.call in
    let fed = inside.fed.items in
    let tape : c.play.new.self ≡ inside.tape ++ call ∷ [] = search rules in
    let longer : length inside.tape ≤ length c.play.new.self = omega (arith, ap length tape, length-append inside.tape (call ∷ [])) in
    let fits = subst (λ (log : Log). Fits (state_of log.calls) call) (sym c.self.view_is) c.requires.fits in
    let answer = subst (λ (log : Log). call ≡ answered log.plan log.calls call) (sym c.self.view_is) c.requires.answer in
    let placed = subst (λ (log : Log). IsIn log.plan.fed c.args.cursor) (sym c.self.view_is) c.requires.inside in
    let due = subst (λ (log : Log). due_at log.plan.fed c.args.cursor ≡ due_after call (due_by log.plan.fed log.calls)) (sym c.self.view_is) c.requires.due in
    let fail_in : c.saturating_sub-self-inside.result ≡ fail_off inside.failure (inside.tape ++ call ∷ []) =
    omega (arith, c.saturating_sub-self-inside.ensures, c.steps_of-steps.ensures, was.failure, fail_off-push inside.failure inside.tape call was.failure_at) in
    let stop_in : c.saturating_sub-self-inside-2.result ≡ stop_off inside.stop (inside.tape ++ call ∷ []) =
    omega (arith, c.saturating_sub-self-inside-2.ensures, c.steps_of-steps.ensures, was.stop, stop_off-push inside.stop inside.tape call was.stop_at) in
    let small : inside.faults < 2 ^ 64 = omega (arith, c.self.ranges) in
    let faults : c.saturating_add-self-inside-2.result ≡ (if has_failed call then counted inside.faults else inside.faults) = counts_on (has_failed call) inside.faults c.failures_of-failures.result _ c.saturating_add-self-inside-2.ensures c.failures_of-failures.ensures small in
    record {
      due = due ∙ due_by-push fed inside.tape call was.fed ∙ ap (λ (l : List Call). due_by fed l) (sym tape);
      inside = placed;
      fed = fed_later fed (length inside.tape) (length c.play.new.self) longer was.fed;
      failure = fail_in ∙ ap (λ (l : List Call). fail_off inside.failure l) (sym tape);
      failure_at = fail_armed_later inside.failure (length inside.tape) (length c.play.new.self) longer was.failure_at;
      stop = stop_in ∙ ap (λ (l : List Call). stop_off inside.stop l) (sym tape);
      stop_at = stop_armed_later inside.stop (length inside.tape) (length c.play.new.self) longer was.stop_at;
      played = subst (λ (l : List Call). IsPlayed (record { calls = l; plan = (log_of inside).plan; faults = c.saturating_add-self-inside-2.result; starved = inside.starved })) (sym tape)
          (subst (λ (n : ℕ). IsPlayed (record { calls = inside.tape ++ call ∷ []; plan = (log_of inside).plan; faults = n; starved = inside.starved })) (sym faults)
          (played_is (log_of inside) call was.played answer fits));
    }

pub returns-clause-played : goal.returns-clause-played
returns-clause-played c =
    let inside = c.self.inside in
    let was = c.self.invariant in
    let call = c.args.call in
    let tape : c.play.new.self ≡ inside.tape ++ call ∷ [] = search rules in
    let fits = subst (λ (log : Log). Fits (state_of log.calls) call) (sym c.self.view_is) c.requires.fits in
    let answer = subst (λ (log : Log). call ≡ answered log.plan log.calls call) (sym c.self.view_is) c.requires.answer in
    let small : inside.faults < 2 ^ 64 = omega (arith, c.self.ranges) in
    let faults : c.saturating_add-self-inside-2.result ≡ (if has_failed call then counted inside.faults else inside.faults) = counts_on (has_failed call) inside.faults c.failures_of-failures.result _ c.saturating_add-self-inside-2.ensures c.failures_of-failures.ensures small in
    subst (λ (l : List Call). IsPlayed (record { calls = l; plan = (log_of inside).plan; faults = c.saturating_add-self-inside-2.result; starved = inside.starved })) (sym tape)
    (subst (λ (n : ℕ). IsPlayed (record { calls = inside.tape ++ call ∷ []; plan = (log_of inside).plan; faults = n; starved = inside.starved })) (sym faults)
    (played_is (log_of inside) call was.played answer fits))
