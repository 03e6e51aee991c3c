use Rattle.std.proofs.Common.{rules, refl, ◌≡◌, ◌≤◌, ℕ, List, [], ◌∷◌, ◌++◌, length, sym, ◌∙◌, ap, subst, arith, length-append}
use Rattle.dsd_station.specs.declared.feeding.Fed.{Fed}
use Rattle.dsd_station.specs.declared.call.Call.{Call}
use Rattle.dsd_station.specs.declared.call.Call.TheVariants.{Restart}
use Rattle.dsd_station.specs.ByPlan.{due_by, fail_off, stop_off}
use Rattle.dsd_station.specs.Cursors.{due_at, IsIn}
use Rattle.dsd_station.specs.Logged.{IsPlayed, played}
use Rattle.dsd_station.specs.Placed.{log_of, EachFedBy}
use Rattle.dsd_station.proofs.Planning.{due_by_none, fail_off-push, stop_off-push, fail_armed_later, stop_armed_later}
use Rattle.dsd_station.proofs.Playing.{played_is, planned_is}
use Rattle.dsd_station.proofs.memory_station.MemoryStation.restart.Goals as goal

pub invariant_of-self-2 : goal.invariant_of-self-2
invariant_of-self-2 c =
    let inside = c.self.inside in
    let was = c.self.invariant in
    let none : c.clear.new.self.items ≡ [] = c.clear.ensures.items in
    let tape : c.play.new.self ≡ inside.tape ++ Restart ∷ [] = search rules in
    let longer : length inside.tape ≤ length c.play.new.self = omega (arith, ap length tape, length-append inside.tape (Restart ∷ [])) in
    let now : c.len-self-inside.result ≡ length (inside.tape ++ Restart ∷ []) = c.len-self-inside.ensures.value ∙ ap length tape in
    let fail_in : inside.fail_in ≡ fail_off inside.failure (inside.tape ++ Restart ∷ []) = omega (arith, was.failure, fail_off-push inside.failure inside.tape Restart was.failure_at) in
    let stop_in : inside.stop_in ≡ stop_off inside.stop (inside.tape ++ Restart ∷ []) = omega (arith, was.stop, stop_off-push inside.stop inside.tape Restart was.stop_at) in
    record {
      due = ap (λ (l : List Fed). due_at l (record { head = 0; offset = 0 })) none ∙ due_by_none c.play.new.self ∙ sym (ap (λ (l : List Fed). due_by l c.play.new.self) none);
      inside = subst (λ (l : List Fed). IsIn l (record { head = 0; offset = 0 })) (sym none) (record { head = omega arith; piece = refl });
      fed = subst (λ (l : List Fed). EachFedBy (length c.play.new.self) l) (sym none) tt;
      failure = fail_in ∙ ap (λ (l : List Call). fail_off inside.failure l) (sym tape);
      failure_at = fail_armed_later inside.failure (length inside.tape) (length c.play.new.self) longer was.failure_at;
      stop = stop_in ∙ ap (λ (l : List Call). stop_off inside.stop l) (sym tape);
      stop_at = stop_armed_later inside.stop (length inside.tape) (length c.play.new.self) longer was.stop_at;
      played = subst (λ (l : List Fed). IsPlayed (record { calls = c.play.new.self; plan = record { fed = l; failure = inside.failure; stop = inside.stop; since = c.len-self-inside.result }; faults = inside.faults; starved = inside.starved })) (sym none)
          (subst (λ (n : ℕ). IsPlayed (record { calls = c.play.new.self; plan = record { fed = []; failure = inside.failure; stop = inside.stop; since = n }; faults = inside.faults; starved = inside.starved })) (sym now)
          (subst (λ (l : List Call). IsPlayed (record { calls = l; plan = record { fed = []; failure = inside.failure; stop = inside.stop; since = length (inside.tape ++ Restart ∷ []) }; faults = inside.faults; starved = inside.starved })) (sym tape)
          (planned_is (played (log_of inside) Restart) (record { fed = []; failure = inside.failure; stop = inside.stop; since = inside.since }) (played_is (log_of inside) Restart was.played refl tt))));
    }
