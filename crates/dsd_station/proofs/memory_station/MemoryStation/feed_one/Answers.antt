use Rattle.std.proofs.Common.{◌≡◌, ℕ, List, [], ◌∷◌, ◌++◌, length, sym, ◌∙◌, ap, subst, arith}
use Rattle.dsd_station.specs.declared.feeding.Fed.{Fed}
use Rattle.dsd_station.specs.Planned.{Due, dues_of}
use Rattle.dsd_station.specs.ByPlan.{due_by}
use Rattle.dsd_station.specs.Cursors.{due_at, IsIn}
use Rattle.dsd_station.specs.Logged.{IsPlayed}
use Rattle.dsd_station.specs.Placed.{log_of, EachFedBy}
use Rattle.dsd_station.proofs.Planning.{due_by-fed, due_at-append, is_in-append, fed_more}
use Rattle.dsd_station.proofs.Playing.{planned_is}
use Rattle.dsd_station.proofs.memory_station.MemoryStation.feed_one.Goals as goal

pub invariant_of-self-2 : goal.invariant_of-self-2
invariant_of-self-2 c =
    let inside = c.self.inside in
    let was = c.self.invariant in
    let fed = inside.fed.items in
    let one : Fed = record { given = c.args.given; at = c.len-at.result } in
    let now : c.len-at.result ≡ length inside.tape = c.len-at.ensures.value in
    let more : c.push.new.self.items ≡ fed ++ one ∷ [] = c.in_ok-push.ensures.items in
    record {
      due = ap (λ (l : List Fed). due_at l inside.cursor) more ∙ due_at-append fed one inside.cursor was.inside ∙ ap (λ (l : List Due). l ++ dues_of c.args.given) was.due
          ∙ sym (ap (λ (l : List Fed). due_by l inside.tape) more ∙ due_by-fed fed one inside.tape now);
      inside = subst (λ (l : List Fed). IsIn l inside.cursor) (sym more) (is_in-append fed one inside.cursor was.inside);
      fed = subst (λ (l : List Fed). EachFedBy (length inside.tape) l) (sym more) (fed_more fed one (length inside.tape) was.fed (omega (arith, now)));
      failure = was.failure;
      failure_at = was.failure_at;
      stop = was.stop;
      stop_at = was.stop_at;
      played = subst (λ (l : List Fed). IsPlayed (record { calls = inside.tape; plan = record { fed = l; failure = inside.failure; stop = inside.stop; since = c.len-at.result }; faults = inside.faults; starved = inside.starved })) (sym more)
          (subst (λ (n : ℕ). IsPlayed (record { calls = inside.tape; plan = record { fed = fed ++ one ∷ []; failure = inside.failure; stop = inside.stop; since = n }; faults = inside.faults; starved = inside.starved })) (sym now)
          (planned_is (log_of inside) (record { fed = fed ++ one ∷ []; failure = inside.failure; stop = inside.stop; since = inside.since }) was.played));
    }
