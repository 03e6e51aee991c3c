-- What holds of each station in memory holds after each call.
use Rattle.std.proofs.Common.{◌≡◌, ℕ, ◌+◌, ◌-◌, ◌^◌, ◌<◌, ◌≤◌, min, List, [], ◌∷◌, ◌++◌, length, take, drop, Bool, true, false, if◌then◌else◌, refl, sym, ◌∙◌, ap, subst, arith, Result, Ok, Err, length-append, append_assoc, append-nil, inl, inr}
use Rattle.std.proofs.lemmas.List.{take-append-drop, take-append-le, drop-append-le, drop_all}
use Rattle.dsd_station.specs.declared.failed.Failed.{Failed}
use Rattle.dsd_station.specs.declared.call.Call.{Call}
use Rattle.dsd_station.specs.Causes.{HasCause, Rose}
use Rattle.dsd_station.specs.Feeds.{counted}
use Rattle.dsd_station.specs.Planned.{Plan}
use Rattle.dsd_station.specs.Told.{Told}
use Rattle.dsd_station.specs.Replayed.{State, step, state_of, told_from, IsFine}
use Rattle.dsd_station.specs.ByPlan.{answered, EachAnswered}
use Rattle.dsd_station.specs.Failures.{has_failed, failed_in, is_refused}
use Rattle.dsd_station.specs.Logged.{Log, told_by, played, starving, planned, Plays, IsPlayed}
use Rattle.dsd_station.proofs.Saying.{heard_is, gone_is}
use Rattle.dsd_station.proofs.Tying.{state_push}
use Rattle.dsd_station.specs.Notes.{Fits}
use Rattle.dsd_station.proofs.Allowed.{fine_step}

pub each_push : (plan : Plan) (before calls : List Call) (c : Call) → EachAnswered plan before calls → c ≡ answered plan (before ++ calls) c → EachAnswered plan before (calls ++ c ∷ [])
each_push plan before [] c each is = (is ∙ ap (λ (l : List Call). answered plan l c) (append-nil before), tt)
each_push plan before (x ∷ calls) c each is =
    (each.0, each_push plan (before ++ x ∷ []) calls c each.1 (is ∙ ap (λ (l : List Call). answered plan l c) (sym (append_assoc before (x ∷ []) calls))))

failed_in-push : (calls : List Call) (c : Call) → failed_in (calls ++ c ∷ []) ≡ failed_in calls + (if has_failed c then 1 else 0)
failed_in-push [] c = omega arith
failed_in-push (x ∷ calls) c = let more = failed_in-push calls c in omega (arith, more)

one_at_most : (b : Bool) → (if b then 1 else 0) ≤ 1
one_at_most true = omega arith
one_at_most false = omega arith

-- no more calls failed than were made
pub failed_in_fewer : (calls : List Call) → failed_in calls ≤ length calls
failed_in_fewer [] = omega arith
failed_in_fewer (c ∷ calls) = let fewer = failed_in_fewer calls in let one = one_at_most (has_failed c) in omega (arith, fewer, one)

-- A record in memory is too short for the count of faults to stand at its last value: the count is how many calls of it failed, or
-- more where one failed for want of memory.
pub faults_exact : (log : Log) → IsPlayed log → length log.calls < 2 ^ 63 → log.starved ≡ false → log.faults ≡ failed_in log.calls
faults_exact log was short fed = let fewer = failed_in_fewer log.calls in let is = was.faults fed in omega (arith, fewer, short, is)

pub faults_wanted : (log : Log) → IsPlayed log → length log.calls < 2 ^ 63 → log.starved ≡ true → failed_in log.calls < log.faults
faults_wanted log was short starved = let fewer = failed_in_fewer log.calls in let rose = was.wanted starved in omega (arith, fewer, short, rose)

count_more : (b : Bool) (faults failed : ℕ) → faults ≡ min failed (2 ^ 64 - 1) → (if b then counted faults else faults) ≡ min (failed + (if b then 1 else 0)) (2 ^ 64 - 1)
count_more true faults failed is = omega (arith, is)
count_more false faults failed is = is ∙ ap (λ (n : ℕ). min n (2 ^ 64 - 1)) (let same : failed ≡ failed + 0 = omega arith in same)

wanted_more : (b : Bool) (faults failed more : ℕ) → more ≡ failed + (if b then 1 else 0) → Rose failed faults → Rose more (if b then counted faults else faults)
wanted_more true faults failed more is rose = omega (arith, is, rose)
wanted_more false faults failed more is rose = omega (arith, is, rose)

pub played_is : (log : Log) (c : Call) → IsPlayed log → c ≡ answered log.plan log.calls c → Fits (state_of log.calls) c → IsPlayed (played log c)
played_is log c was is fits =
    let since = log.plan.since in
    let long : length (log.calls ++ c ∷ []) ≡ length log.calls + 1 = omega (arith, length-append log.calls (c ∷ [])) in
    let front : take since (log.calls ++ c ∷ []) ≡ take since log.calls = take-append-le since log.calls (c ∷ []) was.since in
    let back : drop since (log.calls ++ c ∷ []) ≡ drop since log.calls ++ c ∷ [] = drop-append-le since log.calls (c ∷ []) was.since in
    let answer : c ≡ answered log.plan (take since log.calls ++ drop since log.calls) c = is ∙ ap (λ (l : List Call). answered log.plan l c) (sym (take-append-drop since log.calls)) in
    record {
      since = omega (arith, was.since, long);
      answers = subst (λ l. EachAnswered log.plan l (drop since (log.calls ++ c ∷ []))) (sym front)
          (subst (λ l. EachAnswered log.plan (take since log.calls) l) (sym back) (each_push log.plan (take since log.calls) (drop since log.calls) c was.answers answer));
      faults = λ fed. count_more (has_failed c) log.faults (failed_in log.calls) (was.faults fed) ∙ ap (λ (n : ℕ). min n (2 ^ 64 - 1)) (sym (failed_in-push log.calls c));
      wanted = λ starved. wanted_more (has_failed c) log.faults (failed_in log.calls) (failed_in (log.calls ++ c ∷ [])) (failed_in-push log.calls c) (was.wanted starved);
      fine = subst IsFine (sym (state_push log.calls (log.calls ++ c ∷ []) c refl)) (fine_step (state_of log.calls) c was.fine fits);
      heard = heard_is (log.calls ++ c ∷ []);
      said = gone_is (log.calls ++ c ∷ []);
    }

true_is_not_false : true ≡ false → ⊥
true_is_not_false e = cc

-- a fault that is not in the record
wanted_one : (b : Bool) (faults failed : ℕ) → (b ≡ false → faults ≡ min failed (2 ^ 64 - 1)) → (b ≡ true → Rose failed faults) → Rose failed (counted faults)
wanted_one true faults failed fed starved = let rose = starved refl in omega (arith, rose)
wanted_one false faults failed fed starved = let is = fed refl in omega (arith, is)

pub starving_is : (log : Log) → IsPlayed log → IsPlayed (starving log)
starving_is log was = record {
  since = was.since;
  answers = was.answers;
  faults = λ fed. absurd (true_is_not_false fed);
  wanted = λ starved. wanted_one log.starved log.faults (failed_in log.calls) was.faults was.wanted;
  fine = was.fine;
  heard = was.heard;
  said = was.said;
}

pub planned_is : (log : Log) (plan : Plan) → IsPlayed log → IsPlayed (planned log plan)
planned_is log plan was =
    let now : Plan = (planned log plan).plan in
    let none : drop (length log.calls) log.calls ≡ [] = drop_all (length log.calls) log.calls (omega arith) in
    record {
      since = omega arith;
      answers = subst (λ l. EachAnswered now (take (length log.calls) log.calls) l) (sym none) tt;
      faults = was.faults;
      wanted = was.wanted;
      fine = was.fine;
      heard = was.heard;
      said = was.said;
    }

-- what is told after a call, of what is told after it in the record and before it
pub plays_told : {T : Type 0} (P : Result T Failed → Told → Type 0) (c : Call) (answer result : Result T Failed) (old new : Log) → Plays c answer result old new
    → P answer (told_from (step (state_of old.calls) c) (old.calls ++ c ∷ []) old.plan) → P (Err (record {})) (told_by old) → P result (told_by new)
plays_told P c answer result old new (inl (is, so)) done none =
    let told = ap told_by is ∙ ap (λ (s : State). told_from s (old.calls ++ c ∷ []) old.plan) (state_push old.calls (old.calls ++ c ∷ []) c refl) in
    subst (λ t. P result t) (sym told) (subst (λ r. P r (told_from (step (state_of old.calls) c) (old.calls ++ c ∷ []) old.plan)) (sym so) done)
plays_told P c answer result old new (inr (is, so)) done none = subst (λ t. P result t) (sym (ap told_by is)) (subst (λ r. P r (told_by old)) (sym so) none)

cause_at : {T : Type 0} (b : Bool) (result : Result T Failed) (old new : ℕ) → old < 2 ^ 64 → b ≡ is_refused result → new ≡ (if b then counted old else old) → HasCause old new result
cause_at true (Ok x) old new small b is = absurd (true_is_not_false b)
cause_at true (Err e) old new small b is = record { later = omega (arith, is); failed = omega (arith, is); kept = tt }
cause_at false (Ok x) old new small b is = record { later = omega (arith, is); failed = tt; kept = is }
cause_at false (Err e) old new small b is = absurd (true_is_not_false (sym b))

pub plays_cause : {T : Type 0} (c : Call) (answer result : Result T Failed) (old new : Log) → Plays c answer result old new → has_failed c ≡ is_refused answer → old.faults < 2 ^ 64 → HasCause old.faults new.faults result
plays_cause c answer result old new (inl (is, so)) fails small = cause_at (has_failed c) result old.faults new.faults small (fails ∙ ap is_refused (sym so)) (ap (λ (l : Log). l.faults) is)
plays_cause c answer result old new (inr (is, so)) fails small =
    let more : new.faults ≡ counted old.faults = ap (λ (l : Log). l.faults) is in
    subst (λ r. HasCause old.faults new.faults r) (sym so) (record { later = omega (arith, more); failed = omega (arith, more); kept = tt })

pub played_after : {T : Type 0} (c : Call) (answer result : Result T Failed) (old new : Log) → Plays c answer result old new → IsPlayed old → c ≡ answered old.plan old.calls c → Fits (state_of old.calls) c → IsPlayed new
played_after c answer result old new (inl (is, so)) was by fits = subst IsPlayed (sym is) (played_is old c was by fits)
played_after c answer result old new (inr (is, so)) was by fits = subst IsPlayed (sym is) (starving_is old was)

pub counts_on : (b : Bool) (faults n sum : ℕ) → sum ≡ min (faults + n) (2 ^ 64 - 1) → n ≡ (if b then 1 else 0) → faults < 2 ^ 64 → sum ≡ (if b then counted faults else faults)
counts_on true faults n sum is one small = omega (arith, is, one)
counts_on false faults n sum is none small = omega (arith, is, none, small)
