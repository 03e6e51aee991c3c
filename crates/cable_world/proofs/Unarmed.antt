-- A station on which nothing is armed answers each call, and a restart leaves its image.
use Rattle.std.proofs.Common.{◌≡◌, ℕ, zero, suc, ◌+◌, ◌-◌, ◌≤◌, ◌<◌, ◌^◌, ◌==◌, min, Bool, true, false, List, [], ◌∷◌, ◌++◌, length, drop, refl, sym, ◌∙◌, ap, subst, arith, append_assoc, append-nil, if◌then◌else◌, is_some, Option, Some, None, Result, Ok, Err}
use Rattle.std.proofs.lemmas.Bool.Decides.{nat_tests}
use Rattle.dsd_station.specs.declared.failed.Failed.{Failed}
use Rattle.dsd_station.specs.declared.arming.ArmedFail.{ArmedFail}
use Rattle.dsd_station.specs.declared.arming.ArmedStop.{ArmedStop}
use Rattle.dsd_station.specs.declared.call.Pick.{Pick}
use Rattle.dsd_station.specs.declared.call.Outcome.{Outcome}
use Rattle.dsd_station.specs.declared.call.Outcome.TheVariants.{Done, Failing, Stopped}
use Rattle.dsd_station.specs.declared.call.Call.{Call}
use Rattle.dsd_station.specs.declared.call.Call.TheVariants.{Attach, Size, Read, Write, Sync, Listen, Speak, Restart}
use Rattle.dsd_station.specs.ByPlan.{EachAnswered, answered, counted_in, fail_off, is_counted, outcome_by, outcome_from, still_off, stop_at, stop_off, unless_stopped}
use Rattle.dsd_station.specs.Causes.{Rose}
use Rattle.dsd_station.specs.Failures.{failed_in, has_failed, is_failing, is_refused}
use Rattle.dsd_station.specs.Logged.{IsPlayed, Log, image_by, told_by}
use Rattle.dsd_station.specs.Planned.{Plan}
use Rattle.dsd_station.specs.Plans.{after_restart, disarmed}
use Rattle.dsd_station.specs.Replayed.{State, image_or, restarted, state_of, step}
use Rattle.dsd_station.proofs.Playing.{failed_in_fewer, faults_exact}
use Rattle.dsd_station.proofs.Tying.{state_push}
use Rattle.std.specs.Prelude.{IfOk}
use Rattle.dsd_values.specs.declared.fault.Memory.{Memory}
use Rattle.dsd_values.specs.declared.role.Role.{Role}
use Rattle.dsd_journal.specs.JournalImage.{Holds}
use Rattle.dsd_journal.specs.declared.entry.Entry.{Entry}
use Rattle.dsd_journal.specs.declared.header.Header.{Header}
use Rattle.delivery_book.specs.BookImages.{IsBookRefused}
use Rattle.delivery_book.specs.Books.{BookView}
use Rattle.delivery_book.specs.Signing.{Legal}
use Rattle.cable_world.specs.Finishing.{HoldsBook, IsOver, IsUnarmed}
use Rattle.cable_world.proofs.ByStation.{part_answered}

-- ---- a restart

restarted_image : (s : State) (left : Option (List ℕ)) → s.left ≡ left → image_or (restarted s left).left (restarted s left).journal ≡ image_or left s.journal
restarted_image s None none = ap (λ (l : Option (List ℕ)). image_or l s.journal) none
restarted_image s (Some image) some = refl

restarted_left : (s : State) (left : Option (List ℕ)) → s.left ≡ left → (restarted s left).left ≡ None
restarted_left s None none = none
restarted_left s (Some image) some = refl

behind_restart : (log : Log) → state_of (after_restart log).calls ≡ restarted (state_of log.calls) (state_of log.calls).left
behind_restart log = state_push log.calls (log.calls ++ Restart ∷ []) Restart refl

image_restarted : (log : Log) → image_by (after_restart log) ≡ image_by log
image_restarted log = ap (λ (s : State). image_or s.left s.journal) (behind_restart log) ∙ restarted_image (state_of log.calls) (state_of log.calls).left refl

pub left_restarted : (log : Log) → (state_of (after_restart log).calls).left ≡ None
left_restarted log = ap (λ (s : State). s.left) (behind_restart log) ∙ restarted_left (state_of log.calls) (state_of log.calls).left refl

-- ---- what has fallen stays so

counted_before : (calls more : List Call) → counted_in calls ≤ counted_in (calls ++ more)
counted_before [] more = omega arith
counted_before (call ∷ calls) more = let h = counted_before calls more in omega (arith, h)

counted_behind : (at : ℕ) (calls more : List Call) → counted_in (drop at calls) ≤ counted_in (drop at (calls ++ more))
counted_behind zero calls more = counted_before calls more
counted_behind (suc at) [] more = omega arith
counted_behind (suc at) (call ∷ calls) more = counted_behind at calls more

pub fail_stays : (armed : Option ArmedFail) (calls more : List Call) → fail_off armed calls ≡ 0 → fail_off armed (calls ++ more) ≡ 0
fail_stays None calls more off = refl
fail_stays (Some armed) calls more off = let h = counted_behind armed.at calls more in omega (arith, h, off)

pub stop_stays : (armed : Option ArmedStop) (calls more : List Call) → stop_off armed calls ≡ 0 → stop_off armed (calls ++ more) ≡ 0
stop_stays None calls more off = refl
stop_stays (Some armed) calls more off = let h = counted_behind armed.at calls more in omega (arith, h, off)

is_zero : (n : ℕ) → (n == 0) ≡ true → n ≡ 0
is_zero n is = grind (arith, nat_tests)

fail_disarmed : (armed : Option ArmedFail) (calls : List Call) (b : Bool) → (fail_off armed calls == 0) ≡ b → fail_off (if b then armed else None) calls ≡ 0
fail_disarmed armed calls true is = is_zero (fail_off armed calls) is
fail_disarmed armed calls false is = refl

stop_disarmed : (armed : Option ArmedStop) (calls : List Call) (b : Bool) → (stop_off armed calls == 0) ≡ b → stop_off (if b then armed else None) calls ≡ 0
stop_disarmed armed calls true is = is_zero (stop_off armed calls) is
stop_disarmed armed calls false is = refl

unarmed_restarted : (log : Log) → log.starved ≡ false → IsUnarmed (after_restart (disarmed log))
unarmed_restarted log not = record {
  unstarved = not;
  works = left_restarted (disarmed log);
  failure = fail_stays (disarmed log).plan.failure log.calls (Restart ∷ []) (fail_disarmed log.plan.failure log.calls (fail_off log.plan.failure log.calls == 0) refl);
  stop = stop_stays (disarmed log).plan.stop log.calls (Restart ∷ []) (stop_disarmed log.plan.stop log.calls (stop_off log.plan.stop log.calls == 0) refl);
}

-- ---- disarmed, and then restarted

both : (log mid next : Log) → mid ≡ disarmed log → next ≡ after_restart mid → next ≡ after_restart (disarmed log)
both log mid next disarms restarts = restarts ∙ ap after_restart disarms

pub unarmed_left : (log next : Log) → next ≡ after_restart (disarmed log) → log.starved ≡ false → IsUnarmed next
unarmed_left log next is not = subst IsUnarmed (sym is) (unarmed_restarted log not)

image_left : (log mid next : Log) → mid ≡ disarmed log → next ≡ after_restart mid → image_by next ≡ image_by log
image_left log mid next disarms restarts = ap image_by (both log mid next disarms restarts) ∙ image_restarted (disarmed log)

pub image_then : (log mid next last : Log) → mid ≡ disarmed log → next ≡ after_restart mid → image_by last ≡ image_by next → image_by last ≡ image_by log
image_then log mid next last disarms restarts same = same ∙ image_left log mid next disarms restarts

pub book_then : (role : Role) (result : Result BookView Memory) (log mid next : Log) → mid ≡ disarmed log → next ≡ after_restart mid → IfOk result (IsOver role (image_by next)) → IfOk result (IsOver role (image_by log))
book_then role result log mid next disarms restarts over = subst (λ (image : List ℕ). IfOk result (IsOver role image)) (image_left log mid next disarms restarts) over

-- ---- no call fails

no_stop : (armed : Option ArmedStop) (calls : List Call) → stop_off armed calls ≡ 0 → stop_at armed calls ≡ None
no_stop None calls off = refl
no_stop (Some armed) calls off = ap (λ (n : ℕ). if n == 1 then Some armed.pick else None) off

goes_well : (plan : Plan) (calls : List Call) → (state_of calls).left ≡ None → fail_off plan.failure calls ≡ 0 → stop_off plan.stop calls ≡ 0 → outcome_by plan calls ≡ Done
goes_well plan calls works failure stop =
    ap (λ (l : Option (List ℕ)). outcome_from (is_some l) (stop_at plan.stop calls) (fail_off plan.failure calls == 1)) works
    ∙ ap (λ (p : Option Pick). outcome_from false p (fail_off plan.failure calls == 1)) (no_stop plan.stop calls stop) ∙ ap (λ (n : ℕ). outcome_from false None (n == 1)) failure

is_answered : {T : Type 0} (calls : List Call) (answer : T) → (state_of calls).left ≡ None → is_refused (unless_stopped calls answer) ≡ false
is_answered {T} calls answer works = ap (λ (l : Option (List ℕ)). is_refused {T = T} (if is_some l then Err (record {}) else Ok answer)) works

answer_fine : (plan : Plan) (calls : List Call) (call : Call) → (state_of calls).left ≡ None → fail_off plan.failure calls ≡ 0 → stop_off plan.stop calls ≡ 0 → has_failed (answered plan calls call) ≡ false
answer_fine plan calls (Attach journal port answer) works failure stop = is_answered calls _ works
answer_fine plan calls (Size answer) works failure stop = is_answered calls _ works
answer_fine plan calls (Read at room answer) works failure stop = is_answered calls _ works
answer_fine plan calls (Write at bytes outcome) works failure stop = ap is_failing (goes_well plan calls works failure stop)
answer_fine plan calls (Sync outcome) works failure stop = ap is_failing (goes_well plan calls works failure stop)
answer_fine plan calls (Listen answer) works failure stop = is_answered calls _ works
answer_fine plan calls (Speak bytes outcome) works failure stop = ap is_failing (goes_well plan calls works failure stop)
answer_fine plan calls Restart works failure stop = refl

pub outcome_left : (s : State) (call : Call) → has_failed call ≡ false → s.left ≡ None → (step s call).left ≡ None
outcome_left s (Attach journal port (Ok done)) fine none = none
outcome_left s (Attach journal port (Err failed)) fine none = none
outcome_left s (Size answer) fine none = none
outcome_left s (Read at room answer) fine none = none
outcome_left s (Write at bytes Done) fine none = none
outcome_left s (Write at bytes Failing) fine none = none
outcome_left s (Write at bytes (Stopped pick)) fine none = absurd (cc)
outcome_left s (Sync Done) fine none = none
outcome_left s (Sync Failing) fine none = none
outcome_left s (Sync (Stopped pick)) fine none = absurd (cc)
outcome_left s (Listen (Ok answer)) fine none = none
outcome_left s (Listen (Err failed)) fine none = none
outcome_left s (Speak bytes Done) fine none = none
outcome_left s (Speak bytes Failing) fine none = none
outcome_left s (Speak bytes (Stopped pick)) fine none = absurd (cc)
outcome_left s Restart fine none = restarted_left s s.left refl

-- none of these calls has failed, and the station has not stopped
pub record AreFine (before part : List Call) : Type 0 where
  pub none : failed_in part ≡ 0
  pub works : (state_of (before ++ part)).left ≡ None

first_none : {n : ℕ} (b : Bool) → b ≡ false → n ≡ 0 → (if b then 1 else 0) + n ≡ 0
first_none {n} true fine none = absurd (cc)
first_none {n} false fine none = omega (arith, none)

fine_first : (before : List Call) (call : Call) (part : List Call) → has_failed call ≡ false → AreFine (before ++ call ∷ []) part → AreFine before (call ∷ part)
fine_first before call part fine rest = record {
  none = first_none (has_failed call) fine rest.none;
  works = subst (λ (l : List Call). (state_of l).left ≡ None) (append_assoc before (call ∷ []) part) rest.works;
}

pub all_fine : (plan : Plan) (before part : List Call) → (state_of before).left ≡ None → fail_off plan.failure before ≡ 0 → stop_off plan.stop before ≡ 0 → EachAnswered plan before part → AreFine before part
all_fine plan before [] works failure stop each = record { none = refl; works = subst (λ (l : List Call). (state_of l).left ≡ None) (sym (append-nil before)) works }
all_fine plan before (call ∷ part) works failure stop each =
    let fine : has_failed call ≡ false = ap has_failed each.0 ∙ answer_fine plan before call works failure stop in
    fine_first before call part fine
    (all_fine plan (before ++ call ∷ []) part (ap (λ (s : State). s.left) (state_push before (before ++ call ∷ []) call refl) ∙ outcome_left (state_of before) call fine works)
    (fail_stays plan.failure before (call ∷ []) failure) (stop_stays plan.stop before (call ∷ []) stop) each.1)

pub unarmed_fine : (log : Log) (part : List Call) → IsUnarmed log → EachAnswered log.plan log.calls part → AreFine log.calls part
unarmed_fine log part is each = all_fine log.plan log.calls part is.works is.failure is.stop each

-- ---- so a fault is want of memory

pub failed_joined : (a b : List Call) → failed_in (a ++ b) ≡ failed_in a + failed_in b
failed_joined [] b = omega arith
failed_joined (call ∷ a) b = let h = failed_joined a b in omega (arith, h)

pub rose_starved : (before after : Log) (part : List Call) → IsPlayed before → length before.calls < 2 ^ 63 → before.starved ≡ false → IsPlayed after → length after.calls < 2 ^ 63
    → after.calls ≡ before.calls ++ part → failed_in part ≡ 0 → Rose before.faults after.faults → after.starved ≡ true
rose_starved before after part was short not is long calls none rose = go after.starved refl
  where
    go : (b : Bool) → after.starved ≡ b → after.starved ≡ true
    go true starved = starved
    go false fed =
        let first = faults_exact before was short not in
        let last = faults_exact after is long fed in
        let fewer = failed_in_fewer before.calls in
        let sum : failed_in after.calls ≡ failed_in before.calls + failed_in part = ap failed_in calls ∙ failed_joined before.calls part in
        absurd (omega (arith, first, last, fewer, sum, none, short, rose))

-- ---- an opening behind it

pub image_is_journal : (log : Log) → (state_of log.calls).left ≡ None → image_by log ≡ (state_of log.calls).journal
image_is_journal log works = ap (λ (l : Option (List ℕ)). image_or l (state_of log.calls).journal) works

pub opened_fine : (before after : Log) (part : List Call) → IsUnarmed before → IsPlayed before → IsPlayed after → after.plan ≡ before.plan → after.calls ≡ before.calls ++ part → AreFine before.calls part
opened_fine before after part is was played plan calls = unarmed_fine before part is (part_answered before after part played plan was.since calls)

pub image_kept : (before after : Log) (part : List Call) → IsUnarmed before → AreFine before.calls part → after.calls ≡ before.calls ++ part → (state_of after.calls).journal ≡ (state_of before.calls).journal
    → image_by after ≡ image_by before
image_kept before after part is fine calls journal =
    image_is_journal after (subst (λ (l : List Call). (state_of l).left ≡ None) (sym calls) fine.works) ∙ journal ∙ sym (image_is_journal before is.works)

-- ---- the book over it

pub book_still : (role : Role) (log next : Log) → next ≡ after_restart (disarmed log) → HoldsBook role (image_by log) → HoldsBook role (image_by next)
book_still role log next is book = subst (HoldsBook role) (sym (ap image_by is ∙ image_restarted (disarmed log))) book

-- what holds the journal of an end with legal entries is not refused
abbrev IsNeverBoth : Type 0
IsNeverBoth = (role : Role) (image : List ℕ) (header : Header) (entries : List Entry) (place : ℕ) → Holds header entries image → header.role ≡ role → Legal role entries → IsBookRefused role image place → ⊥

pub never_refused : IsNeverBoth → (role : Role) (log : Log) → IsUnarmed log → HoldsBook role (image_by log) → (place : ℕ) → IsBookRefused role (told_by log).journal place → ⊥
never_refused never role log is book place refused =
    never role (state_of log.calls).journal book.header book.entries place (subst (Holds book.header book.entries) (image_is_journal log is.works) book.holds) book.own book.legal refused
