-- What a part of a station's record adds to what it tells.
use Rattle.std.proofs.Common.{◌≡◌, ℕ, ◌+◌, ◌-◌, ◌^◌, min, Bool, true, false, List, [], ◌∷◌, ◌++◌, refl, sym, ◌∙◌, ap, arith, if◌then◌else◌}
use Rattle.std.proofs.lemmas.Bool.Decides.{nat_tests}
use Rattle.std.proofs.lemmas.List.{append_cancel_left}
use Rattle.dsd_record.specs.Choices.{Chooser}
use Rattle.dsd_station.specs.declared.call.Call.{Call}
use Rattle.dsd_station.specs.declared.call.Reception.{Reception}
use Rattle.dsd_station.specs.Failures.{failed_in, has_failed}
use Rattle.dsd_station.specs.Feeds.{counted}
use Rattle.dsd_station.specs.Heard.{answers_in, said_in}
use Rattle.dsd_station.specs.Logged.{IsPlayed, Log, played, told_by}
use Rattle.dsd_station.specs.Planned.{Plan}
use Rattle.dsd_station.specs.Replayed.{state_of}
use Rattle.dsd_station.specs.Told.{Told}
use Rattle.dsd_station.proofs.Saying.{gone_is, heard_is}
use Rattle.dsd_journal.specs.Journals.{Rests}
use Rattle.dsd_journal.specs.declared.entry.Entry.{Entry}
use Rattle.dsd_journal.specs.declared.header.Header.{Header}
use Rattle.dsd_end.specs.EndCalls.{AreEndCalls, IsEndCall}
use Rattle.dsd_end.specs.RunSoFar.{Runs}
use Rattle.dsd_end.specs.Standings.{Standing}
use Rattle.cable_world.specs.Living.{AreCallsOf, MayPoll}
use Rattle.cable_world.specs.Scenes.{all_played}
use Rattle.cable_world.specs.SeatSteps.{told_of}
use Rattle.cable_world.specs.Steps.{Poll}
use Rattle.cable_world.proofs.JoinedRuns.{said_more}
use Rattle.cable_world.proofs.Taking.{all_played_calls, all_played_plan, answers_more}
use Rattle.dsd_station.specs.declared.call.Call.TheVariants.{Attach, Size, Read, Write, Sync, Listen, Speak, Restart}

pub heard_part : (before after part : List Call) (more : List Reception) → after ≡ before ++ part → (state_of after).heard ≡ (state_of before).heard ++ more → answers_in part ≡ more
heard_part before after part more calls told =
    append_cancel_left (answers_in before) (answers_in part) more
    (sym (answers_more before part) ∙ ap answers_in (sym calls) ∙ sym (heard_is after) ∙ told ∙ ap (λ (l : List Reception). l ++ more) (heard_is before))

pub gone_part : (before after part : List Call) (more : List ℕ) → after ≡ before ++ part → (state_of after).now.gone ≡ (state_of before).now.gone ++ more → said_in part ≡ more
gone_part before after part more calls told =
    append_cancel_left (said_in before) (said_in part) more
    (sym (said_more before part) ∙ ap said_in (sym calls) ∙ sym (gone_is after) ∙ told ∙ ap (λ (l : List ℕ). l ++ more) (gone_is before))

pub heard_grown : (before after part : List Call) → after ≡ before ++ part → (state_of after).heard ≡ (state_of before).heard ++ answers_in part
heard_grown before after part calls = heard_is after ∙ ap answers_in calls ∙ answers_more before part ∙ ap (λ (l : List Reception). l ++ answers_in part) (sym (heard_is before))

pub gone_grown : (before after part : List Call) → after ≡ before ++ part → (state_of after).now.gone ≡ (state_of before).now.gone ++ said_in part
gone_grown before after part calls = gone_is after ∙ ap said_in calls ∙ said_more before part ∙ ap (λ (l : List ℕ). l ++ said_in part) (sym (gone_is before))

-- ---- the record and the plan make the log

most : ℕ
most = 2 ^ 64 - 1

failed_more : (calls : List Call) (call : Call) → failed_in (calls ++ call ∷ []) ≡ failed_in calls + (if has_failed call then 1 else 0)
failed_more [] call = omega arith
failed_more (one ∷ calls) call = let more = failed_more calls call in omega (arith, more)

counts_one : (b : Bool) (faults n : ℕ) → faults ≡ min n (2 ^ 64 - 1) → (if b then counted faults else faults) ≡ min (n + (if b then 1 else 0)) (2 ^ 64 - 1)
counts_one true faults n is = grind (arith, nat_tests)
counts_one false faults n is = omega (arith, is)

faults_played : (log : Log) (part : List Call) → log.faults ≡ min (failed_in log.calls) (2 ^ 64 - 1) → (all_played log part).faults ≡ min (failed_in (all_played log part).calls) (2 ^ 64 - 1)
faults_played log [] is = is
faults_played log (call ∷ part) is =
    faults_played (played log call) part
    (counts_one (has_failed call) log.faults (failed_in log.calls) is ∙ ap (λ (n : ℕ). min n (2 ^ 64 - 1)) (sym (failed_more log.calls call)))

starved_played : (log : Log) (part : List Call) → (all_played log part).starved ≡ log.starved
starved_played log [] = refl
starved_played log (call ∷ part) = starved_played (played log call) part

same_log : (a b : Log) → a.calls ≡ b.calls → a.plan ≡ b.plan → a.faults ≡ b.faults → a.starved ≡ b.starved → a ≡ b
same_log a b calls plan faults starved =
    ap (λ (x : List Call). record { calls = x; plan = a.plan; faults = a.faults; starved = a.starved }) calls
    ∙ ap (λ (x : Plan). record { calls = b.calls; plan = x; faults = a.faults; starved = a.starved }) plan
    ∙ ap (λ (x : ℕ). record { calls = b.calls; plan = b.plan; faults = x; starved = a.starved }) faults
    ∙ ap (λ (x : Bool). record { calls = b.calls; plan = b.plan; faults = b.faults; starved = x }) starved

pub log_grown : (before after : Log) (part : List Call) → IsPlayed before → IsPlayed after → before.starved ≡ false → after.starved ≡ false → after.plan ≡ before.plan → after.calls ≡ before.calls ++ part
    → after ≡ all_played before part
log_grown before after part was is not none plan calls =
    let same : (all_played before part).calls ≡ after.calls = all_played_calls before part ∙ sym calls in
    same_log after (all_played before part) (sym same) (plan ∙ sym (all_played_plan before part))
    (is.faults none ∙ ap (λ (l : List Call). min (failed_in l) (2 ^ 64 - 1)) (sym same) ∙ sym (faults_played before part (was.faults not)))
    (none ∙ sym not ∙ sym (starved_played before part))

-- ---- the calls of a poll

call_of_poll : (call : Call) → IsEndCall call → MayPoll call
call_of_poll (Attach journal port answer) is = absurd is
call_of_poll (Size answer) is = absurd is
call_of_poll (Read at room answer) is = absurd is
call_of_poll (Write at bytes outcome) is = tt
call_of_poll (Sync outcome) is = tt
call_of_poll (Listen answer) is = tt
call_of_poll (Speak bytes outcome) is = is
call_of_poll Restart is = absurd is

pub calls_of_poll : (calls : List Call) → AreEndCalls calls → AreCallsOf Poll calls
calls_of_poll [] are = tt
calls_of_poll (call ∷ calls) are = (call_of_poll call are.0, calls_of_poll calls are.1)

-- ---- what is told by the record alone

-- a run is told of by what was heard, by the moments and by the bytes gone
pub runs_bare : (chooser : Chooser) (first : List Entry) (beginning : Told) (standing : Standing) (log : Log) → Runs chooser first beginning standing (told_by log) → Runs chooser first beginning standing (told_of log.calls)
runs_bare chooser first beginning standing log r =
    record { heard = r.heard; since = r.since; stops = record { during = r.stops.during; past = r.stops.past; each = r.stops.each; now = r.stops.now }; comes = r.comes }

pub runs_told : (chooser : Chooser) (first : List Entry) (beginning : Told) (standing : Standing) (log : Log) → Runs chooser first beginning standing (told_of log.calls) → Runs chooser first beginning standing (told_by log)
runs_told chooser first beginning standing log r =
    record { heard = r.heard; since = r.since; stops = record { during = r.stops.during; past = r.stops.past; each = r.stops.each; now = r.stops.now }; comes = r.comes }

pub rests_bare : (header : Header) (entries : List Entry) (log : Log) → Rests header entries (told_by log) → Rests header entries (told_of log.calls)
rests_bare header entries log r = record { holds = r.holds; synced = record { sure = r.synced.sure; writes = r.synced.writes } }

pub rests_told : (header : Header) (entries : List Entry) (log : Log) → Rests header entries (told_of log.calls) → Rests header entries (told_by log)
rests_told header entries log r = record { holds = r.holds; synced = record { sure = r.synced.sure; writes = r.synced.writes } }
