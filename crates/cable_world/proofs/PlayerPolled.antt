-- A poll of an end, by what its calls tell.
use Rattle.std.proofs.Common.{◌≡◌, ℕ, ◌<◌, ◌^◌, length, Bool, true, false, List, ◌++◌, refl, sym, ◌∙◌, subst, Result, Ok, Err}
use Rattle.std.specs.Prelude.{IfOk, OnErr, OnOk}
use Rattle.dsd_values.specs.declared.fault.Memory.{Memory}
use Rattle.dsd_record.specs.Choices.{Chooser}
use Rattle.dsd_station.specs.declared.call.Call.{Call}
use Rattle.dsd_station.specs.Failures.{failed_in}
use Rattle.dsd_station.specs.Logged.{IsPlayed, Log, image_by, told_by}
use Rattle.dsd_station.specs.Replayed.{IsFine, state_of}
use Rattle.dsd_station.specs.Told.{Told}
use Rattle.dsd_journal.specs.JournalImage.{Holds}
use Rattle.dsd_journal.specs.Journals.{Rests}
use Rattle.dsd_journal.specs.declared.entry.Entry.{Entry}
use Rattle.dsd_journal.specs.declared.header.Header.{Header}
use Rattle.dsd_end.specs.declared.end.Turn.{Turn}
use Rattle.dsd_end.specs.declared.end.Turn.TheVariants as turns
use Rattle.dsd_end.specs.declared.fault.EndFault.{EndFault}
use Rattle.dsd_end.specs.declared.fault.EndFault.TheVariants as ends
use Rattle.dsd_end.specs.EndCalls.{MakesCalls}
use Rattle.dsd_end.specs.EndFaults.{EndsAtStation, IfNoise, IsNoise}
use Rattle.dsd_end.specs.EndSeen.{turn_at}
use Rattle.dsd_end.specs.FullTurns.{IfEndFull, PollFull}
use Rattle.dsd_end.specs.Patience.{CostsPatience, patience}
use Rattle.dsd_end.specs.Polls.{HearsOnce, Polled as PollsOnce, with_flags}
use Rattle.dsd_end.specs.RunSoFar.{Runs}
use Rattle.dsd_end.specs.Standings.{Standing}
use Rattle.dsd_end.proofs.PollsJoined.{running_goes}
use Rattle.cable_world.specs.Diligence.{PollsTo, Steps}
use Rattle.cable_world.specs.Noted.{kind_of, runs_by}
use Rattle.cable_world.specs.Players.{PlayerView, chooser_by}
use Rattle.cable_world.specs.SeatSteps.{IsPollable, PlayerPolls, noted_answer}
use Rattle.cable_world.specs.Steps.{Poll}
use Rattle.cable_world.specs.declared.answer.Answer.{Answer}
use Rattle.cable_world.specs.declared.answer.Answer.TheVariants.{Broken, Ended, Running}
use Rattle.cable_world.proofs.ByStation.{part_answered}
use Rattle.cable_world.proofs.Held.{held_at_rest}
use Rattle.cable_world.proofs.Failing.{Counts, counts_so, finds_full, kept_fine, rose_failed}
use Rattle.cable_world.proofs.Partly.{calls_of_poll, gone_part, heard_part, log_grown, rests_bare, runs_bare, runs_told}

-- what the clauses of a poll say
pub record Clauses (result : Result Turn EndFault) (old new : PlayerView) (before after : Log) : Type 0 where
  pub chooser : chooser_by new.choices ≡ chooser_by old.choices
  pub cause : EndsAtStation result before.faults after.faults
  pub full : IfEndFull result (PollFull (Unit {0}) (chooser_by old.choices) old.standing (told_by before) (told_by after))
  pub header : new.book.header ≡ old.book.header
  pub only : result ≡ Err ends.Failed → old.standing.failed ≡ true
  pub fails : OnErr result (new.standing.failed ≡ true)
  pub fine : OnOk result (new.standing.failed ≡ false)
  pub turn : IfOk result (λ turn. turn ≡ turn_at new.standing.line)
  pub patience : OnOk result (CostsPatience old.standing new.standing)
  pub noise : IfNoise result (λ count. IsNoise new.standing count × PollsOnce (Unit {0}) (chooser_by old.choices) old.standing (with_flags new.standing false false) (told_by before) (told_by after))
  pub rests : OnOk result (Rests new.book.header new.book.known (told_by after))
  pub talk : HearsOnce (told_by before) (told_by after)
  pub calls : MakesCalls (told_by before) (told_by after)
  pub step : OnOk result (PollsOnce (Unit {0}) (chooser_by old.choices) old.standing new.standing (told_by before) (told_by after))
  pub runs : (first : List Entry) (beginning : Told) → Runs (chooser_by old.choices) first beginning old.standing (told_by before) → Runs (chooser_by old.choices) first beginning new.standing (told_by after)
  pub entries : new.book.known ≡ new.standing.desk.entries
  pub titled : new.standing.header ≡ new.book.header

steps_so : (chooser : Chooser) (old new : Standing) (before after : Log) (part : List Call) → after.calls ≡ before.calls ++ part → failed_in part ≡ 0 → (one : PollsOnce (Unit {0}) chooser old new (told_by before) (told_by after)) → Steps chooser old part one.done
steps_so chooser old new before after part calls fine one = record {
  heard = one.heard;
  next = one.next;
  listened = heard_part before.calls after.calls part _ calls (one.told tt).listened;
  said = gone_part before.calls after.calls part _ calls (one.told tt).gone;
  fine = fine;
}

-- by cases on what was answered
record Answered (answer : Answer) (old new : PlayerView) (after : Log) (part : List Call) : Type 0 where
  kind : kind_of answer ≡ Poll
  polls : PollsTo answer (chooser_by old.choices) old.standing part new.standing
  pollable : runs_by answer ≡ true → IsPollable new after.calls
  patience : runs_by answer ≡ true → patience new.standing < patience old.standing

not_false : (b : Bool) → b ≡ false → b ≡ true → ⊥
not_false b f t = cc

same_ok : (r : Result Answer Memory) (a b : Answer) → r ≡ Ok a → r ≡ Ok b → a ≡ b
same_ok r a b x y = cc

answered_so : (result : Result Turn EndFault) (old new : PlayerView) (before after : Log) (c : Clauses result old new before after) → Counts before after c.calls.more → old.standing.failed ≡ false
    → (answer : Answer) → noted_answer result ≡ Ok answer → Answered answer old new after c.calls.more
answered_so (Ok turns.Running) old new before after c counts fine answer is = subst (λ (a : Answer). Answered a old new after c.calls.more) (same_ok (noted_answer (Ok turns.Running)) Running answer refl is) (record {
  kind = refl;
  polls = (c.step.done, steps_so (chooser_by old.choices) old.standing new.standing before after c.calls.more c.calls.calls (kept_fine before after c.calls.more counts c.cause) c.step, c.turn, c.step.comes);
  pollable = λ runs. record { fine = c.fine; titled = c.titled; rests = rests_bare new.book.header new.book.known after c.rests };
  patience = λ runs. c.patience.less (running_goes new.standing.line c.turn);
})
answered_so (Ok (turns.Ended end)) old new before after c counts fine answer is = subst (λ (a : Answer). Answered a old new after c.calls.more) (same_ok (noted_answer (Ok (turns.Ended end))) (Ended end) answer refl is) (record {
  kind = refl;
  polls = (c.step.done, steps_so (chooser_by old.choices) old.standing new.standing before after c.calls.more c.calls.calls (kept_fine before after c.calls.more counts c.cause) c.step, c.turn, c.step.comes);
  pollable = λ runs. absurd (not_false false refl runs);
  patience = λ runs. absurd (not_false false refl runs);
})
answered_so (Err ends.Station) old new before after c counts fine answer is = subst (λ (a : Answer). Answered a old new after c.calls.more) (same_ok (noted_answer (Err ends.Station)) (Broken ends.Station) answer refl is) (record {
  kind = refl;
  polls = rose_failed before after c.calls.more counts c.cause.1;
  pollable = λ runs. absurd (not_false false refl runs);
  patience = λ runs. absurd (not_false false refl runs);
})
answered_so (Err (ends.Full length)) old new before after c counts fine answer is = subst (λ (a : Answer). Answered a old new after c.calls.more) (same_ok (noted_answer (Err (ends.Full length))) (Broken (ends.Full length)) answer refl is) (record {
  kind = refl;
  polls = finds_full (chooser_by old.choices) old.standing before after c.calls.more length c.calls.calls c.full (kept_fine before after c.calls.more counts c.cause);
  pollable = λ runs. absurd (not_false false refl runs);
  patience = λ runs. absurd (not_false false refl runs);
})
answered_so (Err (ends.Noise count)) old new before after c counts fine answer is = subst (λ (a : Answer). Answered a old new after c.calls.more) (same_ok (noted_answer (Err (ends.Noise count))) (Broken (ends.Noise count)) answer refl is) (record {
  kind = refl;
  polls = (
    c.noise.0,
    (c.noise.1.done, steps_so (chooser_by old.choices) old.standing (with_flags new.standing false false) before after c.calls.more c.calls.calls (kept_fine before after c.calls.more counts c.cause) c.noise.1, c.noise.1.comes),
  );
  pollable = λ runs. absurd (not_false false refl runs);
  patience = λ runs. absurd (not_false false refl runs);
})
answered_so (Err ends.Failed) old new before after c counts fine answer is = absurd (not_false old.standing.failed fine (c.only refl))
answered_so (Err ends.Memory) old new before after c counts fine answer is = absurd (differ (record {}) answer is)
  where
    differ : (memory : Memory) (a : Answer) → Err memory ≡ Ok a → ⊥
    differ memory a e = cc

-- what the book knows is in the journal behind a poll without a fault, and all of it is sure
holds_behind : (result : Result Turn EndFault) (old new : PlayerView) (before after : Log) → Clauses result old new before after → IsFine (state_of after.calls) → new.standing.failed ≡ false
    → Holds new.standing.header new.standing.desk.entries (image_by after)
holds_behind (Ok turn) old new before after c now fine =
    let held : Holds new.book.header new.book.known (image_by after) = held_at_rest new.book.header new.book.known after.calls now (rests_bare new.book.header new.book.known after c.rests) in
    subst (λ (h : Header). Holds h new.standing.desk.entries (image_by after)) (sym c.titled) (subst (λ (l : List Entry). Holds new.book.header l (image_by after)) c.entries held)
holds_behind (Err fault) old new before after c now fine = absurd (not_false new.standing.failed fine c.fails)

pub player_polled : (result : Result Turn EndFault) (old new : PlayerView) (before after : Log) (c : Clauses result old new before after) → IsPollable old before.calls → IsPlayed before → IsPlayed after
    → before.starved ≡ false → after.starved ≡ false → length after.calls < 2 ^ 63 → (answer : Answer) → noted_answer result ≡ Ok answer → PlayerPolls answer old new before after
player_polled result old new before after c able was now not none short answer is =
    let counts : Counts before after c.calls.more = counts_so before after c.calls.more was now not none short c.calls.calls in
    let so : Answered answer old new after c.calls.more = answered_so result old new before after c counts able.fine answer is in
    record {
      part = c.calls.more;
      log = log_grown before after c.calls.more was now not none c.talk.keeps.plan c.calls.calls;
      answers = part_answered before after c.calls.more now c.talk.keeps.plan was.since c.calls.calls;
      calls = calls_of_poll c.calls.more c.calls.each;
      kind = so.kind;
      polls = so.polls;
      chooser = c.chooser;
      titled = c.titled ∙ c.header ∙ sym able.titled;
      runs = λ first beginning runs. runs_bare (chooser_by old.choices) first beginning new.standing after (c.runs first beginning (runs_told (chooser_by old.choices) first beginning old.standing before runs));
      fine = now.fine;
      holds = holds_behind result old new before after c now.fine;
      pollable = so.pollable;
      patience = so.patience;
    }

-- of an answer that may be one
pub if_ok : {T E : Type 0} (r : Result T E) (P : T → Type 0) → ((value : T) → r ≡ Ok value → P value) → IfOk r P
if_ok {T} {E} (Ok value) P f = f value refl
if_ok {T} {E} (Err fault) P f = tt

pub if_ok_so : {T E : Type 0} (r : Result T E) (P Q : T → Type 0) → IfOk r P → ((value : T) → P value → Q value) → IfOk r Q
if_ok_so {T} {E} (Ok value) P Q is f = f value is
if_ok_so {T} {E} (Err fault) P Q is f = tt
