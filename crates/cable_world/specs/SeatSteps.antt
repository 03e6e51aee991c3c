-- What an end's opening and polls do at its station in memory.
use Rattle.std.specs.Prelude.{◌≡◌, ◌<◌, ◌++◌, true, false, if◌then◌else◌, List, Some, None, Result, Ok, Err}
use Rattle.dsd_station.specs.declared.call.Call.{Call}
use Rattle.dsd_station.specs.ByPlan.{EachAnswered}
use Rattle.dsd_station.specs.Logged.{Log, image_by}
use Rattle.dsd_station.specs.Planned.{no_plan}
use Rattle.dsd_station.specs.Replayed.{IsFine, state_of, told_from}
use Rattle.dsd_station.specs.Told.{Told}
use Rattle.dsd_journal.specs.JournalImage.{Holds}
use Rattle.dsd_journal.specs.Journals.{Rests}
use Rattle.dsd_journal.specs.declared.entry.Entry.{Entry}
use Rattle.dsd_values.specs.declared.fault.Memory.{Memory}
use Rattle.dsd_end.specs.declared.end.Turn.{Turn}
use Rattle.dsd_end.specs.declared.end.Turn.TheVariants as turns
use Rattle.dsd_end.specs.declared.fault.EndFault.{EndFault}
use Rattle.dsd_end.specs.declared.fault.EndFault.TheVariants as ends
use Rattle.dsd_end.specs.Patience.{patience}
use Rattle.dsd_end.specs.RunSoFar.{Runs}
use Rattle.cable_world.specs.Diligence.{PollsTo}
use Rattle.cable_world.specs.Living.{AreCallsOf}
use Rattle.cable_world.specs.Noted.{kind_of, runs_by}
use Rattle.cable_world.specs.Players.{PlayerView, chooser_by}
use Rattle.cable_world.specs.Scenes.{all_played}
use Rattle.cable_world.specs.Seats.{SeatView}
use Rattle.cable_world.specs.Steps.{Poll}
use Rattle.cable_world.specs.declared.answer.Answer.{Answer}
use Rattle.cable_world.specs.declared.answer.Answer.TheVariants.{Broken, Ended, Running}

-- what a station in memory tells by its record alone
abbrev pub told_of : List Call → Told
told_of calls = told_from (state_of calls) calls no_plan

-- the record is the old one with calls behind it
pub record Grows (before after : Log) : Type 0 where
  pub more : List Call
  pub calls : after.calls ≡ before.calls ++ more

-- an end that can be polled: no call of it has answered a fault, and the journal holds what it knows
pub record IsPollable (player : PlayerView) (calls : List Call) : Type 0 where
  pub fine : player.standing.failed ≡ false
  pub titled : player.standing.header ≡ player.book.header
  pub rests : Rests player.book.header player.book.known (told_of calls)

-- A poll of an end at its station.
pub record PlayerPolls (answer : Answer) (old new : PlayerView) (before after : Log) : Type 0 where
  pub part : List Call
  pub log : after ≡ all_played before part
  pub answers : EachAnswered before.plan before.calls part
  pub calls : AreCallsOf Poll part
  pub kind : kind_of answer ≡ Poll
  pub polls : PollsTo answer (chooser_by old.choices) old.standing part new.standing
  pub chooser : chooser_by new.choices ≡ chooser_by old.choices
  pub titled : new.standing.header ≡ old.standing.header
  pub runs : (first : List Entry) (beginning : Told) → Runs (chooser_by old.choices) first beginning old.standing (told_of before.calls)
      → Runs (chooser_by old.choices) first beginning new.standing (told_of after.calls)
  pub fine : IsFine (state_of after.calls)
  pub holds : new.standing.failed ≡ false → Holds new.standing.header new.standing.desk.entries (image_by after)
  pub pollable : runs_by answer ≡ true → IsPollable new after.calls
  pub patience : runs_by answer ≡ true → patience new.standing < patience old.standing

-- what is noted of the answer of a poll; want of memory is not noted
abbrev pub noted_answer : Result Turn EndFault → Result Answer Memory
noted_answer (Ok turns.Running) = Ok Running
noted_answer (Ok (turns.Ended end)) = Ok (Ended end)
noted_answer (Err ends.Station) = Ok (Broken ends.Station)
noted_answer (Err (ends.Full length)) = Ok (Broken (ends.Full length))
noted_answer (Err (ends.Noise count)) = Ok (Broken (ends.Noise count))
noted_answer (Err ends.Failed) = Ok (Broken ends.Failed)
noted_answer (Err ends.Memory) = Err (record {})

-- A seat that can go on: its station has found memory for each call, and its end, where it runs, can be polled.
pub record IsReady (seat : SeatView) : Type 0 where
  pub unstarved : seat.log.starved ≡ false
  pub pollable : (player : PlayerView) → seat.player ≡ Some player → IsPollable player seat.log.calls

-- A poll of a seat's end. Its frames are not gathered yet.
pub record SeatPolls (answer : Answer) (old new : SeatView) : Type 0 where
  pub player : PlayerView
  pub last : PlayerView
  pub was : old.player ≡ Some player
  pub polls : PlayerPolls answer player last old.log new.log
  pub now : new.player ≡ (if runs_by answer then Some last else None)
  pub spoken : new.spoken ≡ old.spoken
  pub refused : new.refused ≡ last.standing.desk.refused
