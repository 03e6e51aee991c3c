-- What an opening of an end does at its station in memory.
use Rattle.std.specs.Prelude.{◌≡◌, List, ◌∷◌, Option, Some, None, Result, Ok, Err, IfOk}
use Rattle.dsd_values.specs.declared.role.Role.{Role}
use Rattle.dsd_record.specs.Choices.{Chooser}
use Rattle.dsd_station.specs.declared.call.Call.{Call}
use Rattle.dsd_station.specs.declared.call.Call.TheVariants.{Restart}
use Rattle.dsd_station.specs.ByPlan.{EachAnswered}
use Rattle.dsd_station.specs.Logged.{Log}
use Rattle.dsd_station.specs.Plans.{after_restart}
use Rattle.dsd_station.specs.Replayed.{state_of}
use Rattle.dsd_station.specs.Told.{Told}
use Rattle.dsd_journal.specs.JournalImage.{Holds}
use Rattle.dsd_journal.specs.declared.opening.OpenFault.{OpenFault}
use Rattle.delivery_book.specs.Signing.{Legal}
use Rattle.dsd_end.specs.RunSoFar.{Runs}
use Rattle.dsd_end.specs.Standings.{first_standing}
use Rattle.cable_world.specs.Faulting.{TellsOpening}
use Rattle.cable_world.specs.Leaving.{AreUnwriting}
use Rattle.cable_world.specs.Living.{AreCallsOf}
use Rattle.cable_world.specs.Players.{PlayerView, chooser_by}
use Rattle.cable_world.specs.Scenes.{all_played}
use Rattle.cable_world.specs.SeatSteps.{IsPollable, told_of}
use Rattle.cable_world.specs.Seats.{SeatView}
use Rattle.cable_world.specs.Steps.{Opening}
use Rattle.cable_world.specs.declared.answer.Answer.{Answer}
use Rattle.cable_world.specs.declared.answer.Answer.TheVariants.{NotOpened, Opened}

-- An end that was opened over a journal: it stands first over the entries that the journal holds, and a run begins.
pub record IsFirst (role : Role) (chooser : Chooser) (player : PlayerView) (before after : List Call) : Type 0 where
  pub chooser_is : chooser_by player.choices ≡ chooser
  pub role_is : player.book.header.role ≡ role
  pub pollable : IsPollable player after
  pub holds : Holds player.book.header player.book.entries (state_of after).journal
  pub legal : Legal role player.book.entries
  pub standing : player.standing ≡ first_standing player.book.header player.book.entries
  pub beginning : Told
  pub heard : beginning.heard ≡ (state_of before).heard
  pub gone : beginning.now.gone ≡ (state_of before).now.gone
  pub runs : Runs chooser player.book.entries beginning player.standing (told_of after)

-- The station restarts, and the end is opened, or not. Nothing is written or said.
pub record PlayerOpens (role : Role) (chooser : Chooser) (result : Result PlayerView OpenFault) (before after : Log) : Type 0 where
  pub part : List Call
  pub log : after ≡ all_played (after_restart before) part
  pub answers : EachAnswered (after_restart before).plan (after_restart before).calls part
  pub calls : AreCallsOf Opening part
  pub unwriting : AreUnwriting (state_of before.calls) (Restart ∷ part)
  pub tells : TellsOpening role result part (state_of after.calls).journal
  pub ok : IfOk result (λ player. IsFirst role chooser player (after_restart before).calls after.calls)

abbrev pub opening_answer : Result PlayerView OpenFault → Answer
opening_answer (Ok player) = Opened
opening_answer (Err fault) = NotOpened fault

abbrev pub player_in : Result PlayerView OpenFault → Option PlayerView
player_in (Ok player) = Some player
player_in (Err fault) = None

-- An opening at a seat, behind a restart of its station.
pub record SeatStarts (role : Role) (chooser : Chooser) (answer : Answer) (old new : SeatView) : Type 0 where
  pub opened : Result PlayerView OpenFault
  pub opens : PlayerOpens role chooser opened old.log new.log
  pub answer_is : answer ≡ opening_answer opened
  pub now : new.player ≡ player_in opened
  pub spoken : new.spoken ≡ old.spoken
  pub refused : new.refused ≡ 0
