-- An end whose session has ended rests.
use Rattle.std.proofs.Common.{Some, Result, Ok, Err}
use Rattle.std.specs.Prelude.{IfOk, OnOk}
use Rattle.dsd_station.specs.Logged.{IsPlayed, Log, told_by}
use Rattle.dsd_journal.specs.Journals.{Rests}
use Rattle.dsd_end.specs.declared.end.Turn.{Turn}
use Rattle.dsd_end.specs.declared.end.Turn.TheVariants as turns
use Rattle.dsd_end.specs.declared.fault.EndFault.{EndFault}
use Rattle.dsd_end.specs.declared.fault.EndFault.TheVariants as ends
use Rattle.cable_world.specs.Players.{PlayerView}
use Rattle.cable_world.specs.Seats.{RestsIfEnded}
use Rattle.cable_world.specs.SeatSteps.{noted_answer}
use Rattle.cable_world.proofs.Held.{held_at_rest}
use Rattle.cable_world.proofs.Partly.{rests_bare}

pub ended_rests : (polled : Result Turn EndFault) (player : PlayerView) (log : Log) → IsPlayed log → OnOk polled (Rests player.book.header player.book.known (told_by log))
    → IfOk (noted_answer polled) (λ answer. RestsIfEnded answer (Some player) log)
ended_rests (Ok turns.Running) player log is rests = tt
ended_rests (Ok (turns.Ended end)) player log is rests = held_at_rest player.book.header player.book.known log.calls is.fine (rests_bare player.book.header player.book.known log rests)
ended_rests (Err ends.Station) player log is rests = tt
ended_rests (Err (ends.Full length)) player log is rests = tt
ended_rests (Err (ends.Noise count)) player log is rests = tt
ended_rests (Err ends.Failed) player log is rests = tt
ended_rests (Err ends.Memory) player log is rests = tt
