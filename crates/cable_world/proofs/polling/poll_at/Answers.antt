use Rattle.std.proofs.Common.{sym, ◌∙◌, subst, Some, Result}
use Rattle.std.specs.Prelude.{IfOk}
use Rattle.dsd_values.specs.declared.fault.Memory.{Memory}
use Rattle.cable_world.specs.SeatSteps.{PlayerPolls}
use Rattle.cable_world.specs.Seats.{RestsIfEnded}
use Rattle.cable_world.specs.declared.answer.Answer.{Answer}
use Rattle.cable_world.proofs.EndedRests.{ended_rests}
use Rattle.cable_world.proofs.PlayerPolled.{if_ok, player_polled}
use Rattle.cable_world.proofs.polling.poll_at.Goals as goal

pub returns-clause-polls : goal.returns-clause-polls
returns-clause-polls c =
    let old = c.args.player.now in
    let new = c.poll-polled.new.self in
    let before = c.args.station.now in
    let after = c.poll-polled.new.station in
    let e = c.poll-polled.ensures in
    if_ok c.answer_to.result (λ answer. PlayerPolls answer old new before after)
    (λ answer is. player_polled c.poll-polled.result old new before after
    (record {
      chooser = e.chooser;
      cause = e.cause;
      full = e.full;
      header = e.header;
      only = e.only;
      fails = e.fails;
      fine = e.fine;
      turn = e.turn;
      patience = e.patience;
      noise = e.noise;
      rests = e.rests;
      talk = e.talk;
      calls = e.calls;
      step = e.step;
      runs = e.runs;
      entries = e.entries;
      titled = c.refused.ensures.titled;
    })
    c.requires.pollable c.calls.ensures.played c.starved.ensures.played c.requires.unstarved (sym c.starved.ensures.value ∙ c.if-starved.false) c.starved.ensures.short answer (sym c.answer_to.ensures ∙ is))

pub returns-clause-rests : goal.returns-clause-rests
returns-clause-rests c =
    subst (λ (r : Result Answer Memory). IfOk r (λ answer. RestsIfEnded answer (Some c.poll-polled.new.self) c.poll-polled.new.station)) (sym c.answer_to.ensures)
    (ended_rests c.poll-polled.result c.poll-polled.new.self c.poll-polled.new.station c.starved.ensures.played c.poll-polled.ensures.rests)
