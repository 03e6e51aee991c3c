use Rattle.cable_world.proofs.EventsPlayed.{obeys_more, obeys_no_more}
use Rattle.cable_world.proofs.cable.Cable.play_all.Goals as goal

pub loop-event-preserved : goal.loop-event-preserved
loop-event-preserved c = record {
  ready = c.in_ok-play.ensures.ready;
  goes = λ new rest. c.loop-event.invariant.goes new
      (obeys_more c.args.events.now c.loop-event.event-index c.event-item.result c.loop-event.self c.play.new.self new c.loop-event-test.true c.event-item.is c.in_ok-play.ensures rest);
}

pub returns : goal.returns
returns c = c.loop-event.invariant.goes c.loop-event.self (obeys_no_more c.args.events.now c.loop-event.event-index c.loop-event.self c.loop-event-test.false c.loop-event.invariant.ready)
