use Rattle.std.proofs.Common.{sym, ◌∙◌, ap, subst, Option, Some}
use Rattle.cable_world.specs.Noted.{runs_by}
use Rattle.cable_world.specs.Players.{PlayerView}
use Rattle.cable_world.specs.declared.answer.Answer.{Answer}
use Rattle.cable_world.specs.SeatSteps.{IsReady, SeatPolls}
use Rattle.cable_world.specs.Seats.{SeatView}
use Rattle.cable_world.proofs.Seated.{polled_ready, seat_polled, settled_starved}
use Rattle.cable_world.proofs.seat.Seat.poll.Goals as goal

pub poll_at-requires-clause-pollable : goal.poll_at-requires-clause-pollable
poll_at-requires-clause-pollable c =
    let ready = subst (λ (s : SeatView). IsReady s) (sym c.self.view_is) c.requires.ready in
    ready.pollable c.in-Some.player c.in-Some.is

pub returns-in-Ok-clause-polls : goal.returns-in-Ok-clause-polls
returns-in-Ok-clause-polls c =
    subst (λ (a : Answer). SeatPolls a c.args.self.now c.settle.new.self) (sym c.settle.ensures.answer)
    (subst (λ (s : SeatView). SeatPolls c.in-Ok.answer s c.settle.new.self)
    (ap (λ (p : Option PlayerView). record { log = c.self.inside.station; player = p; spoken = c.self.inside.spoken.items; refused = c.self.inside.refused }) (sym c.in-Some.is) ∙ c.self.view_is)
    (seat_polled c.in-Ok.answer c.in-Some.player c.poll_at.new.player c.self.inside.station c.poll_at.new.station c.self.inside.spoken.items c.self.inside.refused c.refused-self-inside.result c.in-Ok.ensures.polls
    c.refused-self-inside.ensures.value c.settle.new.self c.settle.ensures.seat))

pub returns-in-Ok-clause-ready : goal.returns-in-Ok-clause-ready
returns-in-Ok-clause-ready c =
    polled_ready c.in-Ok.answer (record { log = c.self.inside.station; player = Some c.in-Some.player; spoken = c.self.inside.spoken.items; refused = c.self.inside.refused }) c.settle.new.self
    (seat_polled c.in-Ok.answer c.in-Some.player c.poll_at.new.player c.self.inside.station c.poll_at.new.station c.self.inside.spoken.items c.self.inside.refused c.refused-self-inside.result c.in-Ok.ensures.polls
    c.refused-self-inside.ensures.value c.settle.new.self c.settle.ensures.seat)
    (ap (λ (s : SeatView). s.log.starved) c.settle.ensures.seat ∙ settled_starved (runs_by c.in-Ok.answer) _ ∙ c.in-Ok.ensures.unstarved)
