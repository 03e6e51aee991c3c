use Rattle.std.proofs.Common.{sym, ◌∙◌, ap, subst}
use Rattle.cable_world.specs.SeatOpens.{SeatStarts}
use Rattle.cable_world.specs.SeatSteps.{Grows}
use Rattle.cable_world.specs.Seats.{SeatView}
use Rattle.cable_world.specs.Settings.{chooser_at}
use Rattle.cable_world.proofs.Seated.{seat_started, started_ready}
use Rattle.cable_world.proofs.seat.Seat.start.Goals as goal

pub returns-in-Ok-clause-starts : goal.returns-in-Ok-clause-starts
returns-in-Ok-clause-starts c =
    subst (λ (s : SeatView). SeatStarts c.args.role (chooser_at c.args.setting.now c.args.role) c.take_in.result s c.take_in.new.self) c.self.view_is
    (seat_started c.args.role (chooser_at c.args.setting.now c.args.role) c.in-Ok.opened c.take_in.result c.self.inside.station c.start.new.station c.self.inside.player c.self.inside.spoken.items
    c.self.inside.refused c.take_in.new.self c.in-Ok.ensures.opens c.take_in.ensures.answer c.take_in.ensures.seat)

pub returns-in-Ok-clause-ready : goal.returns-in-Ok-clause-ready
returns-in-Ok-clause-ready c =
    started_ready c.args.role (chooser_at c.args.setting.now c.args.role) c.take_in.result c.args.self.now c.take_in.new.self
    (subst (λ (s : SeatView). SeatStarts c.args.role (chooser_at c.args.setting.now c.args.role) c.take_in.result s c.take_in.new.self) c.self.view_is
    (seat_started c.args.role (chooser_at c.args.setting.now c.args.role) c.in-Ok.opened c.take_in.result c.self.inside.station c.start.new.station c.self.inside.player c.self.inside.spoken.items
    c.self.inside.refused c.take_in.new.self c.in-Ok.ensures.opens c.take_in.ensures.answer c.take_in.ensures.seat))
    (ap (λ (s : SeatView). s.log.starved) c.take_in.ensures.seat ∙ c.in-Ok.ensures.unstarved)

pub returns-in-Ok-clause-grows : goal.returns-in-Ok-clause-grows
returns-in-Ok-clause-grows c =
    subst (λ (s : SeatView). Grows s.log c.take_in.new.self.log) c.self.view_is (subst (λ (s : SeatView). Grows c.self.inside.station s.log) (sym c.take_in.ensures.seat) c.in-Ok.ensures.grows)
