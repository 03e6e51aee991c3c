use Rattle.std.proofs.Common.{Bool, false, sym, subst}
use Rattle.dsd_end.specs.EndSeen.{EndView, view_of}
use Rattle.dsd_end.specs.Patience.{CostsPatience}
use Rattle.dsd_end.specs.Polls.{with_flags}
use Rattle.dsd_end.specs.MachineSeen.{standing_of}
use Rattle.dsd_end.specs.FullTurns.{PollFull}
use Rattle.dsd_end.proofs.Filling.{poll_full}
use Rattle.dsd_end.proofs.Waiting.{polled_costs, polled_quiet}
use Rattle.std.proofs.Common.{◌<◌}
use Rattle.dsd_end.specs.Patience.{patience}
use Rattle.dsd_end.proofs.Waiting.{some_patience}
use Rattle.dsd_end.proofs.end_core.EndCore.poll.Goals as goal

pub invariant_of-self-in-Ok : goal.invariant_of-self-in-Ok
invariant_of-self-in-Ok g c = record {
  ready = λ fine. c.in-Ok.ensures.ready;
  quiet = λ fine on. (
    c.has_heard_noise-self-inside.ensures.not fine on,
    polled_quiet g.T.Station.tells (g.D.Decider.chooser c.args.decider.now) (standing_of c.self.inside.machine) (standing_of c.go_on.new.self) c.self.inside.first (g.T.Station.told c.args.station.now)
        (g.T.Station.told c.go_on.new.station) c.in-Ok.ensures.step (c.self.invariant.quiet c.if-self.false) on,
  );
}

pub returns-else-self-2-clause-quiet : goal.returns-else-self-2-clause-quiet
returns-else-self-2-clause-quiet g c = λ on. (
  c.has_heard_noise-self-inside.ensures.not c.if-self-2.false on,
  polled_quiet g.T.Station.tells (g.D.Decider.chooser c.args.decider.now) (standing_of c.self.inside.machine) (standing_of c.go_on.new.self) c.self.inside.first (g.T.Station.told c.args.station.now)
      (g.T.Station.told c.go_on.new.station) c.in-Ok.ensures.step (c.self.invariant.quiet c.if-self.false) on,
)

pub returns-else-self-2-clause-patience : goal.returns-else-self-2-clause-patience
returns-else-self-2-clause-patience g c =
    let to = with_flags (standing_of c.go_on.new.self) false c.has_heard_noise-self-inside.result in
    let costs = polled_costs g.T.Station.tells (g.D.Decider.chooser c.args.decider.now) (standing_of c.self.inside.machine) (standing_of c.go_on.new.self) c.self.inside.first (g.T.Station.told c.args.station.now)
    (g.T.Station.told c.go_on.new.station) c.in-Ok.ensures.step (c.self.invariant.quiet c.if-self.false)
    (λ on. (
      c.has_heard_noise-self-inside.ensures.not c.if-self-2.false on,
      polled_quiet g.T.Station.tells (g.D.Decider.chooser c.args.decider.now) (standing_of c.self.inside.machine) (standing_of c.go_on.new.self) c.self.inside.first (g.T.Station.told c.args.station.now)
          (g.T.Station.told c.go_on.new.station) c.in-Ok.ensures.step (c.self.invariant.quiet c.if-self.false) on,
    )) in
    let here : CostsPatience (view_of c.self.inside).standing to = record { some = costs.some; less = costs.less } in
    subst (λ (v : EndView). CostsPatience v.standing to) c.self.view_is here

pub returns-in-Err-clause-full : goal.returns-in-Err-clause-full
returns-in-Err-clause-full g c =
    let T = g.T.Station.tells in
    let ch = g.D.Decider.chooser c.args.decider.now in
    let old = g.T.Station.told c.args.station.now in
    let new = g.T.Station.told c.go_on.new.station in
    let at = with_flags (standing_of c.self.inside.machine) c.self.inside.first false in
    poll_full (Unit {0}) (Unit {0}) (PollFull T ch at old new) (PollFull T ch c.args.self.now.standing old new) c.in-Err.fault c.of_turn.result c.of_turn.ensures c.in-Err.ensures.full
    (λ n k. subst (λ (v : EndView). PollFull T ch v.standing old new n) c.self.view_is (subst (λ (b : Bool). PollFull T ch (with_flags (standing_of c.self.inside.machine) c.self.inside.first b) old new n) (sym c.if-self.false) k))

pub returns-then-self-2-clause-patient : goal.returns-then-self-2-clause-patient
returns-then-self-2-clause-patient g c =
    subst (λ (v : EndView). 0 < patience v.standing) c.self.view_is (some_patience (with_flags (standing_of c.self.inside.machine) c.self.inside.first c.self.inside.failed) (c.self.invariant.quiet c.if-self.false))
