use Rattle.std.proofs.Common.{arith, ◌≡◌, ℕ, List, [], drop, take, refl, sym, ◌∙◌, subst}
use Rattle.std.proofs.lemmas.List.{nil_from_length}
use Rattle.std.proofs.lemmas.Bool.Decides.{nat_tests}
use Rattle.dsd_end.specs.MachineSeen.{standing_of}
use Rattle.dsd_end.specs.FullTurns.{BytesFull}
use Rattle.dsd_end.proofs.Filling.{full_as}
use Rattle.dsd_end.proofs.CallsMade.{calls_none, calls_then}
use Rattle.dsd_end.proofs.PiecesThrough.{HeardOn, all_steps, ended_none, ended_steps, ended_takes, heard_none, heard_push, heard_stops}
use Rattle.dsd_end.specs.BusyTurns.{BytesBusy}
use Rattle.dsd_end.proofs.BusyComing.{behind_busy, memory_as}
use Rattle.dsd_end.proofs.machine.Machine.hear_bytes.Goals as goal

pub loop-rest-init : goal.loop-rest-init
loop-rest-init g c = record {
  ready = c.requires.ready;
  goes_on = c.requires.goes_on;
  counted = refl;
  faults = refl;
  calls = λ tells. calls_none (g.T.Station.told c.args.station.now);
  busy = λ busy. busy;
  heard = heard_none g.T.Station.tells (g.D.Decider.chooser c.args.decider.now) (standing_of c.args.self.now) c.args.bytes.now (g.T.Station.told c.args.station.now) c.requires.rests;
}

pub returns-in-Err-clause-leaves : goal.returns-in-Err-clause-leaves
returns-in-Err-clause-leaves g c = λ tells first before heard so. (
  heard_stops g.T.Station.tells (g.D.Decider.chooser c.args.decider.now) (standing_of c.args.self.now) c.args.bytes.now (g.T.Station.told c.args.station.now) c.loop-rest.rest.now (standing_of c.loop-rest.self)
      (g.T.Station.told c.loop-rest.station) (g.T.Station.told c.hear_front.new.station) c.loop-rest.invariant.heard tells (λ f b h d. (c.hear_front.ensures.leaves tells f b h d).0) first before heard so,
  tt,
)

pub returns-then-has_ended-clause-step : goal.returns-then-has_ended-clause-step
returns-then-has_ended-clause-step g c =
    let T = g.T.Station.tells in
    let ch = g.D.Decider.chooser c.args.decider.now in
    let s = standing_of c.args.self.now in
    let at = standing_of c.loop-rest.self in
    let to = standing_of c.hear_front.new.self in
    let rest = c.loop-rest.rest.now in
    let old = g.T.Station.told c.args.station.now in
    let mid = g.T.Station.told c.loop-rest.station in
    let new = g.T.Station.told c.hear_front.new.station in
    let pushed = heard_push T ch s c.args.bytes.now old rest at mid new c.loop-rest.invariant.heard c.in-Ok.count to c.hear_front.ensures.header c.in-Ok.ensures.step c.hear_front.ensures.keeps c.in-Ok.ensures.leaves in
    let ended = sym c.has_ended.ensures ∙ c.if-has_ended.true in
    ended_steps T ch s c.args.bytes.now old (drop c.in-Ok.count rest) to new pushed ended (ended_none T ch at to (take c.in-Ok.count rest) mid new c.in-Ok.ensures.step c.loop-rest.invariant.goes_on ended)

pub returns-then-has_ended-clause-leaves : goal.returns-then-has_ended-clause-leaves
returns-then-has_ended-clause-leaves g c = λ tells.
    let T = g.T.Station.tells in
    let ch = g.D.Decider.chooser c.args.decider.now in
    let s = standing_of c.args.self.now in
    let at = standing_of c.loop-rest.self in
    let to = standing_of c.hear_front.new.self in
    let rest = c.loop-rest.rest.now in
    let old = g.T.Station.told c.args.station.now in
    let mid = g.T.Station.told c.loop-rest.station in
    let new = g.T.Station.told c.hear_front.new.station in
    let pushed = heard_push T ch s c.args.bytes.now old rest at mid new c.loop-rest.invariant.heard c.in-Ok.count to c.hear_front.ensures.header c.in-Ok.ensures.step c.hear_front.ensures.keeps c.in-Ok.ensures.leaves in
    ended_takes T ch s c.args.bytes.now old (drop c.in-Ok.count rest) to new pushed tells (sym c.has_ended.ensures ∙ c.if-has_ended.true)

pub loop-rest-preserved : goal.loop-rest-preserved
loop-rest-preserved g c =
    let T = g.T.Station.tells in
    let ch = g.D.Decider.chooser c.args.decider.now in
    let s = standing_of c.args.self.now in
    let at = standing_of c.loop-rest.self in
    let to = standing_of c.hear_front.new.self in
    let rest = c.loop-rest.rest.now in
    let old = g.T.Station.told c.args.station.now in
    let mid = g.T.Station.told c.loop-rest.station in
    let new = g.T.Station.told c.hear_front.new.station in
    record {
      ready = c.in-Ok.ensures.ready;
      goes_on = sym c.has_ended.ensures ∙ c.if-has_ended.false;
      counted = c.hear_front.ensures.heard ∙ c.loop-rest.invariant.counted;
      faults = c.in-Ok.ensures.cause ∙ c.loop-rest.invariant.faults;
      calls = λ tells. calls_then old mid new (c.loop-rest.invariant.calls tells) (c.hear_front.ensures.calls tells);
      busy = λ busy. c.loop-rest.invariant.busy
          (behind_busy ch at to rest c.in-Ok.count c.in-Ok.ensures.step.done c.in-Ok.ensures.step.comes c.in-Ok.ensures.step.step (subst (λ (l : List ℕ). BytesBusy ch to l) c.behind-rest.ensures busy));
      heard = subst (λ (l : List ℕ). HeardOn T ch s c.args.bytes.now l to old new) (sym c.behind-rest.ensures)
          (heard_push T ch s c.args.bytes.now old rest at mid new c.loop-rest.invariant.heard c.in-Ok.count to c.hear_front.ensures.header c.in-Ok.ensures.step c.hear_front.ensures.keeps c.in-Ok.ensures.leaves);
    }

pub returns-clause-step : goal.returns-clause-step
returns-clause-step g c =
    let none : c.loop-rest.rest.now ≡ [] = nil_from_length c.loop-rest.rest.now (grind (arith, nat_tests)) in
    all_steps g.T.Station.tells (g.D.Decider.chooser c.args.decider.now) (standing_of c.args.self.now) c.args.bytes.now (g.T.Station.told c.args.station.now) c.loop-rest.rest.now (standing_of c.loop-rest.self)
    (g.T.Station.told c.loop-rest.station) c.loop-rest.invariant.heard c.loop-rest.invariant.goes_on none

pub returns-in-Err-clause-calls : goal.returns-in-Err-clause-calls
returns-in-Err-clause-calls g c = λ tells.
    calls_then (g.T.Station.told c.args.station.now) (g.T.Station.told c.loop-rest.station) (g.T.Station.told c.hear_front.new.station) (c.loop-rest.invariant.calls tells) (c.hear_front.ensures.calls tells)

pub returns-then-has_ended-clause-calls : goal.returns-then-has_ended-clause-calls
returns-then-has_ended-clause-calls g c = λ tells.
    calls_then (g.T.Station.told c.args.station.now) (g.T.Station.told c.loop-rest.station) (g.T.Station.told c.hear_front.new.station) (c.loop-rest.invariant.calls tells) (c.hear_front.ensures.calls tells)

pub returns-in-Err-clause-full : goal.returns-in-Err-clause-full
returns-in-Err-clause-full g c =
    let ch = g.D.Decider.chooser c.args.decider.now in
    full_as ℕ (Unit {0}) (BytesFull ch (standing_of c.loop-rest.self) c.loop-rest.rest.now) (BytesFull ch (standing_of c.args.self.now) c.args.bytes.now) c.in-Err.fault c.in-Err.ensures.full c.loop-rest.invariant.heard.full

pub returns-in-Err-clause-memory : goal.returns-in-Err-clause-memory
returns-in-Err-clause-memory g c =
    let ch = g.D.Decider.chooser c.args.decider.now in
    memory_as ℕ (Unit {0}) (BytesBusy ch (standing_of c.loop-rest.self) c.loop-rest.rest.now) (BytesBusy ch (standing_of c.args.self.now) c.args.bytes.now) c.in-Err.fault c.in-Err.ensures.memory c.loop-rest.invariant.busy
