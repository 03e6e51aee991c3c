use Rattle.std.proofs.Common.{◌≡◌, ℕ, List, [], take, refl, sym, ap, subst, Option}
use Rattle.std.specs.Prelude.{IsSome}
use Rattle.dex_line.specs.FrameShapes.{frame_seen}
use Rattle.dex_line.specs.declared.frame.Frame.{Frame}
use Rattle.dsd_end.specs.MachineSeen.{standing_of}
use Rattle.dsd_end.specs.Standings.{with_begun}
use Rattle.dsd_end.specs.FullTurns.{BytesFull, FrameFull}
use Rattle.dsd_end.proofs.Filling.{full_as}
use Rattle.dsd_end.proofs.FrontsHeard.{front_full}
use Rattle.dsd_end.proofs.CallsMade.{calls_none}
use Rattle.dsd_end.proofs.MachineSteps.{begins_step, ends_step, scanned_none, scanned_some}
use Rattle.dsd_end.proofs.PiecesThrough.{begins_leaves, frame_leaves, frame_takes}
use Rattle.dsd_end.specs.BusyTurns.{BytesBusy, FrameBusy}
use Rattle.dsd_end.proofs.BusyComing.{front_busy, memory_as}
use Rattle.dsd_end.proofs.machine.Machine.hear_front.Goals as goal

pub returns-in_default-clause-step : goal.returns-in_default-clause-step
returns-in_default-clause-step g c =
    let s = standing_of c.args.self.now in
    begins_step g.T.Station.tells (g.D.Decider.chooser c.args.decider.now) s (take c.hear-count.result.0 c.args.bytes.now) c.hear-count.new.self (with_begun s c.hear-count.new.self) (g.T.Station.told c.args.station.now) refl
    (scanned_none _ c.hear-count.new.self c.hear-count.result.1 c.hear-count.ensures.heard c.in_default.is) c.requires.rests

pub returns-in_default-clause-leaves : goal.returns-in_default-clause-leaves
returns-in_default-clause-leaves g c = λ tells.
    let s = standing_of c.args.self.now in
    begins_leaves g.T.Station.tells tells (g.D.Decider.chooser c.args.decider.now) s c.requires.ready.titled c.args.bytes.now c.hear-count.result.0 (with_begun s c.hear-count.new.self) c.hear-count.new.self
    (g.T.Station.told c.args.station.now) refl (scanned_none _ c.hear-count.new.self c.hear-count.result.1 c.hear-count.ensures.heard c.in_default.is) (c.requires.rests tells)

pub returns-in-Ok-clause-step : goal.returns-in-Ok-clause-step
returns-in-Ok-clause-step g c =
    let s = standing_of c.args.self.now in
    let none : c.hear-count.new.self ≡ [] = c.hear-count.ensures.left (subst (λ (o : Option Frame). IsSome o) (sym c.in-Some.is) refl) in
    ends_step g.T.Station.tells (g.D.Decider.chooser c.args.decider.now) s (take c.hear-count.result.0 c.args.bytes.now) (with_begun s c.hear-count.new.self) (standing_of c.hear.new.self) (frame_seen c.in-Some.frame)
    (g.T.Station.told c.args.station.now) (g.T.Station.told c.hear.new.station) (ap (with_begun s) none)
    (scanned_some _ c.hear-count.new.self c.hear-count.result.1 c.in-Some.frame c.hear-count.ensures.heard c.in-Some.is none) c.in-Ok.ensures.step

pub returns-in-Ok-clause-leaves : goal.returns-in-Ok-clause-leaves
returns-in-Ok-clause-leaves g c = λ tells.
    let s = standing_of c.args.self.now in
    let none : c.hear-count.new.self ≡ [] = c.hear-count.ensures.left (subst (λ (o : Option Frame). IsSome o) (sym c.in-Some.is) refl) in
    frame_takes g.T.Station.tells tells (g.D.Decider.chooser c.args.decider.now) s c.requires.ready.titled c.args.bytes.now c.hear-count.result.0 (frame_seen c.in-Some.frame)
    (scanned_some _ c.hear-count.new.self c.hear-count.result.1 c.in-Some.frame c.hear-count.ensures.heard c.in-Some.is none) (with_begun s c.hear-count.new.self) (standing_of c.hear.new.self)
    (g.T.Station.told c.args.station.now) (g.T.Station.told c.hear.new.station) (ap (with_begun s) none) c.requires.goes_on (c.hear.ensures.leaves tells) c.in-Ok.ensures.step

pub returns-in-Err-clause-leaves : goal.returns-in-Err-clause-leaves
returns-in-Err-clause-leaves g c = λ tells first before heard so.
    let s = standing_of c.args.self.now in
    let none : c.hear-count.new.self ≡ [] = c.hear-count.ensures.left (subst (λ (o : Option Frame). IsSome o) (sym c.in-Some.is) refl) in (
      frame_leaves g.T.Station.tells tells (g.D.Decider.chooser c.args.decider.now) s c.requires.ready.titled c.args.bytes.now c.hear-count.result.0 (frame_seen c.in-Some.frame)
          (scanned_some _ c.hear-count.new.self c.hear-count.result.1 c.in-Some.frame c.hear-count.ensures.heard c.in-Some.is none) (with_begun s c.hear-count.new.self)
          (g.T.Station.told c.args.station.now) (g.T.Station.told c.hear.new.station) (ap (with_begun s) none) (c.hear.ensures.leaves tells) first before heard so,
      tt,
    )

pub returns-in_default-clause-calls : goal.returns-in_default-clause-calls
returns-in_default-clause-calls g c = λ tells. calls_none (g.T.Station.told c.args.station.now)

pub returns-in-Err-clause-full : goal.returns-in-Err-clause-full
returns-in-Err-clause-full g c =
    let ch = g.D.Decider.chooser c.args.decider.now in
    let s = standing_of c.args.self.now in
    let none : c.hear-count.new.self ≡ [] = c.hear-count.ensures.left (subst (λ (o : Option Frame). IsSome o) (sym c.in-Some.is) refl) in
    full_as (Unit {0}) ℕ (FrameFull ch (with_begun s c.hear-count.new.self) (frame_seen c.in-Some.frame)) (BytesFull ch s c.args.bytes.now) c.in-Err.fault c.in-Err.ensures.full
    (λ n k. front_full ch s c.args.bytes.now c.hear-count.result.0 n (frame_seen c.in-Some.frame)
    (scanned_some _ c.hear-count.new.self c.hear-count.result.1 c.in-Some.frame c.hear-count.ensures.heard c.in-Some.is none)
    (subst (λ (l : List ℕ). FrameFull ch (with_begun s l) (frame_seen c.in-Some.frame) n) none k))

pub returns-in-Err-clause-memory : goal.returns-in-Err-clause-memory
returns-in-Err-clause-memory g c =
    let ch = g.D.Decider.chooser c.args.decider.now in
    let s = standing_of c.args.self.now in
    let none : c.hear-count.new.self ≡ [] = c.hear-count.ensures.left (subst (λ (o : Option Frame). IsSome o) (sym c.in-Some.is) refl) in
    memory_as (Unit {0}) ℕ (FrameBusy ch (with_begun s c.hear-count.new.self) (frame_seen c.in-Some.frame)) (BytesBusy ch s c.args.bytes.now) c.in-Err.fault c.in-Err.ensures.memory
    (λ k. front_busy ch s c.args.bytes.now c.hear-count.result.0 (frame_seen c.in-Some.frame)
    (scanned_some _ c.hear-count.new.self c.hear-count.result.1 c.in-Some.frame c.hear-count.ensures.heard c.in-Some.is none)
    (subst (λ (l : List ℕ). FrameBusy ch (with_begun s l) (frame_seen c.in-Some.frame)) none k))
