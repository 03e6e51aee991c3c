use Rattle.std.proofs.Common.{ℕ, List, [], ap, subst, OnOk}
use Rattle.dex_line.specs.FrameShapes.{frame_seen}
use Rattle.dsd_end.specs.EndSteps.{StepsTo}
use Rattle.dsd_end.specs.MachineSeen.{standing_of}
use Rattle.dsd_end.specs.PollStep.{HearsFrame}
use Rattle.dsd_end.specs.RunSoFar.{LeavesHearing}
use Rattle.dsd_end.specs.Standings.{with_begun}
use Rattle.dex_line.specs.Scanning.{quieted}
use Rattle.dsd_end.specs.FullTurns.{BrokenFull, FrameFull}
use Rattle.dsd_end.proofs.Filling.{broken_full, full_map}
use Rattle.dsd_end.proofs.CallsMade.{calls_none}
use Rattle.dsd_end.proofs.MachineSteps.{broken_step, nothing_begun, unbroken_step}
use Rattle.dsd_end.proofs.RunsThrough.{broken_leaves, unbroken_leaves}
use Rattle.dsd_end.proofs.machine.Machine.break_off.Goals as goal

pub returns-in-None-clause-step : goal.returns-in-None-clause-step
returns-in-None-clause-step g c =
    let s = standing_of c.args.self.now in
    unbroken_step g.T.Station.tells (g.D.Decider.chooser c.args.decider.now) s (with_begun s c.quiet.new.self) (g.T.Station.told c.args.station.now) (ap (with_begun s) c.quiet.ensures.left) c.in-None.ensures.answer c.requires.rests

pub returns-in-None-clause-leaves : goal.returns-in-None-clause-leaves
returns-in-None-clause-leaves g c = λ tells.
    let s = standing_of c.args.self.now in
    unbroken_leaves g.T.Station.tells tells (g.D.Decider.chooser c.args.decider.now) s c.requires.ready.titled (with_begun s c.quiet.new.self) (g.T.Station.told c.args.station.now) (ap (with_begun s) c.quiet.ensures.left)
    (nothing_begun c.args.self.now.scanner c.in-None.ensures.answer) (c.requires.rests tells)

pub returns-in-Some-clause-step : goal.returns-in-Some-clause-step
returns-in-Some-clause-step g c =
    let s = standing_of c.args.self.now in
    broken_step g.T.Station.tells (g.D.Decider.chooser c.args.decider.now) s c.hear.result (with_begun s c.quiet.new.self) (standing_of c.hear.new.self) (frame_seen c.in-Some.frame) (g.T.Station.told c.args.station.now)
    (g.T.Station.told c.hear.new.station) (ap (with_begun s) c.quiet.ensures.left) c.in-Some.ensures.answer c.hear.ensures.step

pub returns-in-Some-clause-leaves : goal.returns-in-Some-clause-leaves
returns-in-Some-clause-leaves g c = λ tells.
    let ch = g.D.Decider.chooser c.args.decider.now in
    let s = standing_of c.args.self.now in
    let old = g.T.Station.told c.args.station.now in
    let new = g.T.Station.told c.hear.new.station in
    broken_leaves g.T.Station.tells tells ch s c.requires.ready.titled c.hear.result (frame_seen c.in-Some.frame) (standing_of c.hear.new.self) old new c.requires.goes_on c.in-Some.ensures.answer
    (subst (λ (l : List ℕ). LeavesHearing ch (with_begun s l) (frame_seen c.in-Some.frame) old new) c.quiet.ensures.left (c.hear.ensures.leaves tells))
    (subst (λ (l : List ℕ). OnOk c.hear.result (StepsTo g.T.Station.tells (HearsFrame ch (with_begun s l) (frame_seen c.in-Some.frame)) (standing_of c.hear.new.self) old new)) c.quiet.ensures.left c.hear.ensures.step)

pub returns-in-None-clause-calls : goal.returns-in-None-clause-calls
returns-in-None-clause-calls g c = λ tells. calls_none (g.T.Station.told c.args.station.now)

pub returns-in-Some-clause-full : goal.returns-in-Some-clause-full
returns-in-Some-clause-full g c =
    let ch = g.D.Decider.chooser c.args.decider.now in
    let s = standing_of c.args.self.now in
    full_map (FrameFull ch (with_begun s c.quiet.new.self) (frame_seen c.in-Some.frame)) (BrokenFull ch (with_begun s []) (quieted s.begun)) c.hear.result
    (λ n k. broken_full ch s (with_begun s c.quiet.new.self) (frame_seen c.in-Some.frame) n (ap (with_begun s) c.quiet.ensures.left) c.in-Some.ensures.answer k) c.hear.ensures.full
