use Rattle.std.proofs.Common.{◌≡◌, false, ◌∙◌, ap}
use Rattle.dex_line.specs.FrameShapes.{frame_seen}
use Rattle.dex_handshake.specs.LineTable.{hears}
use Rattle.dex_handshake.specs.SessionSeen.{session_seen, step_seen}
use Rattle.dex_handshake.specs.declared.session.Session.{Session}
use Rattle.dsd_end.specs.MachineSeen.{standing_of}
use Rattle.dsd_end.specs.Standings.{Standing}
use Rattle.dsd_end.specs.FullTurns.{FrameFull, TurnFull}
use Rattle.dsd_end.proofs.Filling.{frame_full, full_as, full_map}
use Rattle.dsd_end.proofs.CallsMade.{calls_then}
use Rattle.dsd_end.proofs.MachineSteps.{row_ready, row_spoken}
use Rattle.dsd_end.proofs.RunsThrough.{hear_fails, hear_leaves}
use Rattle.dsd_end.proofs.StepsGoing.{frame_steps}
use Rattle.dsd_end.proofs.machine.Machine.hear.Goals as goal

pub go_to-requires-clause-spoken : goal.go_to-requires-clause-spoken
go_to-requires-clause-spoken g c =
    let seen : step_seen c.heard-step.result ≡ hears (session_seen c.args.self.now.session) (frame_seen c.args.frame) =
    c.heard-step.ensures ∙ ap (λ (x : Session). hears (session_seen x) (frame_seen c.args.frame)) c.replace.ensures.value in
    row_spoken c.args.self.now.desk (session_seen c.args.self.now.session) (frame_seen c.args.frame) (step_seen c.heard-step.result) c.requires.ready seen

pub act-requires-clause-ready : goal.act-requires-clause-ready
act-requires-clause-ready g c =
    let seen : step_seen c.heard-step.result ≡ hears (session_seen c.args.self.now.session) (frame_seen c.args.frame) =
    c.heard-step.ensures ∙ ap (λ (x : Session). hears (session_seen x) (frame_seen c.args.frame)) c.replace.ensures.value in
    row_ready c.args.self.now.desk c.go_to.new.self.desk (session_seen c.args.self.now.session) (session_seen c.go_to.new.self.session) (frame_seen c.args.frame) (step_seen c.heard-step.result) c.requires.ready
    c.go_to.ensures.desk seen (ap (λ (s : Standing). s.line) c.go_to.ensures.standing)

pub returns-in-Ok-clause-step : goal.returns-in-Ok-clause-step
returns-in-Ok-clause-step g c =
    let seen : step_seen c.heard-step.result ≡ hears (session_seen c.args.self.now.session) (frame_seen c.args.frame) =
    c.heard-step.ensures ∙ ap (λ (x : Session). hears (session_seen x) (frame_seen c.args.frame)) c.replace.ensures.value in
    frame_steps g.T.Station.tells c.act.result (g.D.Decider.chooser c.args.decider.now) (standing_of c.args.self.now) (standing_of c.go_to.new.self) (standing_of c.act.new.self) (frame_seen c.args.frame)
    (step_seen c.heard-step.result) (g.T.Station.told c.args.station.now) (g.T.Station.told c.go_to.new.station) (g.T.Station.told c.act.new.station) seen c.go_to.ensures.standing c.requires.rests c.in-Ok.ensures.told
    c.act.ensures.step

pub returns-in-Ok-clause-leaves : goal.returns-in-Ok-clause-leaves
returns-in-Ok-clause-leaves g c = λ tells.
    let seen : step_seen c.heard-step.result ≡ hears (session_seen c.args.self.now.session) (frame_seen c.args.frame) =
    c.heard-step.ensures ∙ ap (λ (x : Session). hears (session_seen x) (frame_seen c.args.frame)) c.replace.ensures.value in
    hear_leaves g.T.Station.tells tells (g.D.Decider.chooser c.args.decider.now) (standing_of c.args.self.now) c.requires.ready.titled (standing_of c.go_to.new.self) (frame_seen c.args.frame)
    (step_seen c.heard-step.result) (g.T.Station.told c.args.station.now) (g.T.Station.told c.go_to.new.station) (g.T.Station.told c.act.new.station) c.requires.goes_on c.requires.answered seen c.go_to.ensures.standing
    (c.requires.rests tells) (c.in-Ok.ensures.told tells) (c.act.ensures.leaves tells)

pub returns-in-Err-clause-leaves : goal.returns-in-Err-clause-leaves
returns-in-Err-clause-leaves g c = λ tells.
    let seen : step_seen c.heard-step.result ≡ hears (session_seen c.args.self.now.session) (frame_seen c.args.frame) =
    c.heard-step.ensures ∙ ap (λ (x : Session). hears (session_seen x) (frame_seen c.args.frame)) c.replace.ensures.value in
    hear_fails g.T.Station.tells tells (g.D.Decider.chooser c.args.decider.now) (standing_of c.args.self.now) c.requires.ready.titled (frame_seen c.args.frame)
    (step_seen c.heard-step.result) false (g.T.Station.told c.args.station.now) (g.T.Station.told c.go_to.new.station) seen (c.requires.rests tells) (c.in-Err.ensures.told tells)

pub returns-in-Ok-clause-calls : goal.returns-in-Ok-clause-calls
returns-in-Ok-clause-calls g c = λ tells.
    calls_then (g.T.Station.told c.args.station.now) (g.T.Station.told c.go_to.new.station) (g.T.Station.told c.act.new.station) (c.in-Ok.ensures.told tells).made (c.act.ensures.calls tells)

pub returns-in-Err-clause-calls : goal.returns-in-Err-clause-calls
returns-in-Err-clause-calls g c = λ tells. (c.in-Err.ensures.told tells).made

pub returns-in-Ok-clause-full : goal.returns-in-Ok-clause-full
returns-in-Ok-clause-full g c =
    let ch = g.D.Decider.chooser c.args.decider.now in
    let s = standing_of c.args.self.now in
    let at = standing_of c.go_to.new.self in
    let seen : step_seen c.heard-step.result ≡ hears (session_seen c.args.self.now.session) (frame_seen c.args.frame) =
    c.heard-step.ensures ∙ ap (λ (x : Session). hears (session_seen x) (frame_seen c.args.frame)) c.replace.ensures.value in
    full_map (TurnFull ch at) (FrameFull ch s (frame_seen c.args.frame)) c.act.result (λ n k. frame_full ch s at (frame_seen c.args.frame) (step_seen c.heard-step.result) n seen c.go_to.ensures.standing k) c.act.ensures.full

pub returns-in-Err-clause-full : goal.returns-in-Err-clause-full
returns-in-Err-clause-full g c =
    full_as (Unit {0}) (Unit {0}) (λ n. ⊥) (FrameFull (g.D.Decider.chooser c.args.decider.now) (standing_of c.args.self.now) (frame_seen c.args.frame)) c.in-Err.fault c.in-Err.ensures.full (λ n x. absurd x)
