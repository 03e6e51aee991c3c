use Rattle.std.proofs.Common.{◌≡◌, ◌∙◌, ap}
use Rattle.std.specs.Prelude.{is_ok}
use Rattle.dex_handshake.specs.LineTable.{quiets}
use Rattle.dex_handshake.specs.SessionSeen.{session_seen, step_seen}
use Rattle.dex_handshake.specs.declared.session.Session.{Session}
use Rattle.dsd_end.specs.MachineSeen.{standing_of}
use Rattle.dsd_end.specs.Standings.{Standing}
use Rattle.std.proofs.Common.{[]}
use Rattle.dex_line.specs.Scanning.{quieted}
use Rattle.dsd_end.specs.Standings.{with_begun}
use Rattle.dsd_end.specs.FullTurns.{BrokenFull}
use Rattle.dsd_end.proofs.Filling.{never_full}
use Rattle.dsd_end.proofs.CallsMade.{calls_then}
use Rattle.dsd_end.proofs.AnswersThrough.{silence_leaves}
use Rattle.dsd_end.proofs.MachineSteps.{always, quiet_ready, quiet_spoken, silence_step, went_on}
use Rattle.dsd_end.proofs.machine.Machine.hear_silence.Goals as goal

pub go_to-requires-clause-spoken : goal.go_to-requires-clause-spoken
go_to-requires-clause-spoken g c =
    let at = c.break_off.new.self in
    let seen : step_seen c.quiet-step.result ≡ quiets (session_seen at.session) = c.quiet-step.ensures ∙ ap (λ (x : Session). quiets (session_seen x)) c.replace.ensures.value in
    quiet_spoken at.desk (session_seen at.session) (step_seen c.quiet-step.result) c.in-Ok.ensures.ready seen

pub returns-in-Ok-clause-ready : goal.returns-in-Ok-clause-ready
returns-in-Ok-clause-ready g c =
    let at = c.break_off.new.self in
    let seen : step_seen c.quiet-step.result ≡ quiets (session_seen at.session) = c.quiet-step.ensures ∙ ap (λ (x : Session). quiets (session_seen x)) c.replace.ensures.value in
    always c.go_to.result (quiet_ready at.desk c.go_to.new.self.desk (session_seen at.session) (session_seen c.go_to.new.self.session) (step_seen c.quiet-step.result) c.in-Ok.ensures.ready c.go_to.ensures.desk seen
    (ap (λ (s : Standing). s.line) c.go_to.ensures.standing))

pub returns-in-Ok-clause-step : goal.returns-in-Ok-clause-step
returns-in-Ok-clause-step g c =
    let at = c.break_off.new.self in
    let seen : step_seen c.quiet-step.result ≡ quiets (session_seen at.session) = c.quiet-step.ensures ∙ ap (λ (x : Session). quiets (session_seen x)) c.replace.ensures.value in
    silence_step g.T.Station.tells (g.D.Decider.chooser c.args.decider.now) (standing_of c.args.self.now) c.go_to.result (standing_of at) (standing_of c.go_to.new.self) (step_seen c.quiet-step.result)
    (g.T.Station.told c.args.station.now) (g.T.Station.told c.break_off.new.station) (g.T.Station.told c.go_to.new.station) seen c.go_to.ensures.standing c.in-Ok.ensures.step c.go_to.ensures.told

pub returns-in-Ok-clause-leaves : goal.returns-in-Ok-clause-leaves
returns-in-Ok-clause-leaves g c = λ tells.
    let at = c.break_off.new.self in
    let seen : step_seen c.quiet-step.result ≡ quiets (session_seen at.session) = c.quiet-step.ensures ∙ ap (λ (x : Session). quiets (session_seen x)) c.replace.ensures.value in
    silence_leaves c.go_to.result (g.D.Decider.chooser c.args.decider.now) (standing_of c.args.self.now) (standing_of at) (standing_of c.go_to.new.self) (step_seen c.quiet-step.result) (is_ok c.go_to.result)
    (g.T.Station.told c.args.station.now) (g.T.Station.told c.break_off.new.station) (g.T.Station.told c.go_to.new.station) c.in-Ok.ensures.ready.titled c.break_off.ensures.header (c.in-Ok.ensures.leaves tells)
    (c.in-Ok.ensures.step.told tells).rests seen c.go_to.ensures.standing (c.go_to.ensures.told tells) (went_on c.go_to.result)

pub returns-in-Ok-clause-calls : goal.returns-in-Ok-clause-calls
returns-in-Ok-clause-calls g c = λ tells.
    calls_then (g.T.Station.told c.args.station.now) (g.T.Station.told c.break_off.new.station) (g.T.Station.told c.go_to.new.station) (c.in-Ok.ensures.calls tells) (c.go_to.ensures.told tells).made

pub returns-in-Ok-clause-full : goal.returns-in-Ok-clause-full
returns-in-Ok-clause-full g c =
    let s = standing_of c.args.self.now in
    never_full (BrokenFull (g.D.Decider.chooser c.args.decider.now) (with_begun s []) (quieted s.begun)) c.go_to.result c.go_to.ensures.full
