use Rattle.std.proofs.Common.{Option, refl, sym, ◌∙◌, ap, subst}
use Rattle.std.specs.Prelude.{is_ok}
use Rattle.dex_line.specs.FrameSpelling.{IsSpoken}
use Rattle.dsd_journal.specs.declared.header.Header.{Header}
use Rattle.dex_handshake.specs.LineTable.{gives}
use Rattle.dex_handshake.specs.SessionSeen.{session_seen}
use Rattle.dex_handshake.specs.Sound.{AreSaid}
use Rattle.dex_handshake.specs.StateSeen.{load_seen}
use Rattle.own_turn.specs.Desks.{desk_of, text_of}
use Rattle.dsd_end.specs.MachineSeen.{standing_of}
use Rattle.dsd_end.specs.Standings.{Standing, with_line}
use Rattle.own_turn.specs.Desks.{IsTooLong}
use Rattle.own_turn.specs.NextEntry.{TurnAddsNext}
use Rattle.dxs_envelope.specs.declared.outgoing.Outgoing.{Outgoing}
use Rattle.dsd_end.specs.FullTurns.{TurnFull}
use Rattle.dsd_end.proofs.Filling.{full_as, never_full, turn_full}
use Rattle.dsd_end.proofs.CallsMade.{calls_flushed, calls_none, calls_then}
use Rattle.dsd_end.proofs.MachineSteps.{act_step, always, rests_as, turn_ready}
use Rattle.dsd_end.proofs.RunsLeft.{stops_still}
use Rattle.dsd_end.proofs.RunsThrough.{act_stops, turn_stops}
use Rattle.dsd_end.proofs.StepsGoing.{acts_not, load_is, turned_spoken}
use Rattle.own_turn.specs.IdleTurns.{IsIdle}
use Rattle.dsd_end.specs.BusyTurns.{TurnBusy}
use Rattle.dsd_end.proofs.BusyComing.{memory_as, turn_busy}
use Rattle.dsd_end.proofs.machine.Machine.act.Goals as goal

pub returns-in_default-clause-step : goal.returns-in_default-clause-step
returns-in_default-clause-step g c =
    acts_not g.T.Station.tells (g.D.Decider.chooser c.args.decider.now) (standing_of c.args.self.now) (g.T.Station.told c.args.station.now) c.in_default.ensures c.requires.rests

pub returns-in_default-clause-leaves : goal.returns-in_default-clause-leaves
returns-in_default-clause-leaves g c = λ tells first before heard left so.
    stops_still (g.D.Decider.chooser c.args.decider.now) first before heard (standing_of c.args.self.now) (g.T.Station.told c.args.station.now).now.gone left so (g.T.Station.told c.args.station.now) refl (c.requires.rests tells)

pub returns-in-Ok-clause-ready : goal.returns-in-Ok-clause-ready
returns-in-Ok-clause-ready g c =
    let load = c.in-Ok.load in
    let is = load_is load in
    let spoken : AreSaid IsSpoken (load_seen load) =
    subst (AreSaid IsSpoken) (sym is) (turned_spoken (g.D.Decider.chooser c.args.decider.now) (standing_of c.args.self.now) c.in-Some.text.now (text_of load) (desk_of c.turn-2.new.self) c.in-Ok.ensures.turned) in
    always c.give.result (turn_ready c.args.self.now.desk c.turn-2.new.self c.give.new.self.desk (session_seen c.args.self.now.session) (session_seen c.give.new.self.session) (load_seen load) c.requires.ready c.give.ensures.desk
    c.in-Ok.ensures.works c.in-Ok.ensures.none_staged c.in-Ok.ensures.known c.in-Ok.ensures.header spoken (ap (λ (s : Standing). s.line) c.give.ensures.standing))

pub returns-in-Ok-clause-step : goal.returns-in-Ok-clause-step
returns-in-Ok-clause-step g c =
    let s = standing_of c.args.self.now in
    let book = c.turn-2.new.self.book in
    let mid = g.T.Station.told c.turn-2.new.station in
    act_step g.T.Station.tells (g.D.Decider.chooser c.args.decider.now) s c.give.result c.in-Some.text.now (text_of c.in-Ok.load) (load_seen c.in-Ok.load) (desk_of c.turn-2.new.self) (standing_of c.give.new.self)
    (g.T.Station.told c.args.station.now) mid (g.T.Station.told c.give.new.station) c.in-Some.ensures (load_is c.in-Ok.load) c.in-Ok.ensures.turned
    (c.give.ensures.standing ∙ ap (λ (h : Header). with_line (record s { header = h; desk = desk_of c.turn-2.new.self }) (gives s.line (load_seen c.in-Ok.load)).next) c.in-Ok.ensures.header)
    (λ t. (c.in-Ok.ensures.told t).gone) (λ t. (c.in-Ok.ensures.told t).syncs)
    (λ t. rests_as book.header s.header book.entries book.known mid c.in-Ok.ensures.header (sym c.in-Ok.ensures.known) (c.in-Ok.ensures.rests t)) c.give.ensures.told

pub returns-in-Ok-clause-leaves : goal.returns-in-Ok-clause-leaves
returns-in-Ok-clause-leaves g c = λ tells first before heard left so.
    let s = standing_of c.args.self.now in
    let book = c.turn-2.new.self.book in
    let mid = g.T.Station.told c.turn-2.new.station in
    act_stops (g.D.Decider.chooser c.args.decider.now) first before heard left s (g.T.Station.told c.args.station.now) so c.requires.ready.titled c.in-Some.text.now (text_of c.in-Ok.load) (load_seen c.in-Ok.load)
    (desk_of c.turn-2.new.self) c.args.self.now.desk.book.entries (is_ok c.give.result) mid (g.T.Station.told c.give.new.station) c.in-Some.ensures (load_is c.in-Ok.load) c.requires.ready.known c.in-Ok.ensures.turned
    (c.in-Ok.ensures.told tells).stops (c.in-Ok.ensures.told tells).gone
    (rests_as book.header s.header book.entries book.known mid c.in-Ok.ensures.header (sym c.in-Ok.ensures.known) (c.in-Ok.ensures.rests tells)) (c.give.ensures.told tells)

pub returns-in-Err-clause-leaves : goal.returns-in-Err-clause-leaves
returns-in-Err-clause-leaves g c = λ tells first before heard left so.
    turn_stops (g.D.Decider.chooser c.args.decider.now) first before heard left (standing_of c.args.self.now) (g.T.Station.told c.args.station.now) so c.in-Some.text.now c.args.self.now.desk.book.entries
    (g.T.Station.told c.turn-2.new.station) c.in-Some.ensures c.requires.ready.known (c.in-Err.ensures.told tells).stops

pub returns-in_default-clause-calls : goal.returns-in_default-clause-calls
returns-in_default-clause-calls g c = λ tells. calls_none (g.T.Station.told c.args.station.now)

pub returns-in-Ok-clause-calls : goal.returns-in-Ok-clause-calls
returns-in-Ok-clause-calls g c = λ tells.
    let old = g.T.Station.told c.args.station.now in
    let mid = g.T.Station.told c.turn-2.new.station in
    calls_then old mid (g.T.Station.told c.give.new.station) (calls_flushed c.args.self.now.desk.book.entries old mid (c.in-Ok.ensures.told tells).made) (c.give.ensures.told tells).made

pub returns-in-Err-clause-calls : goal.returns-in-Err-clause-calls
returns-in-Err-clause-calls g c = λ tells.
    calls_flushed c.args.self.now.desk.book.entries (g.T.Station.told c.args.station.now) (g.T.Station.told c.turn-2.new.station) (c.in-Err.ensures.told tells).made

pub returns-in-Ok-clause-full : goal.returns-in-Ok-clause-full
returns-in-Ok-clause-full g c = never_full (TurnFull (g.D.Decider.chooser c.args.decider.now) (standing_of c.args.self.now)) c.give.result c.give.ensures.full

pub returns-in-Err-clause-full : goal.returns-in-Err-clause-full
returns-in-Err-clause-full g c =
    let ch = g.D.Decider.chooser c.args.decider.now in
    let s = standing_of c.args.self.now in
    full_as (Option Outgoing) (Unit {0}) (IsTooLong (TurnAddsNext s.header.role ch c.in-Some.text.now s.desk) c.turn-2.new.self.book.known) (TurnFull ch s) c.in-Err.fault c.in-Err.ensures.full
    (λ n k. turn_full ch s c.in-Some.text.now c.turn-2.new.self.book.known n c.in-Some.ensures k)

pub returns-in-Err-clause-memory : goal.returns-in-Err-clause-memory
returns-in-Err-clause-memory g c =
    let ch = g.D.Decider.chooser c.args.decider.now in
    let s = standing_of c.args.self.now in
    memory_as (Option Outgoing) (Unit {0}) (IsIdle s.header ch s.desk c.in-Some.text.now → ⊥) (TurnBusy ch s) c.in-Err.fault c.in-Err.ensures.memory (turn_busy ch s c.in-Some.text.now c.in-Some.ensures)
