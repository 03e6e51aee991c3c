use Rattle.std.proofs.Common.{Bool, false, sym, subst}
use Rattle.std.specs.Prelude.{is_ok}
use Rattle.dsd_end.specs.MachineSeen.{standing_of}
use Rattle.dsd_end.specs.Polls.{Polled, failed_by, with_flags}
use Rattle.dsd_end.specs.RunSoFar.{Runs}
use Rattle.dex_line.specs.FrameShapes.{Enq}
use Rattle.dex_line.specs.FrameSpelling.{spelling}
use Rattle.std.proofs.Common.{◌++◌, [], OnOk}
use Rattle.own_turn.specs.Desks.{IfFull}
use Rattle.dsd_end.specs.FullTurns.{PollFull}
use Rattle.dsd_end.proofs.Filling.{never_full}
use Rattle.dsd_end.proofs.MachineSteps.{on_went, said_all, went_on}
use Rattle.dsd_end.proofs.RunsPolled.{beginning_step, runs_beginning}
use Rattle.dsd_end.proofs.Talking.{said_rests, talk_once}
use Rattle.dsd_end.proofs.machine.Machine.go_on.Goals as goal

pub returns-then-first-clause-rests : goal.returns-then-first-clause-rests
returns-then-first-clause-rests g c = λ tells.
    let old = g.T.Station.told c.args.station.now in
    let new = g.T.Station.told c.begin.new.station in
    on_went c.begin.result (λ went. said_rests c.args.self.now.desk.book.header c.args.self.now.desk.book.known (spelling Enq ++ []) old new (c.requires.rests tells)
    (said_all (spelling Enq ++ []) (is_ok c.begin.result) old new went (c.begin.ensures.told tells)))

pub returns-then-first-clause-talk : goal.returns-then-first-clause-talk
returns-then-first-clause-talk g c = λ tells. talk_once (g.T.Station.told c.args.station.now) (g.T.Station.told c.begin.new.station) (c.begin.ensures.told tells).keeps

pub returns-then-first-clause-step : goal.returns-then-first-clause-step
returns-then-first-clause-step g c =
    let T = g.T.Station.tells in
    let ch = g.D.Decider.chooser c.args.decider.now in
    let s = standing_of c.args.self.now in
    let old = g.T.Station.told c.args.station.now in
    let new = g.T.Station.told c.begin.new.station in
    subst (λ (b : Bool). OnOk c.begin.result (Polled T ch (with_flags s b false) s old new)) (sym c.if-first.true)
    (on_went c.begin.result (λ went. beginning_step T ch s old new (λ t. (c.begin.ensures.told t).keeps.heard) (λ t. said_all (spelling Enq ++ []) (is_ok c.begin.result) old new went (c.begin.ensures.told t))))

pub returns-then-first-clause-runs : goal.returns-then-first-clause-runs
returns-then-first-clause-runs g c = λ tells opening beginning.
    let ch = g.D.Decider.chooser c.args.decider.now in
    let s = standing_of c.args.self.now in
    let old = g.T.Station.told c.args.station.now in
    let new = g.T.Station.told c.begin.new.station in
    subst (λ (b : Bool). Runs ch opening beginning (with_flags s b false) old → Runs ch opening beginning (with_flags s false (failed_by c.begin.result)) new) (sym c.if-first.true)
    (λ runs. runs_beginning c.begin.result (is_ok c.begin.result) ch opening beginning s old new c.requires.ready.titled (c.requires.rests tells) (c.begin.ensures.told tells).keeps.heard (c.begin.ensures.told tells)
    (went_on c.begin.result) runs)

pub returns-else-first-clause-step : goal.returns-else-first-clause-step
returns-else-first-clause-step g c =
    subst (λ (b : Bool). OnOk c.listen.result (Polled g.T.Station.tells (g.D.Decider.chooser c.args.decider.now) (with_flags (standing_of c.args.self.now) b false) (standing_of c.listen.new.self) (g.T.Station.told c.args.station.now)
    (g.T.Station.told c.listen.new.station))) (sym c.if-first.false) c.listen.ensures.step

pub returns-else-first-clause-runs : goal.returns-else-first-clause-runs
returns-else-first-clause-runs g c = λ tells opening beginning.
    let ch = g.D.Decider.chooser c.args.decider.now in
    let new = g.T.Station.told c.listen.new.station in
    subst (λ (b : Bool). Runs ch opening beginning (with_flags (standing_of c.args.self.now) b false) (g.T.Station.told c.args.station.now)
    → Runs ch opening beginning (with_flags (standing_of c.listen.new.self) false (failed_by c.listen.result)) new) (sym c.if-first.false) (c.listen.ensures.runs tells opening beginning)

pub returns-then-first-clause-calls : goal.returns-then-first-clause-calls
returns-then-first-clause-calls g c = λ tells. (c.begin.ensures.told tells).made

pub returns-then-first-clause-full : goal.returns-then-first-clause-full
returns-then-first-clause-full g c =
    never_full (PollFull g.T.Station.tells (g.D.Decider.chooser c.args.decider.now) (with_flags (standing_of c.args.self.now) c.args.first false) (g.T.Station.told c.args.station.now) (g.T.Station.told c.begin.new.station))
    c.begin.result c.begin.ensures.full

pub returns-else-first-clause-full : goal.returns-else-first-clause-full
returns-else-first-clause-full g c =
    subst (λ (b : Bool). IfFull c.listen.result (PollFull g.T.Station.tells (g.D.Decider.chooser c.args.decider.now) (with_flags (standing_of c.args.self.now) b false) (g.T.Station.told c.args.station.now)
    (g.T.Station.told c.listen.new.station))) (sym c.if-first.false) c.listen.ensures.full
