use Rattle.std.proofs.Common.{rules, Result, Ok, Err, false, refl}
use Rattle.own_turn.specs.declared.turn_fault.TurnFault.{TurnFault}
use Rattle.own_turn.specs.declared.turn_fault.TurnFault.TheVariants.{Station as NoStation}
use Rattle.dsd_station.specs.Effects.{heard_in}
use Rattle.dsd_station.specs.Stops.{listens_stops}
use Rattle.dsd_end.specs.EndSteps.{StepsTo}
use Rattle.dsd_end.specs.MachineSeen.{standing_of}
use Rattle.dsd_end.specs.PollStep.{HearsUnless}
use Rattle.dsd_end.specs.Standings.{has_ended}
use Rattle.dsd_station.specs.Effects.{listened}
use Rattle.dsd_end.specs.FullTurns.{HearsFull, PollFull}
use Rattle.dsd_end.proofs.Filling.{full_map, listen_full}
use Rattle.dsd_end.proofs.CallsMade.{calls_listened, calls_then}
use Rattle.dsd_end.proofs.AnswersThrough.{time_gone}
use Rattle.dsd_end.proofs.RunsPolled.{listening_step, runs_deaf, runs_listening, something_heard}
use Rattle.dsd_end.proofs.StepsGoing.{on_ok}
use Rattle.dsd_end.proofs.Talking.{listens_nothing, listens_rests, listens_something, once_deaf, once_heard}
use Rattle.dsd_end.proofs.machine.Machine.listen.Goals as goal

pub answer-requires-clause-rests : goal.answer-requires-clause-rests
answer-requires-clause-rests g c = λ tells.
    let listens = c.in-Ok.ensures.told tells in
    listens_rests c.args.self.now.desk.book.header c.args.self.now.desk.book.known (g.T.Station.told c.args.station.now) (g.T.Station.told c.listen.new.self) listens.ok.journal listens.time (c.requires.rests tells)

pub returns-in-Ok-clause-rests : goal.returns-in-Ok-clause-rests
returns-in-Ok-clause-rests g c = λ tells.
    let s = standing_of c.args.self.now in
    on_ok c.answer.result (λ (x : StepsTo g.T.Station.tells (HearsUnless (has_ended s.line) (g.D.Decider.chooser c.args.decider.now) s (heard_in c.listen.new.into c.in-Ok.heard)) (standing_of c.answer.new.self)
    (g.T.Station.told c.listen.new.self) (g.T.Station.told c.answer.new.station)). (x.told tells).rests) c.answer.ensures.step

pub returns-in-Ok-clause-talk : goal.returns-in-Ok-clause-talk
returns-in-Ok-clause-talk g c = λ tells.
    let old = g.T.Station.told c.args.station.now in
    let mid = g.T.Station.told c.listen.new.self in
    once_heard (heard_in c.listen.new.into c.in-Ok.heard) old mid (g.T.Station.told c.answer.new.station) (listens_something c.listen.new.into c.in-Ok.heard old mid (c.in-Ok.ensures.told tells)) (c.answer.ensures.keeps tells)

pub returns-in-Ok-clause-step : goal.returns-in-Ok-clause-step
returns-in-Ok-clause-step g c =
    let T = g.T.Station.tells in
    let ch = g.D.Decider.chooser c.args.decider.now in
    let s = standing_of c.args.self.now in
    let to = standing_of c.answer.new.self in
    let old = g.T.Station.told c.args.station.now in
    let mid = g.T.Station.told c.listen.new.self in
    let new = g.T.Station.told c.answer.new.station in
    let reception = heard_in c.listen.new.into c.in-Ok.heard in
    on_ok c.answer.result (λ (x : StepsTo T (HearsUnless (has_ended s.line) ch s reception) to mid new).
    listening_step T ch s to reception old mid new refl refl (something_heard c.listen.new.into c.in-Ok.heard c.in-Ok.ensures.piece (search rules)) (λ t. (c.in-Ok.ensures.told t).ok.heard)
    (λ t. time_gone old mid (c.in-Ok.ensures.told t).time) (λ t. (c.in-Ok.ensures.told t).ok.syncs) (λ t. (c.answer.ensures.keeps t).heard) x) c.answer.ensures.step

pub returns-in-Ok-clause-runs : goal.returns-in-Ok-clause-runs
returns-in-Ok-clause-runs g c = λ tells first beginning runs.
    let old = g.T.Station.told c.args.station.now in
    let mid = g.T.Station.told c.listen.new.self in
    let listens = c.in-Ok.ensures.told tells in
    runs_listening (g.D.Decider.chooser c.args.decider.now) first beginning (standing_of c.args.self.now) (standing_of c.answer.new.self) false false old (g.T.Station.told c.answer.new.station) c.answer.result
    (heard_in c.listen.new.into c.in-Ok.heard) mid listens.ok.heard (time_gone old mid listens.time) (λ P here. listens_stops c.listen.new.into (Ok c.in-Ok.heard) old mid P listens here) (c.requires.rests tells)
    (c.answer.ensures.keeps tells).heard c.answer.ensures.header (c.answer.ensures.leaves tells) runs

pub returns-in-Err-clause-talk : goal.returns-in-Err-clause-talk
returns-in-Err-clause-talk g c = λ tells.
    let old = g.T.Station.told c.args.station.now in
    let new = g.T.Station.told c.listen.new.self in
    once_deaf old new (listens_nothing c.listen.new.into c.in-Err.field-0 old new (c.in-Err.ensures.told tells))

pub returns-in-Err-clause-runs : goal.returns-in-Err-clause-runs
returns-in-Err-clause-runs g c = λ tells first beginning runs.
    let old = g.T.Station.told c.args.station.now in
    let new = g.T.Station.told c.listen.new.self in
    let s = standing_of c.args.self.now in
    let listens = c.in-Err.ensures.told tells in
    runs_deaf (g.D.Decider.chooser c.args.decider.now) first beginning s s false false old new (let r : Result (Unit {0}) TurnFault = Err NoStation in r) refl listens.err.heard
    (λ P here. listens_stops c.listen.new.into (Err c.in-Err.field-0) old new P listens here) (c.requires.rests tells) refl runs

pub returns-in-Ok-clause-calls : goal.returns-in-Ok-clause-calls
returns-in-Ok-clause-calls g c = λ tells.
    let old = g.T.Station.told c.args.station.now in
    let mid = g.T.Station.told c.listen.new.self in
    calls_then old mid (g.T.Station.told c.answer.new.station) (calls_listened (listened c.listen.new.into (Ok c.in-Ok.heard)) old mid (c.in-Ok.ensures.told tells).calls) (c.answer.ensures.calls tells)

pub returns-in-Err-clause-calls : goal.returns-in-Err-clause-calls
returns-in-Err-clause-calls g c = λ tells.
    calls_listened (listened c.listen.new.into (Err c.in-Err.field-0)) (g.T.Station.told c.args.station.now) (g.T.Station.told c.listen.new.self) (c.in-Err.ensures.told tells).calls

pub returns-in-Ok-clause-full : goal.returns-in-Ok-clause-full
returns-in-Ok-clause-full g c =
    let T = g.T.Station.tells in
    let ch = g.D.Decider.chooser c.args.decider.now in
    let s = standing_of c.args.self.now in
    let old = g.T.Station.told c.args.station.now in
    let mid = g.T.Station.told c.listen.new.self in
    let new = g.T.Station.told c.answer.new.station in
    let reception = heard_in c.listen.new.into c.in-Ok.heard in
    full_map (HearsFull ch s reception) (PollFull T ch s old new) c.answer.result
    (λ n k. listen_full T ch s reception old mid new n refl (λ t. (c.in-Ok.ensures.told t).ok.heard) (λ t. (c.answer.ensures.keeps t).heard) k) c.answer.ensures.full
