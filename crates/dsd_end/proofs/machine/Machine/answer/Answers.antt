use Rattle.std.proofs.Common.{Bool, [], sym, ◌∙◌, subst}
use Rattle.dsd_station.specs.Effects.{heard_in}
use Rattle.dsd_station.specs.declared.station.Heard.{Heard}
use Rattle.dsd_station.specs.declared.station.Heard.TheVariants.{Unplugged}
use Rattle.dsd_end.specs.EndSteps.{StepsTo}
use Rattle.dsd_end.specs.MachineSeen.{standing_of}
use Rattle.dsd_end.specs.PollStep.{HearsUnless}
use Rattle.dsd_end.specs.RunSoFar.{bytes_in}
use Rattle.dsd_end.specs.Standings.{has_ended}
use Rattle.dsd_end.proofs.CallsMade.{calls_none}
use Rattle.dsd_end.proofs.AnswersThrough.{cut_leaves, cut_step, ended_leaves, ended_step}
use Rattle.dsd_end.proofs.PiecesThrough.{Takes}
use Rattle.dsd_end.proofs.machine.Machine.answer.Goals as goal

pub returns-then-has_ended-clause-step : goal.returns-then-has_ended-clause-step
returns-then-has_ended-clause-step g c =
    let ch = g.D.Decider.chooser c.args.decider.now in
    let s = standing_of c.args.self.now in
    let old = g.T.Station.told c.args.station.now in
    let reception = heard_in c.args.buffer.now c.args.heard in
    subst (λ (b : Bool). StepsTo g.T.Station.tells (HearsUnless b ch s reception) s old old) (sym (sym c.has_ended.ensures ∙ c.if-has_ended.true)) (ended_step g.T.Station.tells ch s reception old c.requires.rests)

pub returns-then-has_ended-clause-leaves : goal.returns-then-has_ended-clause-leaves
returns-then-has_ended-clause-leaves g c = λ tells.
    ended_leaves (g.D.Decider.chooser c.args.decider.now) (standing_of c.args.self.now) (bytes_in (heard_in c.args.buffer.now c.args.heard)) (g.T.Station.told c.args.station.now) (sym c.has_ended.ensures ∙ c.if-has_ended.true)
    (c.requires.rests tells)

pub returns-in-Unplugged-clause-step : goal.returns-in-Unplugged-clause-step
returns-in-Unplugged-clause-step g c =
    let ch = g.D.Decider.chooser c.args.decider.now in
    let s = standing_of c.args.self.now in
    let to = standing_of c.unplug.new.self in
    let old = g.T.Station.told c.args.station.now in
    subst (λ (h : Heard). StepsTo g.T.Station.tells (HearsUnless (has_ended s.line) ch s (heard_in c.args.buffer.now h)) to old old) (sym c.in-Unplugged.is)
    (subst (λ (b : Bool). StepsTo g.T.Station.tells (HearsUnless b ch s (heard_in c.args.buffer.now Unplugged)) to old old) (sym (sym c.has_ended.ensures ∙ c.if-has_ended.false))
    (cut_step ch s to old c.unplug.ensures.standing g.T.Station.tells c.requires.rests))

pub returns-in-Unplugged-clause-leaves : goal.returns-in-Unplugged-clause-leaves
returns-in-Unplugged-clause-leaves g c = λ tells.
    let ch = g.D.Decider.chooser c.args.decider.now in
    let s = standing_of c.args.self.now in
    let to = standing_of c.unplug.new.self in
    let old = g.T.Station.told c.args.station.now in
    subst (λ (h : Heard). Takes ch s (bytes_in (heard_in c.args.buffer.now h)) [] to old old) (sym c.in-Unplugged.is) (cut_leaves ch s to old c.unplug.ensures.standing (c.requires.rests tells))

pub returns-then-has_ended-clause-calls : goal.returns-then-has_ended-clause-calls
returns-then-has_ended-clause-calls g c = λ tells. calls_none (g.T.Station.told c.args.station.now)

pub returns-in-Unplugged-clause-calls : goal.returns-in-Unplugged-clause-calls
returns-in-Unplugged-clause-calls g c = λ tells. calls_none (g.T.Station.told c.args.station.now)
