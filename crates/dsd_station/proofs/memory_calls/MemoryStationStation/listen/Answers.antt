use Rattle.std.proofs.Common.{rules, Ok}
use Rattle.dsd_station.specs.declared.call.Call.TheVariants.{Listen}
use Rattle.dsd_station.specs.ByPlan.{due_by, unless_stopped}
use Rattle.dsd_station.specs.Effects.{listened}
use Rattle.dsd_station.specs.Logged.{Plays}
use Rattle.dsd_station.specs.Planned.{heard_of}
use Rattle.dsd_station.proofs.Telling.{listens_told, refuses_told}
use Rattle.dsd_station.proofs.memory_calls.MemoryStationStation.listen.Goals as goal

pub returns-then-is_stopped-clause-told : goal.returns-then-is_stopped-clause-told
returns-then-is_stopped-clause-told c = λ _. refuses_told c.args.into.now c.play_here.result c.args.self.now c.play_here.new.self c.play_here.ensures.plays

pub returns-then-play-clause-told : goal.returns-then-play-clause-told
returns-then-play-clause-told c = λ _.
    let old = c.args.self.now in
    let answer = unless_stopped old.calls (heard_of (due_by old.plan.fed old.calls)) in
    let plays : Plays (Listen answer) answer (listened c.next_heard-heard.new.into (Ok c.next_heard-heard.result.0)) old c.play.new.self = search rules in
    listens_told old c.play.new.self c.next_heard-heard.new.into answer (Ok c.next_heard-heard.result.0) plays
