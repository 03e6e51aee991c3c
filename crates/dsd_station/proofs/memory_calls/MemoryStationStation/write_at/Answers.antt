use Rattle.std.proofs.Common.{rules}
use Rattle.dsd_station.specs.declared.call.Call.TheVariants.{Write}
use Rattle.dsd_station.specs.ByPlan.{outcome_by}
use Rattle.dsd_station.specs.Effects.{answer_of}
use Rattle.dsd_station.specs.Logged.{Plays}
use Rattle.dsd_station.proofs.Telling.{writes_told}
use Rattle.dsd_station.proofs.memory_calls.MemoryStationStation.write_at.Goals as goal

pub returns-clause-told : goal.returns-clause-told
returns-clause-told c = λ _.
    let old = c.args.self.now in
    let new = c.play_here.new.self in
    let outcome = outcome_by old.plan old.calls in
    let plays : Plays (Write c.args.at c.args.from.now outcome) (answer_of outcome) c.play_here.result old new = search rules in
    writes_told old new c.args.at c.args.from.now outcome c.play_here.result (c.requires tt) plays
