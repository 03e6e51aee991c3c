use Rattle.std.proofs.Common.{rules}
use Rattle.dsd_station.specs.declared.call.Call.TheVariants.{Speak}
use Rattle.dsd_station.specs.ByPlan.{outcome_by}
use Rattle.dsd_station.specs.Effects.{answer_of}
use Rattle.dsd_station.specs.Logged.{Plays}
use Rattle.dsd_station.proofs.Telling.{speaks_told}
use Rattle.dsd_station.proofs.memory_calls.MemoryStationStation.speak.Goals as goal

pub returns-clause-told : goal.returns-clause-told
returns-clause-told c = λ _.
    let old = c.args.self.now in
    let new = c.play_here.new.self in
    let answer = outcome_by old.plan old.calls in
    let plays : Plays (Speak c.args.bytes.now answer) (answer_of answer) c.play_here.result old new = search rules in
    speaks_told old new c.args.bytes.now answer c.play_here.result plays
