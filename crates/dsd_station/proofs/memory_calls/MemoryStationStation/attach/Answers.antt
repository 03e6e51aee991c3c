use Rattle.std.proofs.Common.{rules}
use Rattle.dsd_station.specs.declared.call.Call.TheVariants.{Attach}
use Rattle.dsd_station.specs.ByPlan.{unless_stopped}
use Rattle.dsd_station.specs.Logged.{Plays}
use Rattle.dsd_station.proofs.Telling.{attaches_told}
use Rattle.dsd_station.proofs.memory_calls.MemoryStationStation.attach.Goals as goal

pub returns-clause-told : goal.returns-clause-told
returns-clause-told c = λ _.
    let old = c.args.self.now in
    let new = c.play_here.new.self in
    let answer = unless_stopped old.calls tt in
    let plays : Plays (Attach c.args.journal.now c.args.port.now answer) answer c.play_here.result old new = search rules in
    attaches_told old new c.args.journal.now c.args.port.now answer c.play_here.result plays
