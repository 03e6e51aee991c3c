use Rattle.std.proofs.Common.{rules, length}
use Rattle.dsd_station.specs.declared.call.Call.TheVariants.{Size}
use Rattle.dsd_station.specs.ByPlan.{unless_stopped}
use Rattle.dsd_station.specs.Logged.{Plays}
use Rattle.dsd_station.specs.Replayed.{state_of}
use Rattle.dsd_station.proofs.Telling.{size_told}
use Rattle.dsd_station.proofs.memory_calls.MemoryStationStation.size.Goals as goal

pub returns-clause-told : goal.returns-clause-told
returns-clause-told c = λ _.
    let old = c.args.self.now in
    let new = c.play_here.new.self in
    let answer = unless_stopped old.calls (length (state_of old.calls).journal) in
    let plays : Plays (Size answer) answer c.play_here.result old new = search rules in
    size_told old new answer c.play_here.result plays
