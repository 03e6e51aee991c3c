use Rattle.std.proofs.Common.{rules, ◌≡◌, ◌-◌, ℕ, List, length, take, drop, min, Ok, Err, is_some, ap, ◌∙◌, arith, length-take}
use Rattle.dsd_station.specs.declared.call.Call.{Call}
use Rattle.dsd_station.specs.declared.call.Call.TheVariants.{Read}
use Rattle.dsd_station.specs.ByPlan.{unless_stopped}
use Rattle.dsd_station.specs.Logged.{Plays}
use Rattle.dsd_station.specs.Replayed.{state_of}
use Rattle.dsd_station.proofs.Telling.{read_told, read_keeps, reads_front, plays_answer}
use Rattle.dsd_station.proofs.memory_calls.MemoryStationStation.read_at.Goals as goal

pub returns-clause-told : goal.returns-clause-told
returns-clause-told c = λ _.
    let old = c.args.self.now in
    let answer = unless_stopped old.calls (min (length c.args.into.now) (length (state_of old.calls).journal - c.args.at)) in
    let plays : Plays (Read c.args.at (length c.args.into.now) answer) answer (Ok c.in-Ok.count) old c.play_here.new.self = search rules in
    read_told old c.play_here.new.self c.args.at (length c.args.into.now) answer (Ok c.in-Ok.count) plays

pub returns-in_default-clause-told : goal.returns-in_default-clause-told
returns-in_default-clause-told c = λ _.
    let old = c.args.self.now in
    let new = c.play_here.new.self in
    let room = length c.args.into.now in
    let answer = unless_stopped old.calls (min room (length (state_of old.calls).journal - c.args.at)) in
    let plays : Plays (Read c.args.at room answer) answer (Err (record {})) old new = search rules in
    read_told old new c.args.at room answer (Err (record {})) plays

pub copy_at-requires : goal.copy_at-requires
copy_at-requires c =
    let old = c.args.self.now in
    let new = c.play_here.new.self in
    let room = length c.args.into.now in
    let answer = unless_stopped old.calls (min room (length (state_of old.calls).journal - c.args.at)) in
    let plays : Plays (Read c.args.at room answer) answer (Ok c.in-Ok.count) old new = search rules in
    let journal : c.journal-2.result.now ≡ (state_of old.calls).journal = c.journal-2.ensures.journal ∙ ap (λ (calls : List Call). (state_of calls).journal) c.tape-2.ensures ∙ read_keeps c.args.at room answer (Ok c.in-Ok.count) old new plays in
    let count : c.in-Ok.count ≡ min room (length (state_of old.calls).journal - c.args.at) = plays_answer (Read c.args.at room answer) (is_some (state_of old.calls).left) (min room (length (state_of old.calls).journal - c.args.at)) (Ok c.in-Ok.count) old new plays in
    let size : length (take c.in-Ok.count c.args.into.now) ≡ c.in-Ok.count = omega (arith, length-take c.in-Ok.count c.args.into.now, count) in
    omega (arith, size, count, ap length journal)

pub returns-clause-bytes : goal.returns-clause-bytes
returns-clause-bytes c = λ _.
    let old = c.args.self.now in
    let new = c.play_here.new.self in
    let room = length c.args.into.now in
    let answer = unless_stopped old.calls (min room (length (state_of old.calls).journal - c.args.at)) in
    let plays : Plays (Read c.args.at room answer) answer (Ok c.in-Ok.count) old new = search rules in
    let journal : c.journal-2.result.now ≡ (state_of old.calls).journal = c.journal-2.ensures.journal ∙ ap (λ (calls : List Call). (state_of calls).journal) c.tape-2.ensures ∙ read_keeps c.args.at room answer (Ok c.in-Ok.count) old new plays in
    let count : c.in-Ok.count ≡ min room (length (state_of old.calls).journal - c.args.at) = plays_answer (Read c.args.at room answer) (is_some (state_of old.calls).left) (min room (length (state_of old.calls).journal - c.args.at)) (Ok c.in-Ok.count) old new plays in
    let size : length (take c.in-Ok.count c.args.into.now) ≡ c.in-Ok.count = omega (arith, length-take c.in-Ok.count c.args.into.now, count) in
    let bytes = c.copy_at.ensures ∙ ap (λ (n : ℕ). take n (drop c.args.at c.journal-2.result.now)) size ∙ ap (λ (l : List ℕ). take c.in-Ok.count (drop c.args.at l)) journal in
    reads_front c.args.at c.in-Ok.count (state_of old.calls).journal c.copy_at.new.into c.args.into.now count bytes
