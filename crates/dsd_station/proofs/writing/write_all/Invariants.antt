use Rattle.std.proofs.Common.{◌≡◌, ℕ, List, ◌++◌, length}
use Rattle.std.specs.Io.KnownBytes.{Appends}
use Rattle.dsd_station.proofs.writing.write_all.Given as goal

-- the front of the text is written
abbrev pub invariant-loop-rest : goal.invariant-loop-rest
invariant-loop-rest g l =
    let sink = g.K.Sink in
    (sink.faults l.sink ≡ sink.faults l.fn.sink)
    × ((front : List ℕ) × (l.text ≡ front ++ l.rest) × Appends (sink.written l.fn.sink) (sink.written l.sink) front)

abbrev pub decreases-loop-rest : goal.decreases-loop-rest
decreases-loop-rest g l = length l.rest
