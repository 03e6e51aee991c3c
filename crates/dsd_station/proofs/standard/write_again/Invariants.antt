use Rattle.std.specs.Io.KnownBytes.{Keeps}
use Rattle.dsd_station.proofs.standard.write_again.Given as goal

-- an interrupted write took nothing
abbrev pub invariant-loop : goal.invariant-loop
invariant-loop g l = Keeps (g.W.Write.contents l.fn.writer) (g.W.Write.contents l.writer)
