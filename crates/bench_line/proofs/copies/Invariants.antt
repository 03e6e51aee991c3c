use Rattle.std.specs.Prelude.{All}
use Rattle.segments.specs.SetUnits.{IsSetText}
use Rattle.bench_line.proofs.copies.Given as goal

abbrev pub invariant-loop : goal.invariant-loop
invariant-loop l = All IsSetText l.sets.items
