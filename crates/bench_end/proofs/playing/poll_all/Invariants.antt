use Rattle.bench_end.specs.Standing.{CanPoll}
use Rattle.bench_end.proofs.playing.poll_all.Given as goal

abbrev pub invariant-loop : goal.invariant-loop
invariant-loop g l = record { stands : CanPoll l.side.end.core l.side.station }
