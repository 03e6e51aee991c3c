use Rattle.bench_end.specs.Standing.{CanPoll}
use Rattle.bench_end.proofs.playing.play.Given as goal

abbrev pub invariant-loop : goal.invariant-loop
invariant-loop g l = record {
  supplier : CanPoll l.supplier.end.core l.supplier.station;
  receiver : CanPoll l.receiver.end.core l.receiver.station;
}
