use Rattle.std.proofs.Common.{arith}
use Rattle.dex_line.proofs.TextLanes.{run_ends, run_goes_on}
use Rattle.dex_line.proofs.bytes.text_length.Goals as goal

pub returns-then-run-lt-LANES-clause-count : goal.returns-then-run-lt-LANES-clause-count
returns-then-run-lt-LANES-clause-count c =
    run_ends c.args.bytes.now c.loop-size.size c.leading_text-run.result (omega arith) c.leading_text-run.ensures c.loop-size.invariant.count c.if-run-lt-LANES.true

pub loop-size-preserved : goal.loop-size-preserved
loop-size-preserved c = record {
  inside = omega arith;
  count = run_goes_on c.args.bytes.now c.loop-size.size c.leading_text-run.result (omega arith) c.leading_text-run.ensures c.loop-size.invariant.count c.if-run-lt-LANES.false;
}
