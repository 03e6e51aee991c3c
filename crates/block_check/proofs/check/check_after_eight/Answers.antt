use Rattle.std.proofs.Common.{arith}
use Rattle.block_check.proofs.Steps.{step_by_list}
use Rattle.block_check.proofs.check.check_after_eight.Goals as goal

pub returns : goal.returns
returns c =
    let e1 = c.remainder.ensures in
    let e2 = c.remainder-2.ensures in
    let e3 = c.remainder-3.ensures in
    let e4 = c.remainder-4.ensures in
    let e5 = c.remainder-5.ensures in
    let e6 = c.remainder-6.ensures in
    let e7 = c.remainder-7.ensures in
    let e8 = c.remainder-8.ensures in
    let e9 = step_by_list c.args.check c.args.bytes.now (omega arith) c.told-bytes (c.fits-bytes 0) in
    cc
