use Rattle.std.proofs.Common.{length, ◌/◌}
use Rattle.block_check.proofs.Steps.{by_chunks}
use Rattle.block_check.proofs.check.check_from.Goals as goal

pub returns : goal.returns
returns c =
    let e1 = c.check_after_each.ensures in
    let e2 = c.check_after_eights-check.ensures in
    let e3 = c.as_chunks.ensures.front in
    let e4 = c.as_chunks.ensures.back in
    let e5 = by_chunks 8 (length c.args.bytes.now / 8) c.args.start c.args.bytes.now in
    cc
