use Rattle.std.proofs.Common.{◌++◌, rules}
use Rattle.load_route.specs.RouteText.{count_text}
use Rattle.load_route.proofs.Rows.{left, one_more}
use Rattle.load_route.proofs.writing.put_counts.Goals as goal

pub loop-index-preserved : goal.loop-index-preserved
loop-index-preserved c =
    one_more count_text c.loop-index.index c.args.count c.loop-index.out.items c.put_count.new.out.items (c.args.out.now.items ++ left count_text 0 c.args.count) (search rules) (search rules) c.loop-index.invariant
