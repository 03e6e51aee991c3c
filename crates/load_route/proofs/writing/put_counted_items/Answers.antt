use Rattle.std.proofs.Common.{◌++◌, List, ℕ, rules}
use Rattle.load_route.specs.Deliveries.{lines_of}
use Rattle.load_route.specs.RouteText.{counted_text}
use Rattle.load_route.proofs.Rows.{left, one_more}
use Rattle.load_route.proofs.writing.put_counted_items.Goals as goal

pub loop-index-preserved : goal.loop-index-preserved
loop-index-preserved c =
    let text : ℕ → List ℕ = counted_text c.args.delivery in
    let count : ℕ = lines_of c.args.delivery in (
      c.line_count-index-end.ensures.value,
      one_more text c.loop-index.index count c.loop-index.out.items c.put_counted_item.new.out.items (c.args.out.now.items ++ left text 0 count) (search rules) (search rules) c.loop-index.invariant.1,
    )
