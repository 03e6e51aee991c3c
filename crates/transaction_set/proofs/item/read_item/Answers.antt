use Rattle.transaction_set.proofs.RightItems.{item_found, item_only}
use Rattle.transaction_set.proofs.item.read_item.Goals as goal

pub returns-clause-found : goal.returns-clause-found
returns-clause-found c = item_found c.args.segment.now c.parse_item.result c.parse_item.ensures

pub returns-clause-only : goal.returns-clause-only
returns-clause-only c = item_only c.args.segment.now c.parse_item.result c.parse_item.ensures
