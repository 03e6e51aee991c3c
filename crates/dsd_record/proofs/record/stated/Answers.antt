use Rattle.std.proofs.Common.{rules}
use Rattle.dsd_record.proofs.Prices.{price_stated}
use Rattle.dsd_record.proofs.record.stated.Goals as goal

pub returns : goal.returns
returns c = price_stated c.args.base.now.lines c.args.base.now.extras c.quantity.result c.amount.result (search rules) c.quantity.ensures c.amount.ensures.price
