use Rattle.std.proofs.Common.{ap, ◌∙◌}
use Rattle.std.specs.Map.{keys_of}
use Rattle.delivery_book.proofs.Bodies.{keys_inserted}
use Rattle.delivery_book.proofs.looking.put.Goals as goal

pub returns-clause-order : goal.returns-clause-order
returns-clause-order c = ap keys_of c.in-Ok.ensures.entries ∙ keys_inserted c.args.deliveries.now.entries c.args.number c.args.delivery
