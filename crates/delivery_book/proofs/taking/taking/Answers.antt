use Rattle.delivery_book.proofs.Known.{taken_so}
use Rattle.delivery_book.proofs.taking.taking.Goals as goal

pub returns-in-Ok : goal.returns-in-Ok
returns-in-Ok c =
    taken_so c.args.role c.args.entries.now c.args.deliveries.now.entries c.requires.rules.0 c.requires.rules.1 c.args.text.now c.in-Ok.set c.in-Ok.ensures.found c.take_set.result c.take_set.ensures
