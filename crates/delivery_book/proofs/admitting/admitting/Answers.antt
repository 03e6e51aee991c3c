use Rattle.delivery_book.proofs.Allowed.{decided, no_set_so}
use Rattle.delivery_book.proofs.admitting.admitting.Goals as goal

pub returns-in-Ok : goal.returns-in-Ok
returns-in-Ok c =
    decided c.args.role c.args.entries.now c.args.deliveries.now.entries c.args.signed c.requires.rules c.args.kind c.args.text.now c.in-Ok.set c.in-Ok.ensures.found c.admit_set.result c.admit_set.ensures

pub returns-in-Err : goal.returns-in-Err
returns-in-Err c = no_set_so c.args.role c.args.entries.now c.args.kind c.args.text.now c.in-Err.fault c.no_set.result _ _ c.no_set.ensures c.in-Err.ensures.exact
