use Rattle.std.specs.Option.{option_copied}
use Rattle.delivery_book.proofs.Signed.{adjust_no, adjust_ok}
use Rattle.delivery_book.proofs.signing.adjust_known.Goals as goal

pub returns-in-Ok : goal.returns-in-Ok
returns-in-Ok c = adjust_ok c.args.role c.args.place c.args.control c.args.signature.now (option_copied c.args.known) c.in-Ok.delivery.now c.args.changes.now c.adjust.result c.in-Ok.ensures.exact.1 c.in-Ok.ensures.exact.0 c.adjust.ensures

pub returns-in-Err : goal.returns-in-Err
returns-in-Err c = adjust_no c.args.role c.args.place c.args.control c.args.signature.now (option_copied c.args.known) c.args.changes.now c.in-Err.fault c.in-Err.ensures.exact
