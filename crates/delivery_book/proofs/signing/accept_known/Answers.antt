use Rattle.std.specs.Option.{option_copied}
use Rattle.delivery_book.proofs.Signed.{accept_no, accept_ok}
use Rattle.delivery_book.proofs.signing.accept_known.Goals as goal

pub returns-in-Ok : goal.returns-in-Ok
returns-in-Ok c = accept_ok c.args.role c.args.place c.args.control c.args.signature.now (option_copied c.args.known) c.in-Ok.delivery.now c.accept.result c.in-Ok.ensures.1 c.in-Ok.ensures.0 c.accept.ensures

pub returns-in-Err : goal.returns-in-Err
returns-in-Err c = accept_no c.args.role c.args.place c.args.control c.args.signature.now (option_copied c.args.known) c.in-Err.fault c.in-Err.ensures
