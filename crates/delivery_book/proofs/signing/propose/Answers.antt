use Rattle.delivery_book.proofs.Signed.{base_signed}
use Rattle.delivery_book.proofs.signing.propose.Goals as goal

pub returns-in-Ok : goal.returns-in-Ok
returns-in-Ok c = base_signed c.args.place c.args.control _ c.args.base.now (c.in-Ok.text, c.in-Ok.check) c.signed_base.result c.in-Ok.ensures c.signed_base.ensures
