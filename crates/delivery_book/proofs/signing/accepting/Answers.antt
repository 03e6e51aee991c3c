use Rattle.delivery_book.proofs.Signed.{accepted_so}
use Rattle.delivery_book.proofs.signing.accepting.Goals as goal

pub returns-in-Ok : goal.returns-in-Ok
returns-in-Ok c =
    accepted_so c.args.role c.args.entries.now c.args.deliveries.now.entries c.args.signed c.requires.rules c.args.number.now c.args.signature.now c.in-Ok.control _ c.get-known.ensures.value c.in-Ok.ensures.value c.accept_known.result c.accept_known.ensures
