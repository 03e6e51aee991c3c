use Rattle.std.proofs.Common.{ap, ◌∙◌}
use Rattle.delivery_book.specs.Index.{kept_in}
use Rattle.delivery_book.proofs.Signed.{proposed_so}
use Rattle.delivery_book.proofs.signing.proposing.Goals as goal

pub returns-in-Ok : goal.returns-in-Ok
returns-in-Ok c =
    proposed_so c.args.role c.args.entries.now c.args.deliveries.now.entries c.args.signed c.requires.rules c.args.base.now c.in-Ok.control _ (c.get-known.ensures.value ∙ ap (kept_in c.args.deliveries.now.entries) c.number.ensures) c.in-Ok.ensures.value c.offer.result c.offer.ensures
