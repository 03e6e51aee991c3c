use Rattle.dsd_journal.specs.declared.entry.EntryKind.TheVariants.{Signed}
use Rattle.delivery_book.specs.Answering.{IsAcceptance}
use Rattle.delivery_book.proofs.Rebuilt.{adds_so}
use Rattle.delivery_book.proofs.rules.Rules.accept.Goals as goal

pub returns-in-Ok-clause-exact : goal.returns-in-Ok-clause-exact
returns-in-Ok-clause-exact c =
    adds_so c.add.result _ c.in-Ok.change.entry Signed (IsAcceptance c.args.self.now.role c.args.self.now.entries c.args.number.now c.args.signature.now) c.args.self.now.entries c.add.new.self.entries c.in-Ok.ensures.0 c.in-Ok.ensures.1.1.0 c.in-Ok.ensures.1.1.1 c.add.ensures.exact
