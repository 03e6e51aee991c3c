use Rattle.delivery_book.proofs.Grown.{legal_more}
use Rattle.delivery_book.proofs.Rebuilt.{admits_so, refuses_so}
use Rattle.delivery_book.proofs.rules.Rules.admit.Goals as goal

pub returns-in-Ok-add-clause-exact : goal.returns-in-Ok-add-clause-exact
returns-in-Ok-add-clause-exact c = (
  legal_more c.args.self.now.role c.args.self.now.entries _ c.role.ensures.legal c.in-Ok.ensures.0,
  admits_so c.args.self.now.entries c.add.new.self.entries c.in-Ok.change.entry c.args.kind c.args.payload.now _ c.in-Ok.ensures.1.1 c.in-Ok-add.ensures.exact,
)

pub returns-in-Err-clause-exact : goal.returns-in-Err-clause-exact
returns-in-Err-clause-exact c = refuses_so c.args.self.now.role c.args.self.now.entries _ c.in-Err.fault _ _ c.in-Err.ensures
