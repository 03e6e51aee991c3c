use Rattle.std.proofs.Common.{◌≡◌, ℕ, List, Ok}
use Rattle.dsd_journal.specs.declared.entry.EntryKind.TheVariants.{Signed}
use Rattle.base_record_894.specs.WrittenText.{written_of as base_written}
use Rattle.delivery_book.specs.Signing.{next_control}
use Rattle.delivery_book.proofs.Rebuilt.{adds_so}
use Rattle.delivery_book.proofs.rules.Rules.propose.Goals as goal

pub returns-in-Ok-clause-exact : goal.returns-in-Ok-clause-exact
returns-in-Ok-clause-exact c =
    adds_so c.add.result _ c.in-Ok.change.entry Signed (λ (text : List ℕ). base_written c.args.base (next_control c.args.self.now.entries) ≡ Ok text) c.args.self.now.entries c.add.new.self.entries c.in-Ok.ensures.0 c.in-Ok.ensures.1.1.0 c.in-Ok.ensures.1.1.1 c.add.ensures.exact
