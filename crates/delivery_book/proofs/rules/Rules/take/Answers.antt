use Rattle.std.proofs.Common.{◌≡◌, ℕ, List, ap}
use Rattle.dsd_journal.specs.declared.entry.Entry.{Entry}
use Rattle.dsd_journal.specs.declared.entry.EntryKind.TheVariants.{Took}
use Rattle.delivery_book.proofs.Rebuilt.{adds_so}
use Rattle.delivery_book.proofs.rules.Rules.take.Goals as goal

pub returns-in-Ok-clause-exact : goal.returns-in-Ok-clause-exact
returns-in-Ok-clause-exact c =
    adds_so c.add.result _ c.in-Ok.change.entry Took (λ (text : List ℕ). text ≡ c.args.set.now) c.args.self.now.entries c.add.new.self.entries c.in-Ok.ensures.0 (ap (λ (x : Entry). x.kind) c.in-Ok.ensures.1.1) (ap (λ (x : Entry). x.payload) c.in-Ok.ensures.1.1) c.add.ensures.exact
