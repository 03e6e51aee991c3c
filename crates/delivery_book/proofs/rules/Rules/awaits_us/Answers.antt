use Rattle.std.proofs.Common.{◌∙◌}
use Rattle.delivery_book.specs.Lookups.{number_at}
use Rattle.delivery_book.proofs.Rebuilt.{awaited}
use Rattle.delivery_book.proofs.rules.Rules.awaits_us.Goals as goal

pub returns : goal.returns
returns c = c.awaits_us.ensures ∙ awaited (number_at c.args.self.now.entries c.args.index) c.args.self.now.entries c.at.result.1.now c.at.ensures.stand
