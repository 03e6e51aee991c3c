use Rattle.std.proofs.Common.{ap, ◌∙◌}
use Rattle.delivery_book.specs.Index.{History}
use Rattle.delivery_book.specs.Lookups.{number_at}
use Rattle.delivery_book.proofs.Rebuilt.{amount_there}
use Rattle.delivery_book.proofs.rules.Rules.own_amount.Goals as goal

pub returns : goal.returns
returns c = c.amount.ensures ∙ ap (λ (h : History). h.amount) c.history.ensures ∙ amount_there (number_at c.args.self.now.entries c.args.index) c.args.self.now.entries c.at.result.1.now c.at.ensures.stand
