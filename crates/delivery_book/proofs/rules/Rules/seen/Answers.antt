use Rattle.std.proofs.Common.{Some, ap, sym, ◌∙◌}
use Rattle.dsd_record.specs.Version.{Version}
use Rattle.delivery_book.specs.Lookups.{number_at}
use Rattle.delivery_book.proofs.Rebuilt.{seen_there}
use Rattle.delivery_book.proofs.rules.Rules.seen.Goals as goal

pub returns : goal.returns
returns c = seen_there (number_at c.args.self.now.entries c.args.index) c.args.self.now.entries c.at.result.1.now c.at.ensures.stand ∙ ap (λ (v : Version). Some v) (sym c.seen.ensures)
