use Rattle.std.proofs.Common.{ap, sym, ◌∙◌}
use Rattle.delivery_book.specs.Index.{kept_in}
use Rattle.delivery_book.proofs.Bodies.{key_at}
use Rattle.delivery_book.proofs.looking.at.Goals as goal

pub returns-clause-kept : goal.returns-clause-kept
returns-clause-kept c =
    ap (kept_in c.args.deliveries.now.entries) (key_at c.args.deliveries.now.entries c.args.index c.in-Some.pair.0.now c.in-Some.pair.1.now (sym c.in-Some.ensures.entry)) ∙ c.in-Some.ensures.value
