use Rattle.std.proofs.Common.{ap, length, arith}
use Rattle.cable_world.proofs.Counted.{deliveries_few}
use Rattle.cable_world.proofs.world_report.delivery_count.Goals as goal

pub returns-clause-few : goal.returns-clause-few
returns-clause-few c = omega (arith, c.deliveries.ensures, deliveries_few c.args.book.now.known, ap (λ entries. length entries) c.requires, ap (λ entries. length entries) c.journal.ensures.entries, c.len.ensures.value, c.len.ensures.most)
