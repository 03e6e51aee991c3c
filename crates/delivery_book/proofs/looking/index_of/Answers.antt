use Rattle.delivery_book.proofs.Bodies.{found_at}
use Rattle.delivery_book.proofs.looking.index_of.Goals as goal

pub returns : goal.returns
returns c = found_at c.args.deliveries.now.entries c.args.number.now c.get_index_of.result c.get_index_of.ensures.index c.get_index_of.ensures.found c.get_index_of.ensures.within
