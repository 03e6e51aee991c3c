use Rattle.delivery_book.proofs.Stays.{finals_kept}
use Rattle.delivery_book.proofs.laws.finals_stay.Goals as goal

pub returns : goal.returns
returns c = λ entries more number version e. finals_kept entries more number version e
