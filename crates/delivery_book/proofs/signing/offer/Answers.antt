use Rattle.delivery_book.proofs.Signed.{asked_first, asked_next}
use Rattle.delivery_book.proofs.signing.offer.Goals as goal

pub returns-in-Ok : goal.returns-in-Ok
returns-in-Ok c = asked_next _ _ _ c.propose.result c.in-Ok.ensures.0 c.propose.ensures

pub returns-in-Err : goal.returns-in-Err
returns-in-Err c = asked_first _ _ c.in-Err.fault c.in-Err.ensures
