use Rattle.delivery_book.proofs.Refusing.{never_both, one_place}
use Rattle.delivery_book.proofs.laws.a_book_is_refused_at_one_place.Goals as goal

pub returns-clause-never_both : goal.returns-clause-never_both
returns-clause-never_both c = never_both

pub returns-clause-one_place : goal.returns-clause-one_place
returns-clause-one_place c = one_place
