use Rattle.transaction_set.proofs.Keeps.{some_moves, moves_some}
use Rattle.transaction_set.proofs.Ordered.{may_follow, follows, whole_order}
use Rattle.transaction_set.proofs.laws.order_is_the_grammar.Goals as goal

pub returns-clause-follows : goal.returns-clause-follows
returns-clause-follows c = λ form ks p k e. (λ m. (_, some_moves _ (may_follow form ks p k e m)), λ h. follows form ks p k e (moves_some _ h.0 h.1))

pub returns-clause-whole : goal.returns-clause-whole
returns-clause-whole c = whole_order
