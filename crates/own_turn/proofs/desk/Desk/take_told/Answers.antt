use Rattle.std.proofs.Common.{Option, Ok, subst}
use Rattle.dxs_envelope.specs.SetsLeft.{Tells}
use Rattle.dxs_envelope.specs.Views.{SetAt}
use Rattle.own_turn.proofs.TakingOn.{taking_ends, taking_refused}
use Rattle.own_turn.proofs.desk.Desk.take_told.Goals as goal

pub returns-in-Ok-None-clause-exact : goal.returns-in-Ok-None-clause-exact
returns-in-Ok-None-clause-exact c =
    let told = subst (λ (set : Option SetAt). Tells c.loop-set.sets (Ok set) c.next.new.self) c.in-Ok-None.field-0-is c.in-Ok-None.ensures in
    taking_ends c.args.self.now.book.header.role c.args.self.now c.args.sets.now c.loop-set.self c.loop-set.sets c.loop-set.invariant.taking told.0

pub returns-in-Err-clause-exact : goal.returns-in-Err-clause-exact
returns-in-Err-clause-exact c =
    taking_refused c.args.self.now.book.header.role c.args.self.now c.args.sets.now c.loop-set.self c.loop-set.sets c.loop-set.invariant.taking
    c.in-Err.field-0 c.refuse.result c.refuse.new.self c.in-Err.ensures.0 c.refuse.ensures.ok c.refuse.ensures.err
