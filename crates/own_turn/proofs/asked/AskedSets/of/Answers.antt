use Rattle.std.proofs.Common.{Some, None, ap, ◌∙◌}
use Rattle.own_turn.specs.DueSets.{asked_of}
use Rattle.own_turn.proofs.AskedAs.{asked_found}
use Rattle.own_turn.proofs.asked.AskedSets.of.Goals as goal

pub returns-in-Some : goal.returns-in-Some
returns-in-Some c = asked_found c.self.inside.deliveries.entries c.args.number.now (Some c.in-Some.asking.now) c.in-Some.ensures.value ∙ ap (asked_of c.args.number.now) c.self.view_is

pub returns-in-None : goal.returns-in-None
returns-in-None c = asked_found c.self.inside.deliveries.entries c.args.number.now None c.in-None.ensures.value ∙ ap (asked_of c.args.number.now) c.self.view_is
