use Rattle.std.proofs.Common.{ap, sym, ◌∙◌}
use Rattle.own_turn.specs.DueSets.{texts_of}
use Rattle.own_turn.proofs.GatheredAs.{texts-due_sets_of}
use Rattle.own_turn.proofs.gathered.Gathered.texts.Goals as goal

pub returns : goal.returns
returns c = c.as_slice.ensures.value ∙ sym (texts-due_sets_of c.self.inside.numbers.items c.self.inside.texts.items c.self.invariant.0) ∙ ap texts_of c.self.view_is
