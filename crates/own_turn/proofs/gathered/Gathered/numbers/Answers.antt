use Rattle.std.proofs.Common.{List, map, ap, sym, ◌∙◌}
use Rattle.own_turn.specs.DueSets.{DueSet}
use Rattle.own_turn.proofs.GatheredAs.{numbers-due_sets_of}
use Rattle.own_turn.proofs.gathered.Gathered.numbers.Goals as goal

pub returns : goal.returns
returns c =
    c.as_slice.ensures.value ∙ sym (numbers-due_sets_of c.self.inside.numbers.items c.self.inside.texts.items c.self.invariant.0)
    ∙ ap (λ (l : List DueSet). map (λ (due : DueSet). due.number) l) c.self.view_is
