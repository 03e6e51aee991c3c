use Rattle.std.proofs.Common.{ℕ, List, length, ap, sym, ◌∙◌}
use Rattle.std.specs.List.{concat}
use Rattle.own_turn.specs.DueSets.{DueSet, texts_of}
use Rattle.own_turn.proofs.GatheredAs.{texts-due_sets_of}
use Rattle.own_turn.proofs.gathered.Gathered.bytes.Goals as goal

pub returns-clause-value : goal.returns-clause-value
returns-clause-value c =
    c.self.invariant.1 ∙ ap (λ (l : List (List ℕ)). length (concat l)) (sym (texts-due_sets_of c.self.inside.numbers.items c.self.inside.texts.items c.self.invariant.0))
    ∙ ap (λ (sets : List DueSet). length (concat (texts_of sets))) c.self.view_is
