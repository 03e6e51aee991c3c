-- Due sets as they are kept: their numbers, and their texts.
use Rattle.std.specs.Prelude.{ℕ, List, [], ◌∷◌}
use Rattle.own_turn.specs.DueSets.{DueSet}

abbrev pub due_sets_of : List (List ℕ) → List (List ℕ) → List DueSet
due_sets_of (number ∷ numbers) (text ∷ texts) = record { number = number; text = text } ∷ due_sets_of numbers texts
due_sets_of numbers texts = []
