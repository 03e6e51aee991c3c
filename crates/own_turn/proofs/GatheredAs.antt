-- Due sets, as they are kept.
use Rattle.std.proofs.Common.{◌≡◌, ℕ, List, [], ◌∷◌, ◌++◌, length, map, refl, ap, arith}
use Rattle.own_turn.specs.DueSets.{DueSet, texts_of}
use Rattle.own_turn.specs.GatheredInside.{due_sets_of}

pub texts-due_sets_of : (numbers texts : List (List ℕ)) → length numbers ≡ length texts → texts_of (due_sets_of numbers texts) ≡ texts
texts-due_sets_of [] [] e = refl
texts-due_sets_of (number ∷ numbers) (text ∷ texts) e = ap (λ (l : List (List ℕ)). text ∷ l) (texts-due_sets_of numbers texts (omega (arith, e)))
texts-due_sets_of [] (text ∷ texts) e = absurd (omega (arith, e))
texts-due_sets_of (number ∷ numbers) [] e = absurd (omega (arith, e))

pub numbers-due_sets_of : (numbers texts : List (List ℕ)) → length numbers ≡ length texts → map (λ (due : DueSet). due.number) (due_sets_of numbers texts) ≡ numbers
numbers-due_sets_of [] [] e = refl
numbers-due_sets_of (number ∷ numbers) (text ∷ texts) e = ap (λ (l : List (List ℕ)). number ∷ l) (numbers-due_sets_of numbers texts (omega (arith, e)))
numbers-due_sets_of [] (text ∷ texts) e = absurd (omega (arith, e))
numbers-due_sets_of (number ∷ numbers) [] e = absurd (omega (arith, e))

-- one set more
pub pushed-due_sets_of : (numbers texts : List (List ℕ)) (number text : List ℕ) → length numbers ≡ length texts
    → due_sets_of (numbers ++ number ∷ []) (texts ++ text ∷ []) ≡ due_sets_of numbers texts ++ (let due : DueSet = record { number = number; text = text } in due) ∷ []
pushed-due_sets_of [] [] number text e = refl
pushed-due_sets_of (first ∷ numbers) (front ∷ texts) number text e = ap (λ (l : List DueSet). (let due : DueSet = record { number = first; text = front } in due) ∷ l) (pushed-due_sets_of numbers texts number text (omega (arith, e)))
pushed-due_sets_of [] (front ∷ texts) number text e = absurd (omega (arith, e))
pushed-due_sets_of (first ∷ numbers) [] number text e = absurd (omega (arith, e))
