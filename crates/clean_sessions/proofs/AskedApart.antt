-- What due sets ask of one delivery stands apart from what they ask of another.
use Rattle.std.proofs.Common.{◌≡◌, ℕ, Bool, true, false, if◌then◌else◌, List, [], ◌∷◌, refl, sym, ap, subst, ◌∙◌, inl, inr}
use Rattle.std.specs.Str.{bytes_eq}
use Rattle.std.proofs.lemmas.Slice.Eq.{bytes_eq-Decides}
use Rattle.std.proofs.lemmas.Bool.{cases_Bool}
use Rattle.own_turn.specs.DueSets.{Asked, asked_of, unasked, with_asked}

itself : (number : List ℕ) → bytes_eq number number ≡ true
itself number = (bytes_eq-Decides number number).1 refl

pub own_asked : (all : List Asked) (new : Asked) → asked_of new.number (with_asked all new) ≡ new
own_asked [] new = ap (λ (b : Bool). if b then new else unasked new.number) (itself new.number)
own_asked (first ∷ more) new = elim (cases_Bool (bytes_eq first.number new.number)) [
  | inl same ↦ subst (λ (b : Bool). asked_of new.number (if b then new ∷ more else first ∷ with_asked more new) ≡ new) (sym same)
      (ap (λ (b : Bool). if b then new else asked_of new.number more) (itself new.number))
  | inr differs ↦ subst (λ (b : Bool). asked_of new.number (if b then new ∷ more else first ∷ with_asked more new) ≡ new) (sym differs)
      (ap (λ (b : Bool). if b then first else asked_of new.number (with_asked more new)) differs ∙ own_asked more new)
]

pub other_asked : (all : List Asked) (new : Asked) (number : List ℕ) → bytes_eq new.number number ≡ false → asked_of number (with_asked all new) ≡ asked_of number all
other_asked [] new number differs = ap (λ (b : Bool). if b then new else unasked number) differs
other_asked (first ∷ more) new number differs = elim (cases_Bool (bytes_eq first.number new.number)) [
  | inl same ↦
      let equal : first.number ≡ new.number = (bytes_eq-Decides first.number new.number).0 same in
      let away : bytes_eq first.number number ≡ false = ap (λ (n : List ℕ). bytes_eq n number) equal ∙ differs in
      subst (λ (b : Bool). asked_of number (if b then new ∷ more else first ∷ with_asked more new) ≡ asked_of number (first ∷ more)) (sym same)
      (ap (λ (b : Bool). if b then new else asked_of number more) differs ∙ sym (ap (λ (b : Bool). if b then first else asked_of number more) away))
  | inr apart ↦
      subst (λ (b : Bool). asked_of number (if b then new ∷ more else first ∷ with_asked more new) ≡ asked_of number (first ∷ more)) (sym apart)
      (ap (λ (a : Asked). if bytes_eq first.number number then first else a) (other_asked more new number differs))
]
