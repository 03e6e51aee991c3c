-- Texts without the stars at their end.
use Rattle.std.proofs.Common.{◌≡◌, ℕ, ◌==◌, false, List, [], ◌∷◌, ◌++◌, refl, sym, ap, ◌∙◌, arith}
use Rattle.std.proofs.lemmas.Bool.Decides.{nat_tests}
use Rattle.segments.specs.Elements.{without_end_stars, or_star}

pub trim_star : (front : List ℕ) → without_end_stars (front ++ 42 ∷ []) ≡ without_end_stars front
trim_star [] = refl
trim_star (b ∷ front) = ap (or_star b) (trim_star front)

pub trim_one : (text front : List ℕ) (last : ℕ) → text ≡ front ++ last ∷ [] → last ≡ 42 → without_end_stars front ≡ without_end_stars text
trim_one text front last e same = sym (ap without_end_stars e ∙ ap (λ (b : ℕ). without_end_stars (front ++ b ∷ [])) same ∙ trim_star front)

or_other : (b last : ℕ) (rest : List ℕ) → or_star b (rest ++ last ∷ []) ≡ b ∷ (rest ++ last ∷ [])
or_other b last [] = refl
or_other b last (x ∷ rest) = refl

kept_last : (front : List ℕ) (last : ℕ) → (last == 42) ≡ false → without_end_stars (front ++ last ∷ []) ≡ front ++ last ∷ []
kept_last [] last apart = rw apart refl
kept_last (b ∷ front) last apart = ap (or_star b) (kept_last front last apart) ∙ or_other b last front

pub trim_none : (text front : List ℕ) (last : ℕ) → text ≡ front ++ last ∷ [] → (last ≡ 42 → ⊥) → text ≡ without_end_stars text
trim_none text front last e apart =
    let test : (last == 42) ≡ false = grind (arith, nat_tests) in
    sym (ap without_end_stars e ∙ kept_last front last test ∙ sym e)
