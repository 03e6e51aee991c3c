-- The last line of a list with one more extra behind it.
use Rattle.std.proofs.Common.{◌≡◌, ℕ, zero, suc, ◌+◌, List, [], ◌∷◌, ◌++◌, length, get_or, set, refl, ap, ◌∙◌, arith}
use Rattle.dsd_values.specs.Behind.{extended, with_extra}
use Rattle.dsd_values.specs.declared.extra.Extra.{Extra}
use Rattle.dsd_values.specs.declared.line.Line.{Line}

pub with_extra_last : (extra : Extra) (lines : List Line) (line : Line) → with_extra extra (lines ++ line ∷ []) ≡ lines ++ extended extra line ∷ []
with_extra_last extra [] line = refl
with_extra_last extra (first ∷ []) line = refl
with_extra_last extra (first ∷ next ∷ lines) line = ap (λ (t : List Line). first ∷ t) (with_extra_last extra (next ∷ lines) line)

pub with_extra_none : (extra : Extra) (lines : List Line) → length lines ≡ 0 → lines ≡ with_extra extra lines
with_extra_none extra [] e = refl
with_extra_none extra (line ∷ lines) e = absurd (omega arith)

pub with_extra_at : (extra : Extra) (lines : List Line) (last : ℕ) (line : Line) → last + 1 ≡ length lines → line ≡ get_or lines last line → set lines last (extended extra line) ≡ with_extra extra lines
with_extra_at extra [] last line e is = absurd (omega arith)
with_extra_at extra (first ∷ []) last line e is =
    let zero : last ≡ 0 = omega arith in
    let same : line ≡ first = is ∙ ap (λ (n : ℕ). get_or (first ∷ []) n line) zero in
    ap (λ (n : ℕ). set (first ∷ []) n (extended extra line)) zero ∙ ap (λ (l : Line). extended extra l ∷ []) same
with_extra_at extra (first ∷ next ∷ lines) zero line e is = absurd (omega arith)
with_extra_at extra (first ∷ next ∷ lines) (suc last) line e is =
    ap (λ (t : List Line). first ∷ t) (with_extra_at extra (next ∷ lines) last line (omega arith) is)
