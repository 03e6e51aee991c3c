-- Units of lines one behind another.
use Rattle.std.proofs.Common.{◌≡◌, ℕ, Bool, true, false, ◌&&◌, List, [], ◌∷◌, ◌++◌, refl, ap}
use Rattle.std.specs.Prelude.{if◌then◌else◌}
use Rattle.dex_line.specs.TextUnits.{is_trailer, is_set_end, paired}
use Rattle.clean_sessions.specs.BlocksAlone.{EndsApart}

apart_tail : (next : List ℕ) (more : List (List ℕ)) → EndsApart (next ∷ more) → EndsApart more
apart_tail next [] e = tt
apart_tail next (line ∷ more) e = e

-- a test in front of two joins
if_joined : (t : Bool) (a b c d e : List (List ℕ)) → (a ≡ c ++ e) → (b ≡ d ++ e) → (if t then a else b) ≡ (if t then c else d) ++ e
if_joined true a b c d e p q = p
if_joined false a b c d e p q = q

pub paired_apart : (lines others : List (List ℕ)) → EndsApart lines → paired (lines ++ others) ≡ paired lines ++ paired others
unfolding paired
paired_apart [] others e = refl
paired_apart (line ∷ []) [] e = refl
paired_apart (line ∷ []) (y ∷ ys) e = ap (λ (b : Bool). if b && is_set_end y then (line ++ y) ∷ paired ys else line ∷ paired (y ∷ ys)) e
paired_apart (line ∷ next ∷ more) others e =
    if_joined (is_trailer line && is_set_end next) _ _ _ _ _
    (ap (λ (u : List (List ℕ)). (line ++ next) ∷ u) (paired_apart more others (apart_tail next more e)))
    (ap (λ (u : List (List ℕ)). line ∷ u) (paired_apart (next ∷ more) others e))
