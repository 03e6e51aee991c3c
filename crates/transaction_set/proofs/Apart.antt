-- Lines of which no two have one number, and the running check.
use Rattle.std.proofs.Common.{◌≡◌, ℕ, ◌==◌, false, ◌||◌, List, [], ◌∷◌, ◌++◌, refl, sym, ap, ◌∙◌, append_assoc, append-nil}
use Rattle.std.proofs.lemmas.List.Folds.{list_any-append}
use Rattle.block_check.specs.Crc16.{crc_from, crc_step}
use Rattle.dsd_values.specs.declared.line.Line.{Line}
use Rattle.segments.specs.Views.{Seg}
use Rattle.transaction_set.specs.Reasons.{has_line}
use Rattle.transaction_set.specs.Grammar.{AreApart, bytes_of}
use Rattle.transaction_set.proofs.Small.{or_false, both_false, turned}

-- a number that stands nowhere so far
pub apart_push : (lines : List Line) (line : Line) → AreApart lines → has_line line.dsd lines ≡ false → AreApart (lines ++ line ∷ [])
apart_push [] line a n = (refl, tt)
apart_push (x ∷ xs) line a n =
    let o = or_false (x.dsd == line.dsd) (has_line line.dsd xs) n in (
      list_any-append (λ (other : Line). other.dsd == x.dsd) xs (line ∷ []) ∙ both_false _ _ a.0 (both_false (line.dsd == x.dsd) false (turned x.dsd line.dsd o.0) refl),
      apart_push xs line a.1 o.1,
    )

-- a line's number stands nowhere before it
pub apart_at : (lines : List Line) (line : Line) (more : List Line) → AreApart (lines ++ line ∷ more) → has_line line.dsd lines ≡ false
apart_at [] line more a = refl
apart_at (x ∷ xs) line more a =
    let o = or_false (has_line x.dsd xs) ((line.dsd == x.dsd) || has_line x.dsd more) (sym (list_any-append (λ (other : Line). other.dsd == x.dsd) xs (line ∷ more)) ∙ a.0) in
    let here = or_false (line.dsd == x.dsd) (has_line x.dsd more) o.1 in
    both_false (x.dsd == line.dsd) (has_line line.dsd xs) (turned line.dsd x.dsd here.0) (apart_at xs line more a.1)

-- the check of a join goes on from the check of its front
pub check_on : (start : ℕ) (front back : List ℕ) → crc_from start (front ++ back) ≡ crc_from (crc_from start front) back
check_on start [] back = refl
check_on start (b ∷ front) back = check_on (crc_step start b) front back

pub bytes_more : (before : List Seg) (seg : Seg) → bytes_of (before ++ seg ∷ []) ≡ bytes_of before ++ seg.bytes
bytes_more [] seg = append-nil seg.bytes
bytes_more (x ∷ xs) seg = ap (λ (t : List ℕ). x.bytes ++ t) (bytes_more xs seg) ∙ sym (append_assoc x.bytes (bytes_of xs) seg.bytes)
