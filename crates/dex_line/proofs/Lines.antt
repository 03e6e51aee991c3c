-- For callers that write a text line by line: its units, and that they fit into blocks.
use Rattle.std.proofs.Common.{◌≡◌, ℕ, ◌+◌, ◌≤◌, Bool, true, false, ◌&&◌, List, [], ◌∷◌, ◌++◌, length, position, None, refl, sym, ◌∙◌, ap, subst, arith, append_assoc, length-append}
use Rattle.std.specs.Prelude.{if◌then◌else◌, ⊤}
use Rattle.std.specs.List.{concat, onto_first, list_all}
use Rattle.std.specs.Int.{is_in_range}
use Rattle.std.proofs.lemmas.Bool.Decides.{nat_tests}
use Rattle.dex_line.specs.Bytes.{is_text, line_feed}
use Rattle.dex_line.specs.TextUnits.{is_feed, lines_of, paired, units_of, is_trailer, is_set_end, EachFits, UnitsFit}
use Rattle.dex_line.specs.declared.cutter.TheConstants.{BLOCK_WRITTEN}
use Rattle.dex_line.proofs.UnitCuts.{tail_none, lines_other, no_lines}

-- ---- units

-- bytes with one LF, at their end
pub record IsLine (line : List ℕ) : Type 0 where
  pub front : List ℕ
  pub whole : line ≡ front ++ line_feed ∷ []
  pub none : position is_feed front ≡ None

abbrev pub AreLines : List (List ℕ) → Type 0
AreLines [] = ⊤
AreLines (line ∷ more) = IsLine line × AreLines more

-- the first line of a text
pub line_first : (front rest : List ℕ) → position is_feed front ≡ None
    → lines_of (front ++ line_feed ∷ rest) ≡ (front ++ line_feed ∷ []) ∷ lines_of rest
unfolding lines_of
line_first [] rest none = refl
line_first (b ∷ front) rest none =
    let (other, on) = tail_none b front none in
    lines_other b (front ++ line_feed ∷ rest) other ∙ ap (onto_first b) (line_first front rest on)

-- lines joined are a text of these lines
pub lines_join : (lines : List (List ℕ)) → AreLines lines → lines_of (concat lines) ≡ lines
lines_join [] are = no_lines
lines_join (line ∷ more) (is, are) =
    ap (λ l. lines_of (l ++ concat more)) is.whole
    ∙ ap lines_of (append_assoc is.front (line_feed ∷ []) (concat more))
    ∙ line_first is.front (concat more) is.none ∙ ap (λ l. l ∷ lines_of (concat more)) (sym is.whole)
    ∙ ap (λ l. line ∷ l) (lines_join more are)

-- each G85 fits into a block with the SE behind it
abbrev pub PairsFit : List (List ℕ) → Type 0
PairsFit [] = ⊤
PairsFit (line ∷ []) = ⊤
PairsFit (line ∷ next ∷ more) =
    ((is_trailer line && is_set_end next) ≡ true → length line + length next ≤ BLOCK_WRITTEN) × PairsFit (next ∷ more)

pairs_tail : (line : List ℕ) (more : List (List ℕ)) → PairsFit (line ∷ more) → PairsFit more
pairs_tail line [] fit = tt
pairs_tail line (next ∷ more) fit = fit.1

fits_if : (t : Bool) (x y : List (List ℕ)) → (t ≡ true → EachFits x) → (t ≡ false → EachFits y)
    → EachFits (if t then x else y)
fits_if true x y f g = f refl
fits_if false x y f g = g refl

fits_paired : (lines : List (List ℕ)) → EachFits lines → PairsFit lines → EachFits (paired lines)
unfolding paired
fits_paired [] each pairs = tt
fits_paired (line ∷ []) each pairs = each
fits_paired (line ∷ next ∷ more) each pairs =
    fits_if (is_trailer line && is_set_end next) ((line ++ next) ∷ paired more) (line ∷ paired (next ∷ more))
    (λ pair. let room = pairs.0 pair in (omega (arith, length-append line next), fits_paired more each.1.1 (pairs_tail next more pairs.1)))
    (λ no. (each.0, fits_paired (next ∷ more) each.1 pairs.1))

-- lines that fit, alone and as such pairs, are a text whose units fit
pub units_fit : (lines : List (List ℕ)) → AreLines lines → EachFits lines → PairsFit lines → UnitsFit (concat lines)
unfolding units_of
units_fit lines are each pairs =
    subst (λ l. EachFits (paired l)) (sym (lines_join lines are)) (fits_paired lines each pairs)

-- ---- text bytes

pub printable_text : (b : ℕ) → is_in_range 0x20 0x7E b ≡ true → is_text b ≡ true
unfolding is_text
printable_text b h = grind (arith, nat_tests)

-- printable characters alone are text bytes
pub printable_texts : (text : List ℕ) → list_all (is_in_range 0x20 0x7E) text ≡ true → list_all is_text text ≡ true
printable_texts [] h = refl
printable_texts (b ∷ text) h =
    let here : is_in_range 0x20 0x7E b ≡ true = grind (arith, nat_tests) in
    let on : list_all (is_in_range 0x20 0x7E) text ≡ true = grind (arith, nat_tests) in
    let first = printable_text b here in
    let rest = printable_texts text on in
    grind (arith, nat_tests)
