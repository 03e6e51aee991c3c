-- Each text whose units fit has its blocks.
use Rattle.std.proofs.Common.{◌≡◌, ℕ, ◌+◌, ◌<◌, ◌≤◌, Bool, true, false, List, [], ◌∷◌, ◌++◌, length, map, refl, sym, ◌∙◌, ap, subst, arith, append_assoc, append-nil, length-append, ◌&&◌, ◌==◌}
use Rattle.std.specs.Prelude.{if◌then◌else◌, nat_le}
use Rattle.std.specs.List.{concat, flat_map, onto_first}
use Rattle.std.proofs.lemmas.Bool.Decides.{nat_tests}
use Rattle.std.proofs.lemmas.List.Folds.{concat-append}
use Rattle.dex_line.specs.TextUnits.{lines_of, paired, units_of, is_trailer, is_set_end, EachFits, UnitsFit}
use Rattle.dex_line.specs.BlockCut.{EachGroupFits, IsFull, IsGreedy, MarksLast, CutOf, placed, groups_of, marked, blocks_of, IsFirstBlock, Marks}
use Rattle.dex_line.proofs.UnitCuts.{no_units, fit_after}
use Rattle.dex_line.proofs.Fewest.{one_cut, cut_more}
use Rattle.dex_line.specs.declared.cutter.TheConstants.{BLOCK_WRITTEN}

-- each unit has some byte
abbrev EachSome : List (List ℕ) → Type 0
EachSome [] = Unit {0}
EachSome (u ∷ more) = (0 < length u) × EachSome more

some_if : (t : Bool) (x y : List (List ℕ)) → EachSome x → EachSome y → EachSome (if t then x else y)
some_if true x y f g = f
some_if false x y f g = g

some_onto : (b : ℕ) (lines : List (List ℕ)) → EachSome lines → EachSome (onto_first b lines)
some_onto b [] s = (omega arith, tt)
some_onto b (line ∷ lines) s = (omega arith, s.1)

some_lines : (text : List ℕ) → EachSome (lines_of text)
unfolding lines_of
some_lines [] = tt
some_lines (b ∷ more) =
    some_if (b == 10) ((b ∷ []) ∷ lines_of more) (onto_first b (lines_of more)) (omega arith, some_lines more) (some_onto b (lines_of more) (some_lines more))

some_paired : (lines : List (List ℕ)) → EachSome lines → EachSome (paired lines)
unfolding paired
some_paired [] s = tt
some_paired (p ∷ []) s = s
some_paired (p ∷ q ∷ more) s =
    let a = s.0 in
    some_if (is_trailer p && is_set_end q) ((p ++ q) ∷ paired more) (p ∷ paired (q ∷ more))
    (omega (arith, length-append p q), some_paired more s.1.1) (s.0, some_paired (q ∷ more) s.1)

-- each unit of a text has some byte
some_units : (text : List ℕ) → EachSome (units_of text)
unfolding units_of
some_units text = some_paired (lines_of text) (some_lines text)

-- groups that fit, are as full as they can be, and are these units
record Good (g units : List (List ℕ)) (gs : List (List (List ℕ))) : Type 0 where
  whole : flat_map (λ x. x) gs ≡ g ++ units
  fits : EachGroupFits gs
  greedy : IsGreedy gs

good_if : (g units : List (List ℕ)) (t : Bool) (x y : List (List (List ℕ))) → (t ≡ true → Good g units x)
    → (t ≡ false → Good g units y) → Good g units (if t then x else y)
good_if g units true x y f h = f refl
good_if g units false x y f h = h refl

-- the size of a group with one unit more
size_more : (g : List (List ℕ)) (u : List ℕ) → length (concat (g ++ u ∷ [])) ≡ length (concat g) + length u
size_more g u =
    ap length (concat-append g (u ∷ []) ∙ ap (λ x. concat g ++ x) (append-nil u)) ∙ length-append (concat g) u

size_one : (u : List ℕ) → length (concat (u ∷ [])) ≡ length u
size_one u = ap length (append-nil u)

-- what the test for room means
has_room : (m n : ℕ) → nat_le m n ≡ true → m ≤ n
has_room m n h = grind (arith, nat_tests)

no_room : (m n : ℕ) → nat_le m n ≡ false → n < m
no_room m n h = grind (arith, nat_tests)

-- units are placed well behind a group that has begun
placed_good : (g units : List (List ℕ)) → 0 < length (concat g) → length (concat g) ≤ BLOCK_WRITTEN → EachFits units
    → EachSome units → Good g units (placed g units)
placed_good g [] s f e m = record { whole = refl; fits = (f, tt); greedy = (s, tt, tt) }
placed_good g (u ∷ units) s f e m =
    good_if g (u ∷ units) (nat_le (length (concat g) + length u) BLOCK_WRITTEN) (placed (g ++ u ∷ []) units) (g ∷ placed (u ∷ []) units)
    (λ h.
    let n = size_more g u in
    let room = has_room (length (concat g) + length u) BLOCK_WRITTEN h in
    let r = placed_good (g ++ u ∷ []) units (omega arith) (omega arith) e.1 m.1 in
    record { whole = r.whole ∙ append_assoc g (u ∷ []) units; fits = r.fits; greedy = r.greedy })
    (λ h.
    let n = size_one u in
    let a = e.0 in
    let b = m.0 in
    let r = placed_good (u ∷ []) units (omega arith) (omega arith) e.1 m.1 in
    let full : IsFull BLOCK_WRITTEN (length (concat g)) (u ∷ units) = no_room (length (concat g) + length u) BLOCK_WRITTEN h in
    record { whole = ap (λ x. g ++ x) r.whole; fits = (f, r.fits); greedy = (s, subst (λ x. IsFull BLOCK_WRITTEN (length (concat g)) x) (sym r.whole) full, r.greedy) })

-- units are grouped well
groups_good : (units : List (List ℕ)) → EachFits units → EachSome units → Good [] units (groups_of units)
groups_good [] e m = record { whole = refl; fits = tt; greedy = tt }
groups_good (u ∷ units) e m =
    let n = size_one u in
    let a = e.0 in
    let b = m.0 in
    let r = placed_good (u ∷ []) units (omega arith) (omega arith) e.1 m.1 in
    record { whole = r.whole; fits = r.fits; greedy = r.greedy }

-- the last block alone is marked
marks_last : (blocks : List (List ℕ)) → MarksLast (marked blocks)
marks_last [] = tt
marks_last (b ∷ []) = refl
marks_last (b ∷ c ∷ []) = (refl, refl)
marks_last (b ∷ c ∷ d ∷ more) = (refl, marks_last (c ∷ d ∷ more))

marked_bytes : (blocks : List (List ℕ)) → map (λ (b : List ℕ × Bool). b.0) (marked blocks) ≡ blocks
marked_bytes [] = refl
marked_bytes (b ∷ []) = refl
marked_bytes (b ∷ c ∷ more) = ap (λ l. b ∷ l) (marked_bytes (c ∷ more))

-- the blocks of a text are its cut
pub blocks_cut : (text : List ℕ) → UnitsFit text → CutOf text (blocks_of text)
blocks_cut text fit =
    let r = groups_good (units_of text) fit (some_units text) in
    record {
      groups = groups_of (units_of text);
      cut = record { whole = r.whole; fits = r.fits };
      greedy = r.greedy;
      bytes = marked_bytes (map concat (groups_of (units_of text)));
      marks = marks_last (map concat (groups_of (units_of text)));
    }

-- ---- one call

-- no text, no blocks
pub blocks_empty : (text : List ℕ) → text ≡ [] → blocks_of text ≡ []
blocks_empty text none = ap blocks_of none ∙ ap (λ units. marked (map concat (groups_of units))) no_units

-- the first block, and the blocks of what is left
pub blocks_step : (text block after : List ℕ) (last : Bool) → UnitsFit text → IsFirstBlock text block after
    → Marks last after → blocks_of text ≡ (block, last) ∷ blocks_of after
blocks_step text block after last fit f m =
    one_cut text (blocks_of text) ((block, last) ∷ blocks_of after) (blocks_cut text fit)
    (cut_more text block after last (blocks_of after) f m (blocks_cut after (fit_after text block after fit f)))
