-- Lines, the units joined, and the first block.
use Rattle.std.proofs.Common.{◌≡◌, ℕ, zero, suc, ◌<◌, Bool, true, false, List, [], ◌∷◌, ◌++◌, length, take, drop, position, None, refl, sym, ◌∙◌, ap, subst, inl, inr, arith, append_assoc, ◌&&◌, ◌==◌}
use Rattle.std.specs.Prelude.{if◌then◌else◌}
use Rattle.std.specs.List.{concat, onto_first}
use Rattle.std.proofs.lemmas.Bool.{cases_eq}
use Rattle.std.proofs.lemmas.Bool.Decides.{nat_tests}
use Rattle.std.proofs.lemmas.List.{take-append-drop, length-take-le}
use Rattle.dex_line.specs.TextUnits.{is_feed, lines_of, paired, units_of, is_trailer, is_set_end, EachFits, UnitsFit}
use Rattle.dex_line.specs.BlockCut.{IsFull, Fills, IsFirstBlock}
use Rattle.dex_line.specs.declared.cutter.TheConstants.{BLOCK_WRITTEN}

-- a cut in two
pub join_back : (n : ℕ) (l : List ℕ) → l ≡ take n l ++ drop n l
join_back n l = sym (take-append-drop n l)

-- where no LF is
pub tail_none : (b : ℕ) (text : List ℕ) → position is_feed (b ∷ text) ≡ None
    → (b ≡ 10 → ⊥) × (position is_feed text ≡ None)
tail_none b text h =
    elim (cases_eq b 10) [ inl same ↦ absurd (grind (arith, nat_tests)) | inr other ↦ (other, grind (arith, nat_tests)) ]

-- a byte that is no LF goes on the first line
pub lines_other : (b : ℕ) (text : List ℕ) → (b ≡ 10 → ⊥) → lines_of (b ∷ text) ≡ onto_first b (lines_of text)
unfolding lines_of
lines_other b text other = grind (arith, nat_tests)

pub no_lines : lines_of [] ≡ []
unfolding lines_of
no_lines = refl

pub no_units : units_of [] ≡ []
unfolding lines_of units_of paired
no_units = refl

-- ---- units joined

-- a byte in front of the first line
join_onto : (b : ℕ) (lines : List (List ℕ)) → concat (onto_first b lines) ≡ b ∷ concat lines
join_onto b [] = refl
join_onto b (line ∷ lines) = refl

join_if : (t : Bool) (x y : List (List ℕ)) (text : List ℕ) → (t ≡ true → concat x ≡ text)
    → (t ≡ false → concat y ≡ text) → concat (if t then x else y) ≡ text
join_if true x y text f g = f refl
join_if false x y text f g = g refl

-- the lines joined are the text
pub join_lines : (text : List ℕ) → concat (lines_of text) ≡ text
unfolding lines_of
join_lines [] = refl
join_lines (b ∷ more) =
    join_if (b == 10) ((b ∷ []) ∷ lines_of more) (onto_first b (lines_of more)) (b ∷ more)
    (λ _. ap (λ t. b ∷ t) (join_lines more)) (λ _. join_onto b (lines_of more) ∙ ap (λ t. b ∷ t) (join_lines more))

-- the units joined are the lines joined
join_paired : (lines : List (List ℕ)) → concat (paired lines) ≡ concat lines
unfolding paired
join_paired [] = refl
join_paired (p ∷ []) = refl
join_paired (p ∷ q ∷ more) =
    join_if (is_trailer p && is_set_end q) ((p ++ q) ∷ paired more) (p ∷ paired (q ∷ more)) (p ++ (q ++ concat more))
    (λ _. append_assoc p q (concat (paired more)) ∙ ap (λ t. p ++ (q ++ t)) (join_paired more)) (λ _. ap (λ t. p ++ t) (join_paired (q ∷ more)))

-- the units are the text
pub join_units : (text : List ℕ) → concat (units_of text) ≡ text
unfolding units_of
join_units text = join_paired (lines_of text) ∙ join_lines text

-- ---- the first block

-- units that fit, without the first ones
each_right : (a b : List (List ℕ)) → EachFits (a ++ b) → EachFits b
each_right [] b f = f
each_right (u ∷ a) b f = each_right a b f.1

-- what is full with nothing in it is too large
full_stays : (room : ℕ) (u : List ℕ) (units : List (List ℕ)) → IsFull room 0 (u ∷ units) → room < length u
full_stays room u units h = omega arith

never_full : (text : List ℕ) (units : List (List ℕ)) → units_of text ≡ units → 0 < length text → EachFits units
    → IsFull BLOCK_WRITTEN 0 units → ⊥
never_full text [] e some f full = let j : [] ≡ text = ap concat (sym e) ∙ join_units text in let l = ap length j in omega arith
never_full text (u ∷ units) e some f full = let a = f.0 in let b = full_stays BLOCK_WRITTEN u units full in omega arith

-- so a block of a text whose units fit has some byte
some_filled : (text : List ℕ) (size : ℕ) → 0 < length text → UnitsFit text → Fills text BLOCK_WRITTEN size → 0 < size
some_filled text zero some fit f = let full : IsFull BLOCK_WRITTEN 0 (units_of text) = f.full in absurd (never_full text (units_of text) refl some fit full)
some_filled text (suc n) some fit f = omega arith

-- the block that a size cuts off
pub first_of : (text : List ℕ) (size : ℕ) → 0 < length text → UnitsFit text → Fills text BLOCK_WRITTEN size
    → IsFirstBlock text (take size text) (drop size text)
first_of text size some fit f =
    let n = some_filled text size some fit f in
    let l = length-take-le size text f.inside in
    let fits = f.fits in
    record {
      units = f.units;
      joined = join_back size text;
      front = f.front;
      cut = f.cut;
      some = omega arith;
      fits = omega arith;
      full = subst (λ k. IsFull BLOCK_WRITTEN k (units_of (drop size text))) (sym l) f.full;
    }

-- the units of what is left fit
pub fit_after : (text block after : List ℕ) → UnitsFit text → IsFirstBlock text block after → UnitsFit after
fit_after text block after fit f = each_right f.units (units_of after) (subst (λ u. EachFits u) f.cut fit)
