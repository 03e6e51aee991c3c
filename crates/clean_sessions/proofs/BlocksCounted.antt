-- Blocks counted by another cut of the same units.
use Rattle.std.proofs.Common.{◌≡◌, ◌≤◌, ◌+◌, ℕ, List, [], ◌∷◌, ◌++◌, length, refl, sym, ap, subst, ◌∙◌, append_assoc, append-nil, length-append, arith}
use Rattle.std.specs.List.{concat, flat_map}
use Rattle.std.proofs.lemmas.List.{length-map}
use Rattle.dex_line.specs.TextUnits.{units_of, UnitsFit}
use Rattle.dex_line.specs.BlockCut.{blocks_of, EachGroupFits, IsCutInto}
use Rattle.dex_line.specs.declared.cutter.TheConstants.{BLOCK_WRITTEN}
use Rattle.dex_line.proofs.Exists.{blocks_cut}
use Rattle.dex_line.proofs.Fewest.{fewest}
use Rattle.clean_sessions.specs.BlocksAlone.{all_units, blocks_alone, AllFit, AreShorter}

abbrev flat : List (List (List ℕ)) → List (List ℕ)
flat groups = flat_map (λ group. group) groups

flat_join : (a b : List (List (List ℕ))) → flat (a ++ b) ≡ flat a ++ flat b
flat_join [] b = refl
flat_join (g ∷ a) b = ap (λ (l : List (List ℕ)). g ++ l) (flat_join a b) ∙ sym (append_assoc g (flat a) (flat b))

fits_join : (a b : List (List (List ℕ))) → EachGroupFits a → EachGroupFits b → EachGroupFits (a ++ b)
fits_join [] b f g = g
fits_join (x ∷ a) b f g = (f.0, fits_join a b f.1 g)

block_count : (text : List ℕ) (fit : UnitsFit text) → length (blocks_of text) ≡ length (blocks_cut text fit).groups
block_count text fit = simp length-map at (ap length (blocks_cut text fit).bytes)

-- the groups of all texts, each cut alone
record Groups (texts : List (List ℕ)) : Type 0 where
  groups : List (List (List ℕ))
  whole : flat groups ≡ all_units texts
  fits : EachGroupFits groups
  count : length groups ≡ blocks_alone texts

groups_alone : (texts : List (List ℕ)) → AllFit texts → Groups texts
groups_alone [] fit = record { groups = []; whole = refl; fits = tt; count = refl }
groups_alone (text ∷ texts) fit =
    let rest = groups_alone texts fit.1 in
    let first = blocks_cut text fit.0 in
    let counted = block_count text fit.0 in
    let joined = length-append first.groups rest.groups in
    let more = rest.count in
    record {
      groups = first.groups ++ rest.groups;
      whole = flat_join first.groups rest.groups ∙ ap (λ (l : List (List ℕ)). l ++ flat rest.groups) first.cut.whole ∙ ap (λ (l : List (List ℕ)). units_of text ++ l) rest.whole;
      fits = fits_join first.groups rest.groups first.cut.fits rest.fits;
      count = omega (arith, counted, joined, more);
    }

one_fits : (unit : List ℕ) → length unit ≤ BLOCK_WRITTEN → length (concat (unit ∷ [])) ≤ BLOCK_WRITTEN
one_fits unit le = subst (λ (l : List ℕ). length l ≤ BLOCK_WRITTEN) (sym (append-nil unit)) le

pub two_more : (text head tail : List ℕ) (texts : List (List ℕ)) → UnitsFit text → AllFit texts → length head ≤ BLOCK_WRITTEN → length tail ≤ BLOCK_WRITTEN
    → units_of text ≡ head ∷ (all_units texts ++ tail ∷ []) → length (blocks_of text) ≤ blocks_alone texts + 2
two_more text head tail texts fit all first last units =
    let alone = groups_alone texts all in
    let behind : flat (alone.groups ++ (tail ∷ []) ∷ []) ≡ all_units texts ++ tail ∷ [] =
    flat_join alone.groups ((tail ∷ []) ∷ []) ∙ ap (λ (l : List (List ℕ)). l ++ tail ∷ []) alone.whole in
    let cut : IsCutInto text ((head ∷ []) ∷ (alone.groups ++ (tail ∷ []) ∷ [])) = record {
      whole = ap (λ (l : List (List ℕ)). head ∷ l) behind ∙ sym units;
      fits = (one_fits head first, fits_join alone.groups ((tail ∷ []) ∷ []) alone.fits (one_fits tail last, tt));
    } in
    let few = fewest text (blocks_of text) ((head ∷ []) ∷ (alone.groups ++ (tail ∷ []) ∷ [])) (blocks_cut text fit) cut in
    let size = length-append alone.groups ((tail ∷ []) ∷ []) in
    let count = alone.count in
    omega (arith, few, size, count)

-- ---- shorter units, grouped as the longer ones are

record Regrouped (groups : List (List (List ℕ))) (units : List (List ℕ)) : Type 0 where
  others : List (List (List ℕ))
  whole : flat others ≡ units
  fits : EachGroupFits others
  count : length others ≡ length groups

-- one group: its units, and those behind it
record Parted (group rest units : List (List ℕ)) : Type 0 where
  front : List (List ℕ)
  back : List (List ℕ)
  joined : front ++ back ≡ units
  less : length (concat front) ≤ length (concat group)
  behind : AreShorter back rest

part : (group rest units : List (List ℕ)) → AreShorter units (group ++ rest) → Parted group rest units
part [] rest units s = record { front = []; back = units; joined = refl; less = omega arith; behind = s }
part (g ∷ group) rest [] s = absurd s
part (g ∷ group) rest (u ∷ units) s =
    let p = part group rest units s.1 in
    let a = length-append u (concat p.front) in
    let b = length-append g (concat group) in
    let less = p.less in
    let here = s.0 in
    record { front = u ∷ p.front; back = p.back; joined = ap (λ (l : List (List ℕ)). u ∷ l) p.joined; less = omega (arith, a, b, less, here); behind = p.behind }

none_left : (units : List (List ℕ)) → AreShorter units [] → [] ≡ units
none_left [] s = refl
none_left (u ∷ units) s = absurd s

regroup : (groups : List (List (List ℕ))) (units : List (List ℕ)) → EachGroupFits groups → AreShorter units (flat groups) → Regrouped groups units
regroup [] units fit s = record { others = []; whole = none_left units s; fits = tt; count = refl }
regroup (g ∷ groups) units fit s =
    let p = part g (flat groups) units s in
    let r = regroup groups p.back fit.1 p.behind in
    let less = p.less in
    let room = fit.0 in
    let more = r.count in
    record { others = p.front ∷ r.others; whole = ap (λ (l : List (List ℕ)). p.front ++ l) r.whole ∙ p.joined; fits = (omega (arith, less, room), r.fits); count = omega (arith, more) }

pub fewer : (text other : List ℕ) → UnitsFit text → UnitsFit other → AreShorter (units_of text) (units_of other) → length (blocks_of text) ≤ length (blocks_of other)
fewer text other fit fit_other s =
    let c = blocks_cut other fit_other in
    let r = regroup c.groups (units_of text) c.cut.fits (subst (λ (l : List (List ℕ)). AreShorter (units_of text) l) (sym c.cut.whole) s) in
    let few = fewest text (blocks_of text) r.others (blocks_cut text fit) (record { whole = r.whole; fits = r.fits }) in
    let count = r.count in
    let counted = block_count other fit_other in
    omega (arith, few, count, counted)
