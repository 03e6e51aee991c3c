-- The blocks of a text: there is one such list, and no cut has fewer.
use Rattle.std.proofs.Common.{◌≡◌, ◌⊎◌, ℕ, ◌+◌, ◌<◌, ◌≤◌, Bool, true, false, List, [], ◌∷◌, ◌++◌, length, map, refl, sym, ◌∙◌, ap, subst, inl, inr, arith, append_assoc, append-nil, length-append}
use Rattle.std.specs.List.{concat, flat_map}
use Rattle.std.proofs.lemmas.List.Folds.{concat-append}
use Rattle.std.proofs.lemmas.List.{length-map}
use Rattle.dex_line.specs.TextUnits.{units_of}
use Rattle.dex_line.specs.BlockCut.{EachGroupFits, IsFull, IsCutInto, IsGreedy, MarksLast, CutOf, IsFirstBlock, Marks, CutRun}
use Rattle.dex_line.specs.declared.cutter.TheConstants.{BLOCK_WRITTEN}
use Rattle.dex_line.proofs.UnitCuts.{no_units, join_units}

-- how many bytes the units have
abbrev size : List (List ℕ) → ℕ
size g = length (concat g)

-- the units of all groups
abbrev flat : List (List (List ℕ)) → List (List ℕ)
flat gs = flat_map (λ g. g) gs

-- the size of a join
size_two : (a b : List (List ℕ)) → size (a ++ b) ≡ size a + size b
size_two a b = ap length (concat-append a b) ∙ length-append (concat a) (concat b)

size_on : (a : List (List ℕ)) (u : List ℕ) (r : List (List ℕ)) → size (a ++ u ∷ r) ≡ size a + (length u + size r)
size_on a u r = size_two a (u ∷ r) ∙ ap (λ n. size a + n) (length-append u (concat r))

-- two cuts of one list in two: one reaches as far as the other, or less far
split_two : (a b c d : List (List ℕ)) → a ++ b ≡ c ++ d
    → ((r : List (List ℕ)) × (a ≡ c ++ r) × (d ≡ r ++ b)) ⊎ ((u : List ℕ) × (r : List (List ℕ)) × (c ≡ a ++ u ∷ r) × (b ≡ (u ∷ r) ++ d))
split_two a b [] d e = inl (a, refl, sym e)
split_two [] b (u ∷ c) d e = inr (u, c, refl, e)
split_two (x ∷ a) b (u ∷ c) d e =
    let h : x ≡ u = cc in
    let t : a ++ b ≡ c ++ d = cc in
    elim (split_two a b c d t) [
      | inl (r, p, q) ↦ inl (r, ap (λ y. y ∷ a) h ∙ ap (λ l. u ∷ l) p, q)
      | inr (v, r, p, q) ↦ inr (v, r, ap (λ y. y ∷ c) (sym h) ∙ ap (λ l. x ∷ l) p, q)
    ]

-- a group that goes past a full one is too large
too_large : (xs g h : List (List ℕ)) (u : List ℕ) (r d b : List (List ℕ)) → h ≡ (xs ++ g) ++ u ∷ r → b ≡ (u ∷ r) ++ d
    → IsFull BLOCK_WRITTEN (size g) b → size h ≤ BLOCK_WRITTEN → ⊥
too_large xs g h u r d b e f full fits =
    let at : IsFull BLOCK_WRITTEN (size g) (u ∷ (r ++ d)) = subst (λ x. IsFull BLOCK_WRITTEN (size g) x) f full in
    let a = ap size e ∙ size_on (xs ++ g) u r in
    let c = size_two xs g in
    omega arith

-- what is cut greedily from further on takes no more groups
few : (gs hs : List (List (List ℕ))) (xs : List (List ℕ)) → IsGreedy gs → EachGroupFits hs → flat hs ≡ xs ++ flat gs
    → length gs ≤ length hs
few [] hs xs greedy fits e = omega arith
few ([] ∷ gs) hs xs greedy fits e = let some = greedy.0 in absurd (omega arith)
few ((u ∷ g) ∷ gs) [] xs greedy fits e = let l = ap length e in absurd (omega (arith, length-append xs (u ∷ (g ++ flat gs))))
few ((u ∷ g) ∷ gs) (h ∷ hs) xs greedy fits e =
    let same : (xs ++ (u ∷ g)) ++ flat gs ≡ h ++ flat hs = append_assoc xs (u ∷ g) (flat gs) ∙ sym e in
    elim (split_two (xs ++ (u ∷ g)) (flat gs) h (flat hs) same) [
      | inl (r, p, q) ↦ let on : length gs ≤ length hs = few gs hs r greedy.2 fits.1 q in omega arith
      | inr (v, r, p, q) ↦ absurd (too_large xs (u ∷ g) h v r (flat hs) (flat gs) p q greedy.1 fits.0)
    ]

-- no cut into whole units has fewer blocks
pub fewest : (text : List ℕ) (blocks : List (List ℕ × Bool)) (others : List (List (List ℕ))) → CutOf text blocks
    → IsCutInto text others → length blocks ≤ length others
fewest text blocks others c o =
    let n : length blocks ≡ length c.groups = simp length-map at (ap length c.bytes) in
    let m : length c.groups ≤ length others = few c.groups others [] c.greedy o.fits (o.whole ∙ sym c.cut.whole) in
    omega arith

-- ---- one such list

-- a group that reaches as far as a full one is that one
group_past : (g h : List (List ℕ)) (r : List (List ℕ)) (d b : List (List ℕ)) → g ≡ h ++ r → d ≡ r ++ b
    → IsFull BLOCK_WRITTEN (size h) d → size g ≤ BLOCK_WRITTEN → g ≡ h
group_past g h [] d b e f full fits = e ∙ append-nil h
group_past g h (u ∷ r) d b e f full fits = absurd (too_large [] h g u r b d e f full fits)

-- what is left behind the same front
same_tail : (a b c d : List (List ℕ)) → a ≡ b → a ++ c ≡ b ++ d → c ≡ d
same_tail [] [] c d e f = f
same_tail [] (y ∷ b) c d e f = absurd (cc)
same_tail (x ∷ a) [] c d e f = absurd (cc)
same_tail (x ∷ a) (y ∷ b) c d e f = let g : a ≡ b = cc in let h : a ++ c ≡ b ++ d = cc in same_tail a b c d g h

-- two cuts that are as full as they can be are one
same_groups : (gs hs : List (List (List ℕ))) → IsGreedy gs → EachGroupFits gs → IsGreedy hs → EachGroupFits hs
    → flat gs ≡ flat hs → gs ≡ hs
same_groups [] [] a b c d e = refl
same_groups [] ([] ∷ hs) a b c d e = let some = c.0 in absurd (omega arith)
same_groups [] ((u ∷ h) ∷ hs) a b c d e = absurd (cc)
same_groups ([] ∷ gs) hs a b c d e = let some = a.0 in absurd (omega arith)
same_groups ((u ∷ g) ∷ gs) [] a b c d e = absurd (cc)
same_groups ((u ∷ g) ∷ gs) (h ∷ hs) a b c d e =
    let first : (u ∷ g) ≡ h = elim (split_two (u ∷ g) (flat gs) h (flat hs) e) [
      | inl (r, p, q) ↦ group_past (u ∷ g) h r (flat hs) (flat gs) p q c.1 b.0
      | inr (v, r, p, q) ↦ sym (group_past h (u ∷ g) (v ∷ r) (flat gs) (flat hs) p q a.1 d.0)
    ] in
    let rest : flat gs ≡ flat hs = same_tail (u ∷ g) h (flat gs) (flat hs) first e in
    ap (λ x. x ∷ gs) first ∙ ap (λ l. h ∷ l) (same_groups gs hs a.2 b.1 c.2 d.1 rest)

bools_same : (a b : Bool) → (a ≡ true → b ≡ true) → (b ≡ true → a ≡ true) → a ≡ b
bools_same true b f g = sym (f refl)
bools_same false true f g = g refl
bools_same false false f g = refl

-- the marks follow from the bytes
same_marks : (a b : List (List ℕ × Bool)) → MarksLast a → MarksLast b
    → map (λ (x : List ℕ × Bool). x.0) a ≡ map (λ (x : List ℕ × Bool). x.0) b → a ≡ b
same_marks [] [] m n e = refl
same_marks [] (y ∷ b) m n e = absurd (cc)
same_marks (x ∷ a) [] m n e = absurd (cc)
same_marks ((x, p) ∷ []) ((y, q) ∷ []) m n e = let h : x ≡ y = cc in let k : p ≡ q = m ∙ sym n in cc
same_marks ((x, p) ∷ []) ((y, q) ∷ z ∷ b) m n e = absurd (cc)
same_marks ((x, p) ∷ z ∷ a) ((y, q) ∷ []) m n e = absurd (cc)
same_marks ((x, p) ∷ v ∷ a) ((y, q) ∷ w ∷ b) m n e =
    let h : x ≡ y = cc in
    let k : p ≡ q = m.0 ∙ sym n.0 in
    let t : map (λ (x : List ℕ × Bool). x.0) (v ∷ a) ≡ map (λ (x : List ℕ × Bool). x.0) (w ∷ b) = cc in
    let on = same_marks (v ∷ a) (w ∷ b) m.1 n.1 t in
    cc

-- a text has one cut into blocks
pub one_cut : (text : List ℕ) (a b : List (List ℕ × Bool)) → CutOf text a → CutOf text b → a ≡ b
one_cut text a b x y =
    let g = same_groups x.groups y.groups x.greedy x.cut.fits y.greedy y.cut.fits (x.cut.whole ∙ sym y.cut.whole) in
    same_marks a b x.marks y.marks (x.bytes ∙ ap (λ l. map concat l) g ∙ sym y.bytes)

-- ---- what the calls give

-- the blocks joined are the text
flat_join : (gs : List (List (List ℕ))) → concat (map concat gs) ≡ concat (flat gs)
flat_join [] = refl
flat_join (g ∷ gs) = ap (λ x. concat g ++ x) (flat_join gs) ∙ sym (concat-append g (flat gs))

-- the blocks joined are the text
pub blocks_joined : (text : List ℕ) (blocks : List (List ℕ × Bool)) → CutOf text blocks
    → concat (map (λ (b : List ℕ × Bool). b.0) blocks) ≡ text
blocks_joined text blocks c = ap concat c.bytes ∙ flat_join c.groups ∙ ap concat c.cut.whole ∙ join_units text

-- each block has some byte
some_group : (block : List ℕ) (more : List (List ℕ)) (gs : List (List (List ℕ))) → IsGreedy gs
    → block ∷ more ≡ map concat gs → 0 < length block
some_group block more [] greedy e = absurd (cc)
some_group block more (g ∷ gs) greedy e = let same : block ≡ concat g = cc in let some = greedy.0 in let l = ap length same in omega arith

-- no text, no blocks
none_cut : (block : List ℕ × Bool) (more : List (List ℕ × Bool)) → CutOf [] (block ∷ more) → ⊥
none_cut block more c =
    let some = some_group block.0 (map (λ (b : List ℕ × Bool). b.0) more) c.groups c.greedy c.bytes in
    let l = ap length (blocks_joined [] (block ∷ more) c) in
    omega (arith, length-append block.0 (concat (map (λ (b : List ℕ × Bool). b.0) more)))

-- the mark of a first block
marks_here : (block after : List ℕ) (last : Bool) (more : List (List ℕ × Bool)) → Marks last after → CutOf after more
    → MarksLast ((block, last) ∷ more)
marks_here block after last [] m c = m.1 (sym (blocks_joined after [] c))
marks_here block after true (b ∷ more) m c = absurd (none_cut b more (subst (λ l. CutOf l (b ∷ more)) (m.0 refl) c))
marks_here block after false (b ∷ more) m c = (refl, c.marks)

-- a first block, and the blocks of what is left
pub cut_more : (text block after : List ℕ) (last : Bool) (more : List (List ℕ × Bool)) → IsFirstBlock text block after
    → Marks last after → CutOf after more → CutOf text ((block, last) ∷ more)
cut_more text block after last more f m c =
    let some = f.some in
    let fits = f.fits in
    let l : size f.units ≡ length block = ap length f.front in
    let w = c.cut.whole in
    record {
      groups = f.units ∷ c.groups;
      cut = record { whole = ap (λ x. f.units ++ x) w ∙ sym f.cut; fits = (omega arith, c.cut.fits) };
      greedy = (omega arith, subst (λ x. IsFull BLOCK_WRITTEN (size f.units) x) (sym w) (subst (λ n. IsFull BLOCK_WRITTEN n (units_of after)) (sym l) f.full), c.greedy);
      bytes = ap (λ x. x ∷ map (λ (b : List ℕ × Bool). b.0) more) (sym f.front) ∙ ap (λ x. concat f.units ∷ x) c.bytes;
      marks = marks_here block after last more m c;
    }

-- the cut of no text
pub cut_empty : (text : List ℕ) → text ≡ [] → CutOf text []
cut_empty text none = record { groups = []; cut = record { whole = sym (ap units_of none ∙ no_units); fits = tt }; greedy = tt; bytes = refl; marks = tt }

-- calls up to the end give the blocks
pub run_cut : (text : List ℕ) (blocks : List (List ℕ × Bool)) → CutRun text blocks [] → CutOf text blocks
run_cut text [] run = cut_empty text run
run_cut text ((block, last) ∷ more) (after, f, m, run) =
    cut_more text block after last more f m (run_cut after more run)

-- one call more
pub run_more : (text : List ℕ) (blocks : List (List ℕ × Bool)) (rest block after : List ℕ) (last : Bool)
    → CutRun text blocks rest → IsFirstBlock rest block after → Marks last after
    → CutRun text (blocks ++ (block, last) ∷ []) after
run_more text [] rest block after last run f m = (after, subst (λ t. IsFirstBlock t block after) (sym run) f, m, refl)
run_more text (b ∷ blocks) rest block after last (next, g, n, run) f m =
    (next, g, n, run_more next blocks rest block after last run f m)
