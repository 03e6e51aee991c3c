-- Texts in which an SE stands behind each G85: no cut into blocks parts the two, and in a join of such texts they stand in one of them.
use Rattle.std.proofs.Common.{◌≡◌, ◌⊎◌, ℕ, Bool, true, false, ◌&&◌, List, [], ◌∷◌, ◌++◌, map, position, None, refl, sym, ◌∙◌, ap, subst, inl, inr, arith, append_assoc, append-nil}
use Rattle.std.specs.Prelude.{if◌then◌else◌, ⊤, All, Contains}
use Rattle.std.specs.List.{concat, flat_map, onto_first}
use Rattle.std.proofs.lemmas.Bool.Decides.{nat_tests}
use Rattle.std.proofs.lemmas.List.Elements.{All-cons, All-contains, All-contains_itself, All-head, All-nil, All-tail, All-weaker, Contains-append_left, Contains-append_right, Contains-push}
use Rattle.std.proofs.lemmas.List.Folds.{concat-append}
use Rattle.dex_line.specs.Bytes.{line_feed}
use Rattle.dex_line.specs.BlockCut.{CutOf}
use Rattle.dex_line.specs.TextUnits.{is_feed, is_set_end, is_trailer, lines_of, paired, units_of}
use Rattle.dex_line.proofs.Lines.{AreLines, IsLine, lines_join}
use Rattle.dex_line.proofs.UnitCuts.{lines_other, tail_none}
use Rattle.delivery_book.proofs.Members.{In, from_contains}
use Rattle.dsd_end.specs.Carrying.{texts_in}
use Rattle.dsd_end.specs.Sealing.{IsPieceOf}

-- ---- lines with their ends

-- directly behind each G85 stands an SE
abbrev pub HasEnds : List (List ℕ) → Type 0
HasEnds [] = ⊤
HasEnds (line ∷ []) = is_trailer line ≡ false
HasEnds (line ∷ next ∷ more) = (is_trailer line ≡ true → is_set_end next ≡ true) × HasEnds (next ∷ more)

pub never_both : (b : Bool) → b ≡ false → b ≡ true → ⊥
never_both b f t = let e : false ≡ true = sym f ∙ t in cc

pub ends_append : (a b : List (List ℕ)) → HasEnds a → HasEnds b → HasEnds (a ++ b)
ends_append [] b p q = q
ends_append (line ∷ []) [] p q = p
ends_append (line ∷ []) (next ∷ b) p q = ((λ t. absurd (never_both (is_trailer line) p t)), q)
ends_append (line ∷ next ∷ a) b p q = (p.0, ends_append (next ∷ a) b p.1 q)

lines_append : (a b : List (List ℕ)) → AreLines a → AreLines b → AreLines (a ++ b)
lines_append [] b p q = q
lines_append (line ∷ a) b p q = (p.0, lines_append a b p.1 q)

-- an SE is no G85
end_no_trailer : (line : List ℕ) → is_set_end line ≡ true → is_trailer line ≡ false
end_no_trailer [] e = refl
end_no_trailer (a ∷ []) e = refl
end_no_trailer (a ∷ b ∷ []) e = refl
end_no_trailer (a ∷ b ∷ c ∷ []) e = refl
end_no_trailer (a ∷ b ∷ c ∷ behind ∷ more) e = grind (arith, nat_tests)

-- a text of lines with their ends
pub record IsWhole (text : List ℕ) : Type 0 where
  pub lines : List (List ℕ)
  pub are : AreLines lines
  pub joined : text ≡ concat lines
  pub ends : HasEnds lines

pub whole_lines : (text : List ℕ) (w : IsWhole text) → lines_of text ≡ w.lines
whole_lines text w = ap lines_of w.joined ∙ lines_join w.lines w.are

whole_append : (a b : List ℕ) → IsWhole a → IsWhole b → IsWhole (a ++ b)
whole_append a b p q = record {
  lines = p.lines ++ q.lines;
  are = lines_append p.lines q.lines p.are q.are;
  joined = ap (λ (t : List ℕ). t ++ b) p.joined ∙ ap (λ (t : List ℕ). concat p.lines ++ t) q.joined ∙ sym (concat-append p.lines q.lines);
  ends = ends_append p.lines q.lines p.ends q.ends;
}

pub whole_join : (texts : List (List ℕ)) → All IsWhole texts → IsWhole (concat texts)
whole_join [] each = record { lines = []; are = tt; joined = refl; ends = tt }
whole_join (text ∷ more) each = whole_append text (concat more) (All-head IsWhole text more each) (whole_join more (All-tail IsWhole text more each))

-- the lines of a join are those of both
lines_both : (a b : List ℕ) → IsWhole a → IsWhole b → lines_of (a ++ b) ≡ lines_of a ++ lines_of b
unfolding whole_append
lines_both a b p q =
    whole_lines (a ++ b) (whole_append a b p q) ∙ ap (λ (l : List (List ℕ)). l ++ q.lines) (sym (whole_lines a p))
    ∙ ap (λ (l : List (List ℕ)). lines_of a ++ l) (sym (whole_lines b q))

-- ---- the units of such a text, and its blocks

each_if : (t : Bool) (x y : List (List ℕ)) → (t ≡ true → All IsWhole x) → (t ≡ false → All IsWhole y) → All IsWhole (if t then x else y)
each_if true x y f g = f refl
each_if false x y f g = g refl

pub one_line : (line : List ℕ) → IsLine line → is_trailer line ≡ false → IsWhole line
one_line line is no_trailer = record { lines = line ∷ []; are = (is, tt); joined = sym (append-nil line); ends = no_trailer }

two_lines : (line next : List ℕ) → IsLine line → IsLine next → is_set_end next ≡ true → IsWhole (line ++ next)
two_lines line next is also end = record {
  lines = line ∷ next ∷ [];
  are = (is, (also, tt));
  joined = ap (λ (t : List ℕ). line ++ t) (sym (append-nil next));
  ends = ((λ t. end), end_no_trailer next end);
}

not_first : (a b : Bool) → (a ≡ true → b ≡ true) → (a && b) ≡ false → a ≡ false
not_first true b f e = absurd (never_both b e (f refl))
not_first false b f e = refl

and_second : (a b : Bool) → (a && b) ≡ true → b ≡ true
and_second true b e = e
and_second false b e = cc

ends_tail : (line : List ℕ) (more : List (List ℕ)) → HasEnds (line ∷ more) → HasEnds more
ends_tail line [] h = tt
ends_tail line (next ∷ more) h = h.1

units_whole : (lines : List (List ℕ)) → AreLines lines → HasEnds lines → All IsWhole (paired lines)
unfolding paired
units_whole [] are ends = All-nil IsWhole
units_whole (line ∷ []) are ends = All-cons IsWhole line [] (one_line line are.0 ends) (All-nil IsWhole)
units_whole (line ∷ next ∷ more) are ends =
    each_if (is_trailer line && is_set_end next) ((line ++ next) ∷ paired more) (line ∷ paired (next ∷ more))
    (λ pair. All-cons IsWhole (line ++ next) (paired more) (two_lines line next are.0 are.1.0 (and_second (is_trailer line) (is_set_end next) pair)) (units_whole more are.1.1 (ends_tail next more ends.1)))
    (λ other. All-cons IsWhole line (paired (next ∷ more)) (one_line line are.0 (not_first (is_trailer line) (is_set_end next) ends.0 other)) (units_whole (next ∷ more) are.1 ends.1))

all_left : (a b : List (List ℕ)) → All IsWhole (a ++ b) → All IsWhole a
all_left a b h = All-weaker (Contains a) IsWhole (λ text inside. All-contains IsWhole (a ++ b) text h (Contains-append_left a b text inside)) a (All-contains_itself a)

all_right : (a b : List (List ℕ)) → All IsWhole (a ++ b) → All IsWhole b
all_right a b h = All-weaker (Contains b) IsWhole (λ text inside. All-contains IsWhole (a ++ b) text h (Contains-append_right a b text inside)) b (All-contains_itself b)

groups_whole : (groups : List (List (List ℕ))) → All IsWhole (flat_map (λ group. group) groups) → All IsWhole (map concat groups)
groups_whole [] h = All-nil IsWhole
groups_whole (group ∷ more) h =
    All-cons IsWhole (concat group) (map concat more) (whole_join group (all_left group (flat_map (λ g. g) more) h)) (groups_whole more (all_right group (flat_map (λ g. g) more) h))

-- each block of such a text is one itself
pub blocks_whole : (text : List ℕ) (blocks : List (List ℕ × Bool)) → CutOf text blocks → IsWhole text → All IsWhole (texts_in blocks)
unfolding units_of
blocks_whole text blocks cut w =
    let units : flat_map (λ group. group) cut.groups ≡ paired w.lines = cut.cut.whole ∙ ap paired (whole_lines text w) in
    subst (All IsWhole) (sym cut.bytes) (groups_whole cut.groups (subst (All IsWhole) (sym units) (units_whole w.lines w.are w.ends)))

-- ---- a G85 and the SE behind it, in a join of such texts

-- these two lines stand one behind the other
abbrev pub HasPair : List ℕ → List ℕ → List (List ℕ) → Type 0
HasPair line next [] = ⊥
HasPair line next (first ∷ []) = ⊥
HasPair line next (first ∷ second ∷ more) = ((first ≡ line) × (second ≡ next)) ⊎ HasPair line next (second ∷ more)

module _ (line next : List ℕ) where
  pair_further : (first : List ℕ) (lines : List (List ℕ)) → HasPair line next lines → HasPair line next (first ∷ lines)
  pair_further first [] h = absurd h
  pair_further first (second ∷ more) h = inr h

  pub pair_left : (a b : List (List ℕ)) → HasPair line next a → HasPair line next (a ++ b)
  pair_left [] b h = absurd h
  pair_left (first ∷ []) b h = absurd h
  pair_left (first ∷ second ∷ a) b (inl here) = inl here
  pair_left (first ∷ second ∷ a) b (inr later) = inr (pair_left (second ∷ a) b later)

  pub pair_right : (a b : List (List ℕ)) → HasPair line next b → HasPair line next (a ++ b)
  pair_right [] b h = h
  pair_right (first ∷ a) b h = pair_further first (a ++ b) (pair_right a b h)

  -- it stands in one of two lists of lines, of which the first does not part it
  pair_parted : (a b : List (List ℕ)) → is_trailer line ≡ true → HasEnds a → HasPair line next (a ++ b) → HasPair line next a ⊎ HasPair line next b
  pair_parted [] b t ends h = inr h
  pair_parted (first ∷ []) [] t ends h = absurd h
  pair_parted (first ∷ []) (second ∷ b) t ends (inl here) = absurd (never_both (is_trailer line) (ap is_trailer (sym here.0) ∙ ends) t)
  pair_parted (first ∷ []) (second ∷ b) t ends (inr later) = inr later
  pair_parted (first ∷ second ∷ a) b t ends (inl here) = inl (inl here)
  pair_parted (first ∷ second ∷ a) b t ends (inr later) = elim (pair_parted (second ∷ a) b t ends.1 later) [
    | inl there ↦ inl (inr there)
    | inr behind ↦ inr behind
  ]

  -- they stand in one of these texts
  abbrev pub InOne : List (List ℕ) → Type 0
  InOne texts = (text : List ℕ) × Contains texts text × HasPair line next (lines_of text)

  here : (text : List ℕ) (more : List (List ℕ)) → HasPair line next (lines_of text) → InOne (text ∷ more)
  here text more pair = (text, Contains-append_left (text ∷ []) more text (Contains-push [] text), pair)

  later : (text : List ℕ) (more : List (List ℕ)) → InOne more → InOne (text ∷ more)
  later text more (found, inside, pair) = (found, Contains-append_right (text ∷ []) more found inside, pair)

  none_in_nothing : HasPair line next (lines_of []) → ⊥
  unfolding lines_of
  none_in_nothing h = h

  -- a G85 and the SE behind it stand in one of the texts that are joined
  pub pair_in_one : (texts : List (List ℕ)) → is_trailer line ≡ true → All IsWhole texts → HasPair line next (lines_of (concat texts)) → InOne texts
  pair_in_one [] t each h = absurd (none_in_nothing h)
  pair_in_one (text ∷ more) t each h =
      let first : IsWhole text = All-head IsWhole text more each in
      let rest : All IsWhole more = All-tail IsWhole text more each in
      let both = subst (HasPair line next) (lines_both text (concat more) first (whole_join more rest)) h in
      elim (pair_parted (lines_of text) (lines_of (concat more)) t (subst HasEnds (sym (whole_lines text first)) first.ends) both) [
        | inl there ↦ here text more there
        | inr behind ↦ later text more (pair_in_one more t rest behind)
      ]

  -- and two lines of one of them stand in the join
  pub pair_in_join : (texts : List (List ℕ)) (text : List ℕ) → All IsWhole texts → Contains texts text → HasPair line next (lines_of text) → HasPair line next (lines_of (concat texts))
  pair_in_join texts text each inside h = by_text texts each (from_contains texts text inside)
    where
      by_text : (texts : List (List ℕ)) → All IsWhole texts → In text texts → HasPair line next (lines_of (concat texts))
      by_text [] each none = absurd none
      by_text (first ∷ more) each among =
          let one : IsWhole first = All-head IsWhole first more each in
          let rest : All IsWhole more = All-tail IsWhole first more each in
          subst (HasPair line next) (sym (lines_both first (concat more) one (whole_join more rest))) (elim among [
            | inl same ↦ pair_left (lines_of first) (lines_of (concat more)) (subst (λ (t : List ℕ). HasPair line next (lines_of t)) (sym same) h)
            | inr among ↦ pair_right (lines_of first) (lines_of (concat more)) (by_text more rest among)
          ])

-- so they stand in a text that has them
pub pair_stands : (line next text : List ℕ) → IsWhole text → HasPair line next (lines_of text) → IsPieceOf (line ++ next) text
pair_stands line next text w h =
    let (front, back, e) = in_concat w.lines (subst (HasPair line next) (whole_lines text w) h) in
    (front, back, w.joined ∙ e)
  where
    in_concat : (lines : List (List ℕ)) → HasPair line next lines → (front : List ℕ) × (back : List ℕ) × (concat lines ≡ front ++ ((line ++ next) ++ back))
    in_concat [] h = absurd h
    in_concat (first ∷ []) h = absurd h
    in_concat (first ∷ second ∷ more) (inl here) =
        ([], concat more, ap (λ (t : List ℕ). t ++ (second ++ concat more)) here.0 ∙ ap (λ (t : List ℕ). line ++ (t ++ concat more)) here.1 ∙ sym (append_assoc line next (concat more)))
    in_concat (first ∷ second ∷ more) (inr later) =
        let (front, back, e) = in_concat (second ∷ more) later in
        (first ++ front, back, ap (λ (t : List ℕ). first ++ t) e ∙ sym (append_assoc first front ((line ++ next) ++ back)))

-- ---- lines, and any bytes behind them

line_first : (front rest : List ℕ) → position is_feed front ≡ None → lines_of (front ++ line_feed ∷ rest) ≡ (front ++ line_feed ∷ []) ∷ lines_of rest
unfolding lines_of
line_first [] rest none = refl
line_first (b ∷ front) rest none =
    let (other, on) = tail_none b front none in
    lines_other b (front ++ line_feed ∷ rest) other ∙ ap (onto_first b) (line_first front rest on)

pub lines_then : (lines : List (List ℕ)) (rest : List ℕ) → AreLines lines → lines_of (concat lines ++ rest) ≡ lines ++ lines_of rest
lines_then [] rest are = refl
lines_then (line ∷ more) rest (is, are) =
    ap lines_of (append_assoc line (concat more) rest)
    ∙ ap (λ l. lines_of (l ++ (concat more ++ rest))) is.whole
    ∙ ap lines_of (append_assoc is.front (line_feed ∷ []) (concat more ++ rest))
    ∙ line_first is.front (concat more ++ rest) is.none ∙ ap (λ l. l ∷ lines_of (concat more ++ rest)) (sym is.whole)
    ∙ ap (λ l. line ∷ l) (lines_then more rest are)
