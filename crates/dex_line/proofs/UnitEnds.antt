-- Where units end: a text parted behind a line, and the last line of some.
use Rattle.std.proofs.Common.{◌≡◌, ℕ, ◌<◌, Bool, true, false, ◌&&◌, List, [], ◌∷◌, ◌++◌, length, take, drop, position, None, refl, sym, ◌∙◌, ap, subst, inl, inr, arith, append_assoc, length-append}
use Rattle.std.specs.Prelude.{if◌then◌else◌}
use Rattle.std.specs.List.{concat, onto_first}
use Rattle.std.proofs.lemmas.Bool.{cases_eq}
use Rattle.std.proofs.lemmas.Bool.Decides.{nat_tests}
use Rattle.std.proofs.lemmas.List.{take-append-drop, drop-append-le}
use Rattle.std.proofs.Math.Seq.{take-append_seam}
use Rattle.dex_line.specs.Bytes.{line_feed}
use Rattle.dex_line.specs.TextUnits.{is_feed, lines_of, paired, units_of, is_trailer, is_set_end, IsWholeLines, EndsLines, IsLastLine}
use Rattle.dex_line.proofs.UnitCuts.{lines_other, no_lines, join_lines}
use Rattle.dex_line.proofs.Lines.{line_first}

-- ---- lines

pub lines_some : (text : List ℕ) (lines : List (List ℕ)) → lines_of text ≡ lines → 0 < length text → 0 < length lines
lines_some text [] e some =
    let l : length (concat (lines_of text)) ≡ 0 = ap (λ x. length (concat x)) e in
    let t = ap length (join_lines text) in
    absurd (omega arith)
lines_some text (line ∷ lines) e some = omega arith

onto_joined : (b : ℕ) (xs ys : List (List ℕ)) → 0 < length xs → onto_first b (xs ++ ys) ≡ onto_first b xs ++ ys
onto_joined b [] ys some = absurd (omega arith)
onto_joined b (x ∷ xs) ys some = refl

-- behind an LF the lines of a text begin anew
lines_behind : (front rest : List ℕ)
    → lines_of (front ++ line_feed ∷ rest) ≡ lines_of (front ++ line_feed ∷ []) ++ lines_of rest
unfolding lines_of
lines_behind [] rest = refl
lines_behind (b ∷ front) rest =
    elim (cases_eq b 10) [
      | inl same ↦ rw same (ap (λ l. (10 ∷ []) ∷ l) (lines_behind front rest))
      | inr other ↦
          let some = lines_some (front ++ line_feed ∷ []) _ refl (omega (arith, length-append front (line_feed ∷ []))) in
          lines_other b (front ++ line_feed ∷ rest) other ∙ ap (onto_first b) (lines_behind front rest)
          ∙ onto_joined b (lines_of (front ++ line_feed ∷ [])) (lines_of rest) some
          ∙ ap (λ l. l ++ lines_of rest) (sym (lines_other b (front ++ line_feed ∷ []) other))
    ]

-- so are they behind whole lines
pub lines_joined : (lines rest : List ℕ) → IsWholeLines lines → lines_of (lines ++ rest) ≡ lines_of lines ++ lines_of rest
lines_joined lines rest (inl none) = rw (none, no_lines) refl
lines_joined lines rest (inr (front, is)) =
    ap (λ l. lines_of (l ++ rest)) is ∙ ap lines_of (append_assoc front (line_feed ∷ []) rest) ∙ lines_behind front rest
    ∙ ap (λ l. lines_of l ++ lines_of rest) (sym is)

-- the last of some lines is one of them
line_last : (front : List ℕ) → position is_feed front ≡ None
    → lines_of (front ++ line_feed ∷ []) ≡ (front ++ line_feed ∷ []) ∷ []
line_last front none = line_first front [] none ∙ ap (λ l. (front ++ line_feed ∷ []) ∷ l) no_lines

-- ---- units

-- whether the last of these lines is one unit with the first of those
pub pairs_on : List (List ℕ) → List (List ℕ) → Bool
pairs_on [] more = false
pairs_on (line ∷ []) [] = false
pairs_on (line ∷ []) (next ∷ more) = is_trailer line && is_set_end next
pairs_on (line ∷ next ∷ lines) more = pairs_on (next ∷ lines) more

joined_if : (t : Bool) (x y u v w : List (List ℕ)) → x ≡ u ++ w → y ≡ v ++ w
    → (if t then x else y) ≡ (if t then u else v) ++ w
joined_if true x y u v w p q = p
joined_if false x y u v w p q = q

second_if : (t : Bool) (x y : List (List ℕ)) → t ≡ false → (if t then x else y) ≡ y
second_if true x y h = absurd (cc)
second_if false x y h = refl

pairs_tail : (line : List ℕ) (lines more : List (List ℕ)) → pairs_on (line ∷ lines) more ≡ false → pairs_on lines more ≡ false
unfolding pairs_on
pairs_tail line [] more h = refl
pairs_tail line (next ∷ lines) more h = h

-- lines that are no unit together are paired apart
paired_joined : (lines more : List (List ℕ)) → pairs_on lines more ≡ false → paired (lines ++ more) ≡ paired lines ++ paired more
unfolding paired pairs_on
paired_joined [] more h = refl
paired_joined (line ∷ []) [] h = refl
paired_joined (line ∷ []) (next ∷ more) h =
    second_if (is_trailer line && is_set_end next) ((line ++ next) ∷ paired more) (line ∷ paired (next ∷ more)) h
paired_joined (line ∷ next ∷ lines) more h =
    joined_if (is_trailer line && is_set_end next) ((line ++ next) ∷ paired (lines ++ more)) (line ∷ paired (next ∷ (lines ++ more)))
    ((line ++ next) ∷ paired lines) (line ∷ paired (next ∷ lines)) (paired more)
    (ap (λ l. (line ++ next) ∷ l) (paired_joined lines more (pairs_tail next lines more h)))
    (ap (λ l. line ∷ l) (paired_joined (next ∷ lines) more h))

-- no line is one unit with another that is no SE
pub apart_before : (lines : List (List ℕ)) (next : List ℕ) (more : List (List ℕ)) → is_set_end next ≡ false
    → pairs_on lines (next ∷ more) ≡ false
unfolding pairs_on
apart_before [] next more fails = refl
apart_before (line ∷ []) next more fails = grind (arith, nat_tests)
apart_before (line ∷ second ∷ lines) next more fails = apart_before (second ∷ lines) next more fails

-- nor is one that is no G85 with what is behind it
pub apart_behind : (lines : List (List ℕ)) (line : List ℕ) (more : List (List ℕ)) → is_trailer line ≡ false
    → pairs_on (lines ++ line ∷ []) more ≡ false
unfolding pairs_on
apart_behind [] line [] fails = refl
apart_behind [] line (next ∷ more) fails = grind (arith, nat_tests)
apart_behind (first ∷ []) line more fails = apart_behind [] line more fails
apart_behind (first ∷ second ∷ lines) line more fails = apart_behind (second ∷ lines) line more fails

pub units_joined : (text rest : List ℕ) → IsWholeLines text → pairs_on (lines_of text) (lines_of rest) ≡ false
    → units_of (text ++ rest) ≡ units_of text ++ units_of rest
unfolding units_of
units_joined text rest whole apart = ap paired (lines_joined text rest whole) ∙ paired_joined (lines_of text) (lines_of rest) apart

-- ---- the end of a set

-- whether the first line is an SE tells its text
pub set_end_first : (text line : List ℕ) (more : List (List ℕ)) → lines_of text ≡ line ∷ more → is_set_end line ≡ is_set_end text
unfolding lines_of
set_end_first [] line more e = absurd (cc)
set_end_first (a ∷ []) line more e = grind (arith, nat_tests)
set_end_first (a ∷ b ∷ []) line more e = grind (arith, nat_tests)
set_end_first (a ∷ b ∷ c ∷ text) line more e = grind (arith, nat_tests)

-- a G85 is no SE
pub no_set_end : (line : List ℕ) → is_trailer line ≡ true → is_set_end line ≡ false
no_set_end [] is = refl
no_set_end (a ∷ []) is = refl
no_set_end (a ∷ b ∷ []) is = refl
no_set_end (a ∷ b ∷ c ∷ []) is = absurd (cc)
no_set_end (a ∷ b ∷ c ∷ d ∷ more) is = grind (arith, nat_tests)

pub trailer_some : (line : List ℕ) → is_trailer line ≡ true → 0 < length line
trailer_some [] is = absurd (cc)
trailer_some (b ∷ line) is = omega arith

-- ---- texts apart

-- before a text that begins with no SE
pub apart_rest : (lines : List (List ℕ)) (rest : List ℕ) (more : List (List ℕ)) → lines_of rest ≡ more → 0 < length rest
    → is_set_end rest ≡ false → pairs_on lines more ≡ false
apart_rest lines rest [] e some fails = let s = lines_some rest [] e some in absurd (omega arith)
apart_rest lines rest (next ∷ more) e some fails = apart_before lines next more (set_end_first rest next more e ∙ fails)

-- behind lines of which the last is no G85
pub apart_last : (lines line : List ℕ) (more : List (List ℕ)) → IsLastLine lines line → is_trailer line ≡ false → pairs_on (lines_of lines) more ≡ false
unfolding lines_of pairs_on
apart_last [] line more last fails = refl
apart_last (b ∷ lines) line more last fails =
    let e : lines_of (b ∷ lines) ≡ lines_of last.before ++ line ∷ [] =
    ap lines_of last.joined ∙ lines_joined last.before line last.ended ∙ ap (λ l. lines_of last.before ++ l) (last.one (omega arith)) in
    ap (λ l. pairs_on l more) e ∙ apart_behind (lines_of last.before) line more fails

-- ---- the last line

last_parts : (front : List ℕ) (size : ℕ) → EndsLines front size
    → IsLastLine (front ++ line_feed ∷ []) (drop size front ++ line_feed ∷ [])
last_parts front size ends = record {
  before = take size front;
  joined = ap (λ l. l ++ line_feed ∷ []) (sym (take-append-drop size front)) ∙ append_assoc (take size front) (drop size front) (line_feed ∷ []);
  ended = ends.whole;
  whole = inr (drop size front, refl);
  one = λ some. line_last (drop size front) ends.none;
}

same_front : (front other : List ℕ) (a b : ℕ) → front ++ a ∷ [] ≡ other ++ b ∷ [] → front ≡ other
same_front front other a b e =
    let l = ap length e in
    let n : length front ≡ length other = omega (arith, length-append front (a ∷ []), length-append other (b ∷ [])) in
    sym (take-append_seam front (a ∷ [])) ∙ ap (take (length front)) e ∙ ap (λ k. take k (other ++ b ∷ [])) n
    ∙ take-append_seam other (b ∷ [])

-- what is left of whole lines behind those up to the LF before the last
pub last_of : (lines front : List ℕ) (feed size : ℕ) → IsWholeLines lines → lines ≡ front ++ feed ∷ []
    → EndsLines front size → IsLastLine lines (drop size lines)
last_of lines front feed size (inl none) is ends =
    let l = ap length (sym none ∙ is) in absurd (omega (arith, length-append front (feed ∷ [])))
last_of lines front feed size (inr (other, ended)) is ends =
    let same : front ≡ other = same_front front other feed line_feed (sym is ∙ ended) in
    let whole : lines ≡ front ++ line_feed ∷ [] = ended ∙ ap (λ l. l ++ line_feed ∷ []) (sym same) in
    let left : drop size lines ≡ drop size front ++ line_feed ∷ [] =
    ap (drop size) whole ∙ drop-append-le size front (line_feed ∷ []) ends.inside in
    rw left (subst (λ l. IsLastLine l (drop size front ++ line_feed ∷ [])) (sym whole) (last_parts front size ends))
