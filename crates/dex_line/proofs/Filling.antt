-- The units that fill a room, found from its back.
use Rattle.std.proofs.Common.{◌≡◌, ℕ, zero, suc, ◌+◌, ◌-◌, ◌<◌, ◌≤◌, Bool, true, false, ◌&&◌, List, [], ◌∷◌, ◌++◌, length, take, drop, position, None, refl, sym, ◌∙◌, ap, subst, inl, inr, arith, append_assoc, append-nil, length-append}
use Rattle.std.specs.Prelude.{if◌then◌else◌}
use Rattle.std.specs.List.{onto_first}
use Rattle.std.proofs.lemmas.Bool.{cases_eq}
use Rattle.std.proofs.lemmas.List.{take-append-drop, drop-take, take-take, length-take-le, length-drop}
use Rattle.std.proofs.Math.Seq.{take-append_seam, drop-append_seam}
use Rattle.dex_line.specs.TextUnits.{is_feed, lines_of, paired, units_of, is_trailer, is_set_end, IsWholeLines, EndsLines, IsLastLine}
use Rattle.dex_line.specs.BlockCut.{IsFull, Fills}
use Rattle.dex_line.proofs.UnitCuts.{tail_none, lines_other, no_units, join_units}
use Rattle.dex_line.proofs.UnitEnds.{lines_some, lines_joined, pairs_on, apart_before, apart_rest, apart_last, units_joined, set_end_first, no_set_end, trailer_some}

-- ---- filling

-- more bytes than so many without an LF are in the first line
full_onto : (b : ℕ) (lines : List (List ℕ)) → IsFull 0 0 (onto_first b lines)
full_onto b [] = omega arith
full_onto b (line ∷ lines) = omega arith

full_some : (b : ℕ) (text : List ℕ) → IsFull 0 0 (lines_of (b ∷ text))
unfolding lines_of
full_some b text =
    elim (cases_eq b 10) [
      | inl same ↦ rw same (omega arith)
      | inr other ↦ subst (λ l. IsFull 0 0 l) (sym (lines_other b text other)) (full_onto b (lines_of text))
    ]

full_more : (b n : ℕ) (lines : List (List ℕ)) → 0 < length lines → IsFull n 0 lines → IsFull (suc n) 0 (onto_first b lines)
full_more b n [] some full = absurd (omega arith)
full_more b n (line ∷ lines) some full = omega arith

full_far : (text : List ℕ) (n : ℕ) → n < length text → position is_feed (take n text) ≡ None → IsFull n 0 (lines_of text)
full_far [] n far none = absurd (omega arith)
full_far (b ∷ text) zero far none = full_some b text
full_far (b ∷ text) (suc n) far none =
    let (other, on) = tail_none b (take n text) none in
    let far_on : n < length text = omega arith in
    let some = lines_some text (lines_of text) refl (omega arith) in
    subst (λ l. IsFull (suc n) 0 l) (sym (lines_other b text other)) (full_more b n (lines_of text) some (full_far text n far_on on))

full_if : (n : ℕ) (t : Bool) (x y : List (List ℕ)) → IsFull n 0 x → IsFull n 0 y → IsFull n 0 (if t then x else y)
full_if n true x y f g = f
full_if n false x y f g = g

-- what leaves no room for a line leaves none for a unit
full_paired : (n : ℕ) (lines : List (List ℕ)) → IsFull n 0 lines → IsFull n 0 (paired lines)
unfolding paired
full_paired n [] full = tt
full_paired n (line ∷ []) full = full
full_paired n (line ∷ next ∷ more) full =
    full_if n (is_trailer line && is_set_end next) ((line ++ next) ∷ paired more) (line ∷ paired (next ∷ more))
    (omega (arith, length-append line next)) (omega arith)

full_from : (room size : ℕ) (units : List (List ℕ)) → size ≤ room → IsFull (room - size) 0 units → IsFull room size units
full_from room size [] fits full = tt
full_from room size (unit ∷ units) fits full = omega arith

-- a text in two, of which the front fills the room
fills_front : (text front rest : List ℕ) (room : ℕ) → text ≡ front ++ rest → length front ≤ room
    → units_of (front ++ rest) ≡ units_of front ++ units_of rest → IsFull room (length front) (units_of rest)
    → Fills text room (length front)
fills_front text front rest room joined fits cut full =
    let t : take (length front) text ≡ front = ap (take (length front)) joined ∙ take-append_seam front rest in
    let d : drop (length front) text ≡ rest = ap (drop (length front)) joined ∙ drop-append_seam front rest in
    record {
      units = units_of front;
      front = join_units front ∙ sym t;
      cut = ap units_of joined ∙ cut ∙ ap (λ l. units_of front ++ units_of l) (sym d);
      inside = omega (arith, ap length joined, length-append front rest);
      fits = fits;
      full = subst (λ l. IsFull room (length front) (units_of l)) (sym d) full;
    }

-- a text that fits is one block
pub fills_all : (text : List ℕ) (room : ℕ) → length text ≤ room → Fills text room (length text)
fills_all text room fits =
    fills_front text text [] room (sym (append-nil text)) fits
    (ap units_of (append-nil text) ∙ sym (append-nil (units_of text)) ∙ ap (λ l. units_of text ++ l) (sym no_units))
    (subst (λ l. IsFull room (length text) l) (sym no_units) tt)

-- no LF behind so many bytes, up to the room
far_none : (text : List ℕ) (room size : ℕ) → size ≤ room → position is_feed (drop size (take room text)) ≡ None
    → position is_feed (take (room - size) (drop size text)) ≡ None
far_none text room size fits none =
    let all : size + (room - size) ≡ room = omega arith in
    let same : drop size (take room text) ≡ take (room - size) (drop size text) =
    ap (λ k. drop size (take k text)) (sym all) ∙ drop-take size (room - size) text in
    ap (position is_feed) (sym same) ∙ none

-- as many whole lines as fit into the room, where they end with a unit
fills_lines : (text : List ℕ) (room size : ℕ) → room < length text → EndsLines (take room text) size
    → pairs_on (lines_of (take size text)) (lines_of (drop size text)) ≡ false → Fills text room size
unfolding units_of
fills_lines text room size large ends apart =
    let taken = length-take-le room text (omega arith) in
    let inside = ends.inside in
    let fits : size ≤ room = omega arith in
    let same : take size (take room text) ≡ take size text = take-take size room text fits in
    let whole : IsWholeLines (take size text) = subst IsWholeLines same ends.whole in
    let n : length (take size text) ≡ size = length-take-le size text (omega arith) in
    let left = length-drop size text in
    let none = far_none text room size fits ends.none in
    let full = full_paired (room - size) (lines_of (drop size text)) (full_far (drop size text) (room - size) (omega arith) none) in
    let fills = fills_front text (take size text) (drop size text) room (sym (take-append-drop size text)) (omega arith)
    (units_joined (take size text) (drop size text) whole apart)
    (subst (λ k. IsFull room k (units_of (drop size text))) (sym n) (full_from room size (units_of (drop size text)) fits full)) in
    subst (λ k. Fills text room k) n fills

-- where no SE follows
pub fills_before : (text : List ℕ) (room size : ℕ) → room < length text → EndsLines (take room text) size
    → is_set_end (drop size text) ≡ false → Fills text room size
fills_before text room size large ends fails =
    let taken = length-take-le room text (omega arith) in
    let inside = ends.inside in
    let left = length-drop size text in
    fills_lines text room size large ends (apart_rest (lines_of (take size text)) (drop size text) (lines_of (drop size text)) refl (omega arith) fails)

-- where the last line is no G85
pub fills_behind : (text line : List ℕ) (room size : ℕ) → room < length text → EndsLines (take room text) size
    → IsLastLine (take size text) line → is_trailer line ≡ false → Fills text room size
fills_behind text line room size large ends last fails =
    fills_lines text room size large ends (apart_last (take size text) line (lines_of (drop size text)) last fails)

-- ---- a G85 that its SE has no room behind

first_if : (t s : Bool) (x y : List (List ℕ)) → t ≡ true → s ≡ true → (if t && s then x else y) ≡ x
first_if t s x y h k = rw (h, k) refl

paired_first : (line next : List ℕ) (more : List (List ℕ)) → is_trailer line ≡ true → is_set_end next ≡ true
    → paired (line ∷ next ∷ more) ≡ (line ++ next) ∷ paired more
unfolding paired
paired_first line next more is too =
    first_if (is_trailer line) (is_set_end next) ((line ++ next) ∷ paired more) (line ∷ paired (next ∷ more)) is too

-- such a pair does not fit where the G85 alone comes so far
full_pair : (line rest : List ℕ) (lines : List (List ℕ)) (room size : ℕ) → lines_of rest ≡ lines → 0 < length rest
    → is_trailer line ≡ true → is_set_end rest ≡ true → size + length line ≤ room
    → IsFull (room - (size + length line)) 0 lines → IsFull room size (paired (line ∷ lines))
full_pair line rest [] room size e some is too fits full = let s = lines_some rest [] e some in absurd (omega arith)
full_pair line rest (next ∷ more) room size e some is too fits full =
    let pair : IsFull room size ((line ++ next) ∷ paired more) = omega (arith, length-append line next) in
    subst (λ l. IsFull room size l) (sym (paired_first line next more is (set_end_first rest next more e ∙ too))) pair

-- the text that such a G85 begins
fills_pair : (text before line rest : List ℕ) (room : ℕ) → text ≡ before ++ (line ++ rest) → IsWholeLines before
    → lines_of (line ++ rest) ≡ line ∷ lines_of rest → 0 < length rest → is_trailer line ≡ true → is_set_end rest ≡ true
    → length before + length line ≤ room → IsFull (room - (length before + length line)) 0 (lines_of rest)
    → Fills text room (length before)
unfolding units_of
fills_pair text before line rest room joined ended lines some is too fits full =
    let apart : pairs_on (lines_of before) (lines_of (line ++ rest)) ≡ false =
    ap (pairs_on (lines_of before)) lines ∙ apart_before (lines_of before) line (lines_of rest) (no_set_end line is) in
    let pair = full_pair line rest (lines_of rest) room (length before) refl some is too fits full in
    fills_front text before (line ++ rest) room joined (omega arith) (units_joined before (line ++ rest) ended apart)
    (subst (λ l. IsFull room (length before) (paired l)) (sym lines) pair)

pub fills_trailer : (text line : List ℕ) (room size : ℕ) → room < length text → EndsLines (take room text) size
    → IsLastLine (take size text) line → is_trailer line ≡ true → is_set_end (drop size text) ≡ true
    → Fills text room (size - length line)
fills_trailer text line room size large ends last is too =
    let taken = length-take-le room text (omega arith) in
    let inside = ends.inside in
    let fits : size ≤ room = omega arith in
    let n : length (take size text) ≡ size = length-take-le size text (omega arith) in
    let left = length-drop size text in
    let parts = ap length last.joined in
    let front : length last.before + length line ≡ size = omega (arith, length-append last.before line) in
    let none = far_none text room size fits ends.none in
    let full = full_far (drop size text) (room - size) (omega arith) none in
    let some_line : 0 < length line = trailer_some line is in
    let one : lines_of (line ++ drop size text) ≡ line ∷ lines_of (drop size text) =
    lines_joined line (drop size text) last.whole ∙ ap (λ l. l ++ lines_of (drop size text)) (last.one (omega arith)) in
    let joined : text ≡ last.before ++ (line ++ drop size text) =
    sym (take-append-drop size text) ∙ ap (λ l. l ++ drop size text) last.joined ∙ append_assoc last.before line (drop size text) in
    let fills = fills_pair text last.before line (drop size text) room joined last.ended one (omega arith) is too (omega arith)
    (subst (λ k. IsFull (room - k) 0 (lines_of (drop size text))) (sym front) full) in
    let at : length last.before ≡ size - length line = omega arith in
    subst (λ k. Fills text room k) at fills
