-- Texts cut at their spaces and at each LF.
use Rattle.std.proofs.Common.{◌≡◌, ℕ, ◌+◌, ◌-◌, ◌<◌, ◌≤◌, ◌==◌, ◌&&◌, Bool, true, false, not, List, [], ◌∷◌, length, take, drop, position, Option, refl, sym, ap, ◌∙◌, arith, inl, inr}
use Rattle.std.proofs.lemmas.List.{length-drop, length-take}
use Rattle.std.proofs.lemmas.Bool.Decides.{nat_tests}
use Rattle.std.proofs.lemmas.Bool.{cases_eq}
use Rattle.std.specs.List.{list_any, position_or_len, slice_index_or, slice_split}
use Rattle.std.specs.Option.{unwrap_or}
use Rattle.std.proofs.lemmas.List.Splits.{length-slice_split, slice_split_first, slice_split_none}
use Rattle.std.proofs.lemmas.List.Sums.{fails_before_first, prefix_len-le-length}
use Rattle.plain_lines.specs.PlainText.{LineSeen, are_so_many, ended_line, is_line_feed, is_nothing, is_space, last_line, lines_from, words_of}

-- ---- where a text is cut

-- a text that has one such byte
pub cut_first : (p : ℕ → Bool) (text : List ℕ) (size : ℕ) → size ≡ position_or_len p text → size < length text → slice_split p text ≡ take size text ∷ slice_split p (drop (size + 1) text)
cut_first p text size is inside =
    slice_split_first p text 0 (omega arith) ∙ ap (λ (k : ℕ). take k text ∷ slice_split p (drop (k + 1) text)) (sym is)

-- a text that has none
pub cut_none : (p : ℕ → Bool) (text : List ℕ) (size : ℕ) → size ≡ position_or_len p text → size ≡ length text → slice_split p text ≡ text ∷ []
cut_none p text size is all = slice_split_none p text (λ k d here. fails_before_first p text k d (omega arith))

or_length : (p : ℕ → Bool) (text : List ℕ) → unwrap_or (position p text) (length text) ≡ position_or_len p text
or_length p text = let most = prefix_len-le-length (λ (b : ℕ). not (p b)) text in grind (arith, nat_tests)

-- how many bytes stand in front of the first that passes
pub size_is : (p : ℕ → Bool) (text : List ℕ) (found : Option ℕ) (size : ℕ) → found ≡ position p text → size ≡ unwrap_or found (length text) → size ≡ position_or_len p text
size_is p text found size at is = is ∙ ap (λ (o : Option ℕ). unwrap_or o (length text)) at ∙ or_length p text

pub size_within : (p : ℕ → Bool) (text : List ℕ) (size : ℕ) → size ≡ position_or_len p text → size ≤ length text
size_within p text size is = let most = prefix_len-le-length (λ (b : ℕ). not (p b)) text in omega arith

-- ---- words

pub piece_first : (text : List ℕ) (size number : ℕ) → size ≡ position_or_len is_space text → size < length text → number ≡ 0 → take size text ≡ slice_index_or (words_of text) number []
piece_first text size number is inside first =
    sym (ap (λ (n : ℕ). slice_index_or (words_of text) n []) first ∙ ap (λ (ws : List (List ℕ)). slice_index_or ws 0 []) (cut_first is_space text size is inside))

index_more : (first : List ℕ) (words : List (List ℕ)) (number : ℕ) → 0 < number → slice_index_or words (number - 1) [] ≡ slice_index_or (first ∷ words) number []
index_more first words number some = grind arith

pub piece_more : (text : List ℕ) (size number : ℕ) → size ≡ position_or_len is_space text → size < length text → 0 < number
    → slice_index_or (words_of (drop (size + 1) text)) (number - 1) [] ≡ slice_index_or (words_of text) number []
piece_more text size number is inside some =
    index_more (take size text) (words_of (drop (size + 1) text)) number some ∙ sym (ap (λ (ws : List (List ℕ)). slice_index_or ws number []) (cut_first is_space text size is inside))

pub piece_alone : (text : List ℕ) (size number : ℕ) → size ≡ position_or_len is_space text → size ≡ length text → number ≡ 0 → text ≡ slice_index_or (words_of text) number []
piece_alone text size number is all first = sym (ap (λ (n : ℕ). slice_index_or (words_of text) n []) first ∙ ap (λ (ws : List (List ℕ)). slice_index_or ws 0 []) (cut_none is_space text size is all))

past_one : (text : List ℕ) (number : ℕ) → 0 < number → [] ≡ slice_index_or (text ∷ []) number []
past_one text number some = grind arith

pub piece_past : (text : List ℕ) (size number : ℕ) → size ≡ position_or_len is_space text → size ≡ length text → 0 < number → [] ≡ slice_index_or (words_of text) number []
piece_past text size number is all some = past_one text number some ∙ sym (ap (λ (ws : List (List ℕ)). slice_index_or ws number []) (cut_none is_space text size is all))

and_false : (b : Bool) → (b && false) ≡ false
and_false true = refl
and_false false = refl

-- an empty word is none
empty_first : (count : ℕ) (words rest : List (List ℕ)) → words ≡ [] ∷ rest → are_so_many count words ≡ false
empty_first count words rest e = ap (are_so_many count) e ∙ and_false (length ([] ∷ rest) == count)

nothing_of : (word : List ℕ) → length word ≡ 0 → word ≡ []
nothing_of [] e = refl
nothing_of (b ∷ more) e = absurd (omega arith)

pub words_begin : (text : List ℕ) → (first : List ℕ) × (rest : List (List ℕ)) × (words_of text ≡ first ∷ rest)
words_begin text = by (words_of text) (omega (arith, length-slice_split is_space text))
  where
    by : (words : List (List ℕ)) → 0 < length words → (first : List ℕ) × (rest : List (List ℕ)) × (words ≡ first ∷ rest)
    by [] some = absurd (omega arith)
    by (first ∷ rest) some = (first, rest, refl)

pub none_at_zero : (text : List ℕ) (size count : ℕ) → size ≡ position_or_len is_space text → size ≡ 0 → false ≡ are_so_many count (words_of text)
none_at_zero text size count is zero = elim (cases_eq (length text) 0) [
  | inl none ↦ sym (empty_first count (words_of text) [] (cut_none is_space text size is (omega arith) ∙ ap (λ (t : List ℕ). t ∷ []) (nothing_of text none)))
  | inr some ↦ sym (empty_first count (words_of text) (slice_split is_space (drop (size + 1) text)) (cut_first is_space text size is (omega arith) ∙ ap (λ (k : ℕ). take k text ∷ slice_split is_space (drop (size + 1) text)) zero))
]

not_zero : (n count : ℕ) (b : Bool) → 0 < n → count ≡ 0 → ((n == count) && b) ≡ false
not_zero n count b some zero = let other : (n == count) ≡ false = grind (arith, nat_tests) in rw other refl

pub none_of_zero : (text : List ℕ) (count : ℕ) → count ≡ 0 → false ≡ are_so_many count (words_of text)
none_of_zero text count zero =
    let begun = words_begin text in
    sym (ap (are_so_many count) begun.2 ∙ not_zero (length (begun.0 ∷ begun.1)) count (not (list_any is_nothing (begun.0 ∷ begun.1))) (omega arith) zero)

alone : (word : List ℕ) (count : ℕ) → 0 < length word → (count == 1) ≡ are_so_many count (word ∷ [])
alone word count some = let filled : is_nothing word ≡ false = grind (arith, nat_tests) in rw filled (turned_one count)
  where
    turned_one : (count : ℕ) → (count == 1) ≡ ((1 == count) && true)
    turned_one count = grind (arith, nat_tests)

pub one_word : (text : List ℕ) (size count : ℕ) → size ≡ position_or_len is_space text → size ≡ length text → 0 < size → (count == 1) ≡ are_so_many count (words_of text)
one_word text size count is all some = alone text count (omega arith) ∙ sym (ap (are_so_many count) (cut_none is_space text size is all))

one_less : (n m count : ℕ) → m ≡ n + 1 → 0 < count → (n == count - 1) ≡ (m == count)
one_less n m count more some = grind (arith, nat_tests)

more_first : (word : List ℕ) (words : List (List ℕ)) (count : ℕ) → 0 < length word → 0 < count → are_so_many (count - 1) words ≡ are_so_many count (word ∷ words)
more_first word words count some counts =
    let filled : is_nothing word ≡ false = grind (arith, nat_tests) in
    rw filled (ap (λ (b : Bool). b && not (list_any is_nothing words)) (one_less (length words) (length (word ∷ words)) count (omega arith) counts))

pub more_words : (text : List ℕ) (size count : ℕ) → size ≡ position_or_len is_space text → size < length text → 0 < size → 0 < count
    → are_so_many (count - 1) (words_of (drop (size + 1) text)) ≡ are_so_many count (words_of text)
more_words text size count is inside some counts =
    more_first (take size text) (words_of (drop (size + 1) text)) count (omega (arith, length-take size text)) counts ∙ sym (ap (are_so_many count) (cut_first is_space text size is inside))

-- ---- lines

lines_more : (place : ℕ) (piece : List ℕ) (pieces : List (List ℕ)) → 0 < length pieces → lines_from place (piece ∷ pieces) ≡ ended_line place piece ∷ lines_from (place + length piece + 1) pieces
lines_more place piece [] some = absurd (omega arith)
lines_more place piece (next ∷ more) some = refl

last_is : (place : ℕ) (text : List ℕ) → 0 < length text → last_line place text ≡ record { place = place; words = words_of text; ended = false } ∷ []
last_is place [] some = absurd (omega arith)
last_is place (b ∷ more) some = refl

pub ended_first : (place : ℕ) (text : List ℕ) (size : ℕ) (line : LineSeen) → size ≡ position_or_len is_line_feed text → size < length text → line ≡ ended_line place (take size text)
    → lines_from place (slice_split is_line_feed text) ≡ line ∷ lines_from (place + (size + 1)) (slice_split is_line_feed (drop (size + 1) text))
ended_first place text size line is inside same =
    let rest : List (List ℕ) = slice_split is_line_feed (drop (size + 1) text) in
    let some : 0 < length rest = omega (arith, length-slice_split is_line_feed (drop (size + 1) text)) in
    let at : place + length (take size text) + 1 ≡ place + (size + 1) = omega (arith, length-take size text) in
    ap (lines_from place) (cut_first is_line_feed text size is inside) ∙ lines_more place (take size text) rest some
    ∙ ap (λ (k : ℕ). ended_line place (take size text) ∷ lines_from k rest) at ∙ ap (λ (l : LineSeen). l ∷ lines_from (place + (size + 1)) rest) (sym same)

pub unended_first : (place : ℕ) (text : List ℕ) (size : ℕ) (line : LineSeen) → size ≡ position_or_len is_line_feed text → size ≡ length text → 0 < length text
    → line ≡ record { place = place; words = words_of text; ended = false } → lines_from place (slice_split is_line_feed text) ≡ line ∷ lines_from (place + size) (slice_split is_line_feed (drop size text))
unended_first place text size line is all some same =
    let none : drop size text ≡ [] = nothing_of (drop size text) (omega (arith, length-drop size text)) in
    ap (lines_from place) (cut_none is_line_feed text size is all) ∙ last_is place text some ∙ ap (λ (l : LineSeen). l ∷ []) (sym same)
    ∙ ap (λ (t : List ℕ). line ∷ lines_from (place + size) (slice_split is_line_feed t)) (sym none)
