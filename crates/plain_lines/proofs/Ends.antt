-- Where the words of a text end, and each word by where it and the one before it end.
use Rattle.std.proofs.Common.{◌≡◌, ℕ, zero, suc, ◌+◌, ◌-◌, ◌<◌, ◌≤◌, Bool, true, false, ◌||◌, ◌==◌, ◌&&◌, not, cond, List, [], ◌∷◌, ◌++◌, length, take, drop, get_or, refl, sym, ap, subst, ◌∙◌, arith, inl, inr, append_assoc, drop-drop}
use Rattle.std.specs.List.{list_any, onto_first, position_or_len, slice_index_or}
use Rattle.std.proofs.lemmas.Bool.{cases_eq}
use Rattle.std.proofs.lemmas.Bool.Decides.{nat_tests}
use Rattle.std.proofs.lemmas.List.{drop_all, drop_more, get_or_past, length-drop, length-take, take_all}
use Rattle.std.proofs.lemmas.List.Sums.{prefix_len-le-length}
use Rattle.std.proofs.Math.Seq.{take-append_seam}
use Rattle.plain_lines.specs.PlainText.{are_so_many, ends_from, is_nothing, is_space, words_of}
use Rattle.plain_lines.proofs.Cutting.{cut_first, cut_none, words_begin}

-- ---- the walk over a text

space_step : (place b : ℕ) (text : List ℕ) → is_space b ≡ true → ends_from place (words_of (b ∷ text)) ≡ place ∷ ends_from (place + 1) (words_of text)
space_step place b text is =
    let at : place + 0 ≡ place = omega arith in
    ap (λ t. ends_from place (cond t ([] ∷ words_of text) (onto_first b (words_of text)))) is
    ∙ ap (λ n. n ∷ ends_from (n + 1) (words_of text)) at

other_step : (place b : ℕ) (text : List ℕ) → is_space b ≡ false → ends_from place (words_of (b ∷ text)) ≡ ends_from (place + 1) (words_of text)
other_step place b text is =
    let begun = words_begin text in
    let at : place + length (b ∷ begun.0) ≡ place + 1 + length begun.0 = omega arith in
    ap (λ t. ends_from place (cond t ([] ∷ words_of text) (onto_first b (words_of text)))) is
    ∙ ap (λ ws. ends_from place (onto_first b ws)) begun.2
    ∙ ap (λ n. n ∷ ends_from (n + 1) begun.1) at
    ∙ sym (ap (ends_from (place + 1)) begun.2)

-- a word ends in front of a space
pub space_ends : (text : List ℕ) (place : ℕ) → place < length text → is_space (get_or text place 0) ≡ true
    → ends_from place (words_of (drop place text)) ≡ place ∷ ends_from (place + 1) (words_of (drop (place + 1) text))
space_ends text place inside is =
    ap (λ t. ends_from place (words_of t)) (drop_more text place 0 inside) ∙ space_step place (get_or text place 0) (drop (place + 1) text) is

-- and at no other byte
pub other_goes_on : (text : List ℕ) (place : ℕ) → place < length text → is_space (get_or text place 0) ≡ false
    → ends_from place (words_of (drop place text)) ≡ ends_from (place + 1) (words_of (drop (place + 1) text))
other_goes_on text place inside is =
    ap (λ t. ends_from place (words_of t)) (drop_more text place 0 inside) ∙ other_step place (get_or text place 0) (drop (place + 1) text) is

-- what was kept with what is left, behind a space
pub kept_space : (text ends new all : List ℕ) (place : ℕ) → new ≡ ends ++ place ∷ [] → place < length text → get_or text place 0 ≡ 32
    → ends ++ ends_from place (words_of (drop place text)) ≡ all → new ++ ends_from (place + 1) (words_of (drop (place + 1) text)) ≡ all
kept_space text ends new all place more inside is before =
    let rest : List ℕ = ends_from (place + 1) (words_of (drop (place + 1) text)) in
    ap (λ (es : List ℕ). es ++ rest) more ∙ append_assoc ends (place ∷ []) rest ∙ ap (λ (es : List ℕ). ends ++ es) (sym (space_ends text place inside (ap is_space is))) ∙ before

-- and behind another byte
pub kept_other : (text ends new all : List ℕ) (place : ℕ) → new ≡ ends → place < length text → (get_or text place 0 ≡ 32 → ⊥)
    → ends ++ ends_from place (words_of (drop place text)) ≡ all → new ++ ends_from (place + 1) (words_of (drop (place + 1) text)) ≡ all
kept_other text ends new all place same inside differs before =
    let is : is_space (get_or text place 0) ≡ false = grind (arith, nat_tests) in
    let rest : List ℕ = ends_from (place + 1) (words_of (drop (place + 1) text)) in
    ap (λ (es : List ℕ). es ++ rest) same ∙ ap (λ (es : List ℕ). ends ++ es) (sym (other_goes_on text place inside is)) ∙ before

-- as many as are kept
pub kept_full : (ends rest all : List ℕ) (most : ℕ) → ends ++ rest ≡ all → (length ends == most) ≡ true → ends ≡ take most all
kept_full ends rest all most are full =
    let long : most ≡ length ends = grind (arith, nat_tests) in
    sym (ap (take most) (sym are) ∙ ap (λ n. take n (ends ++ rest)) long ∙ take-append_seam ends rest)

-- ---- one word

pub length-ends_from : (words : List (List ℕ)) (place : ℕ) → length (ends_from place words) ≡ length words
length-ends_from [] place = refl
length-ends_from (word ∷ words) place = ap (λ n. suc n) (length-ends_from words (place + length word + 1))

-- where a word begins, by where the one before it ends
abbrev begin_of : ℕ → List ℕ → ℕ → ℕ
begin_of start ends zero = start
begin_of start ends (suc number) = get_or ends number 0 + 1

-- the word with this number stands between its begin and its end
pub record IsWordIn (text : List ℕ) (start : ℕ) (ends : List ℕ) (words : List (List ℕ)) (number : ℕ) : Type 0 where
  pub onward : begin_of start ends number ≤ get_or ends number 0
  pub inside : get_or ends number 0 ≤ length text
  pub is : slice_index_or words number [] ≡ take (get_or ends number 0 - begin_of start ends number) (drop (begin_of start ends number) text)

abbrev IsOneOf : List ℕ → ℕ → List (List ℕ) → ℕ → Type 0
IsOneOf text start words number = IsWordIn text start (ends_from start words) words number

first_in : (text : List ℕ) (start : ℕ) (word : List ℕ) (words : List (List ℕ)) → start + length word ≤ length text
    → word ≡ take (length word) (drop start text) → IsOneOf text start (word ∷ words) 0
first_in text start word words inside is =
    let size : start + length word - start ≡ length word = omega arith in
    record {
      onward = omega arith;
      inside = inside;
      is = is ∙ sym (ap (λ n. take n (drop start text)) size);
    }

one_more : (text : List ℕ) (start : ℕ) (word : List ℕ) (words : List (List ℕ)) (number : ℕ)
    → IsOneOf text (start + length word + 1) words number → IsOneOf text start (word ∷ words) (suc number)
one_more text start word words zero w = record { onward = w.onward; inside = w.inside; is = w.is }
one_more text start word words (suc number) w = record { onward = w.onward; inside = w.inside; is = w.is }

module _ (text : List ℕ) (start : ℕ) (inside : start ≤ length text) where
  abbrev rest : List ℕ
  rest = drop start text

  abbrev size : ℕ
  size = position_or_len is_space rest

  abbrev word : List ℕ
  word = take size rest

  abbrev later : List ℕ
  later = drop (size + 1) rest

  one_word : size ≡ length rest → words_of rest ≡ rest ∷ []
  one_word all = cut_none is_space rest size refl all

  shorter : (size ≡ length rest → ⊥) → size < length rest
  shorter other = let most = prefix_len-le-length (λ b. not (is_space b)) rest in omega arith

  more_words : size < length rest → words_of rest ≡ word ∷ words_of later
  more_words short = cut_first is_space rest size refl short

  word_long : size < length rest → length word ≡ size
  word_long short = omega (arith, length-take size rest)

  first_word : IsOneOf text start (words_of rest) 0
  first_word = elim (cases_eq size (length rest)) [
    | inl all ↦ subst (λ ws. IsOneOf text start ws 0) (sym (one_word all)) (first_in text start rest [] (omega (arith, length-drop start text)) (sym (take_all (length rest) rest (omega arith))))
    | inr other ↦ let short = shorter other in let long = word_long short in subst (λ ws. IsOneOf text start ws 0) (sym (more_words short)) (first_in text start word (words_of later) (omega (arith, length-drop start text)) (ap (λ n. take n rest) (sym long)))
  ]

  abbrev Further : ℕ → Type 0
  Further number = (next : ℕ) → next ≤ length text → number < length (words_of (drop next text)) → IsOneOf text next (words_of (drop next text)) number

  behind_first : (number : ℕ) → size < length rest → suc number < length (word ∷ words_of later) → Further number → IsOneOf text start (word ∷ words_of later) (suc number)
  behind_first number short few further =
      let long = word_long short in
      let next : start + (size + 1) ≡ start + length word + 1 = omega arith in
      let same : later ≡ drop (start + length word + 1) text = drop-drop (size + 1) start text ∙ ap (λ n. drop n text) next in
      let on : start + length word + 1 ≤ length text = omega (arith, length-drop start text) in
      let less : number < length (words_of later) = omega arith in
      one_more text start word (words_of later) number
      (subst (λ t. IsOneOf text (start + length word + 1) (words_of t) number) (sym same) (further (start + length word + 1) on (subst (λ t. number < length (words_of t)) same less)))

  other_word : (number : ℕ) → suc number < length (words_of rest) → Further number → IsOneOf text start (words_of rest) (suc number)
  other_word number few further = elim (cases_eq size (length rest)) [
    | inl all ↦ absurd (let less : suc number < length (rest ∷ []) = subst (λ ws. suc number < length ws) (one_word all) few in omega arith)
    | inr other ↦ let short = shorter other in subst (λ ws. IsOneOf text start ws (suc number)) (sym (more_words short)) (behind_first number short (subst (λ ws. suc number < length ws) (more_words short) few) further)
  ]

word_in : (number : ℕ) (text : List ℕ) (start : ℕ) → start ≤ length text → number < length (words_of (drop start text)) → IsOneOf text start (words_of (drop start text)) number
word_in zero text start inside few = first_word text start inside
word_in (suc number) text start inside few = other_word text start inside number few (λ next on less. word_in number text next on less)

-- ---- the same by the ends of a text

module _ (text ends : List ℕ) (are : ends ≡ ends_from 0 (words_of text)) where
  pub as_many : length ends ≡ length (words_of text)
  as_many = ap (λ (es : List ℕ). length es) are ∙ length-ends_from (words_of text) 0

  here : (number : ℕ) → number < length ends → IsWordIn text 0 ends (words_of text) number
  here number few = subst (λ es. IsWordIn text 0 es (words_of text) number) (sym are) (word_in number text 0 (omega arith) (omega (arith, as_many)))

  pub end_inside : (number : ℕ) → number < length ends → get_or ends number 0 ≤ length text
  end_inside number few = (here number few).inside

  pub end_onward : (number : ℕ) → number < length ends → 0 < number → get_or ends (number - 1) 0 + 1 ≤ get_or ends number 0
  end_onward zero few some = absurd (omega arith)
  end_onward (suc number) few some =
      let before : number ≡ suc number - 1 = omega arith in
      subst (λ n. get_or ends n 0 + 1 ≤ get_or ends (suc number) 0) before (here (suc number) few).onward

  pub word_past : (number : ℕ) → length ends ≤ number → [] ≡ slice_index_or (words_of text) number []
  word_past number past = sym (get_or_past (words_of text) number [] (omega (arith, as_many)))

  pub word_first : (number : ℕ) → number < length ends → number ≡ 0 → take (get_or ends 0 0 - 0) (drop 0 text) ≡ slice_index_or (words_of text) number []
  word_first zero few first = sym (here zero few).is
  word_first (suc number) few first = absurd (omega arith)

  pub word_behind : (number : ℕ) → number < length ends → 0 < number
      → take (get_or ends number 0 - (get_or ends (number - 1) 0 + 1)) (drop (get_or ends (number - 1) 0 + 1) text) ≡ slice_index_or (words_of text) number []
  word_behind zero few some = absurd (omega arith)
  word_behind (suc number) few some =
      let before : number ≡ suc number - 1 = omega arith in
      subst (λ n. take (get_or ends (suc number) 0 - (get_or ends n 0 + 1)) (drop (get_or ends n 0 + 1) text) ≡ slice_index_or (words_of text) (suc number) []) before (sym (here (suc number) few).is)

-- ---- all words

module _ (words : List (List ℕ)) (number : ℕ) (before : list_any is_nothing words ≡ list_any is_nothing (drop number words)) where
  -- a word that is nothing
  pub one_nothing : (found : List ℕ) → number < length words → found ≡ slice_index_or words number [] → (length found == 0) ≡ true → false ≡ not (list_any is_nothing words)
  one_nothing found inside is empty =
      let here : is_nothing (get_or words number []) ≡ true = ap is_nothing (sym is) ∙ empty in
      sym (ap not (before ∙ ap (list_any is_nothing) (drop_more words number [] inside) ∙ ap (λ t. t || list_any is_nothing (drop (number + 1) words)) here))

  -- none of them is
  pub none_nothing : length words ≤ number → true ≡ not (list_any is_nothing words)
  none_nothing past = sym (ap not (before ∙ ap (list_any is_nothing) (drop_all number words past)))

-- as many words as ends
module _ (text ends : List ℕ) (are : ends ≡ ends_from 0 (words_of text)) where
  pub so_many : (count : ℕ) (filled : Bool) → length ends ≡ count → filled ≡ not (list_any is_nothing (words_of text)) → filled ≡ are_so_many count (words_of text)
  so_many count filled same is =
      let test : (length (words_of text) == count) ≡ true = let long = as_many text ends are in grind (arith, nat_tests) in
      is ∙ sym (ap (λ t. t && not (list_any is_nothing (words_of text))) test)

  pub other_many : (count : ℕ) → (length ends ≡ count → ⊥) → false ≡ are_so_many count (words_of text)
  other_many count differs =
      let test : (length (words_of text) == count) ≡ false = let long = as_many text ends are in grind (arith, nat_tests) in
      sym (ap (λ t. t && not (list_any is_nothing (words_of text))) test)
