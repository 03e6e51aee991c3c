-- A text that is written line by line and word by word is read so.
use Rattle.std.proofs.Common.{◌≡◌, ℕ, zero, suc, ◌+◌, ◌-◌, ◌<◌, ◌≤◌, ◌==◌, ◌&&◌, ◌||◌, nat_lt, Bool, true, false, List, [], ◌∷◌, ◌++◌, length, get_or, map, codes, if◌then◌else◌, refl, sym, ap, ap₂, ◌∙◌, append_assoc, append-nil, arith}
use Rattle.std.specs.List.{All, flat_map, join_with_byte, list_all, list_any, range_with_len, slice_split}
use Rattle.std.specs.Str.{bytes_eq}
use Rattle.std.specs.Str.Lines.{strip_carriage_return}
use Rattle.std.proofs.lemmas.Bool.Decides.{nat_tests}
use Rattle.std.proofs.lemmas.Grind.{flat_map-append}
use Rattle.std.proofs.lemmas.List.Elements.{All-cons, All-nil}
use Rattle.std.proofs.lemmas.List.Splits.{length-slice_split, slice_split_at, slice_split_none}
use Rattle.plain_lines.specs.PlainText.{LineSeen, ended_line, is_line_feed, is_nothing, is_space, leads, lines_from, unless_dash, words_of}
use Rattle.plain_lines.specs.Refusing.{IsLed}
use Rattle.load_route.specs.RouteText.{line_text}

-- ---- words

-- neither a space nor what ends a line
abbrev pub is_ink : ℕ → Bool
is_ink b = nat_lt 32 b

-- nor what ends a line
abbrev pub is_within : ℕ → Bool
is_within b = nat_lt 31 b

abbrev pub is_inked : List ℕ → Bool
is_inked word = list_all is_ink word

-- some words, without spaces
pub record AreWords (words : List (List ℕ)) : Type 0 where
  pub some : 0 < length words
  pub inked : list_all is_inked words ≡ true

left_true : (a b : Bool) → (a && b) ≡ true → a ≡ true
left_true true b h = refl
left_true false b h = cc (h)

right_true : (a b : Bool) → (a && b) ≡ true → b ≡ true
right_true true b h = h
right_true false b h = cc (h)

both_true : (a b : Bool) → a ≡ true → b ≡ true → (a && b) ≡ true
both_true a b p q = rw (p, q) refl

no_space : (b : ℕ) → is_ink b ≡ true → is_space b ≡ false
no_space b h = grind (arith, nat_tests)

no_feed : (b : ℕ) → is_within b ≡ true → is_line_feed b ≡ false
no_feed b h = grind (arith, nat_tests)

ink_within : (b : ℕ) → is_ink b ≡ true → is_within b ≡ true
ink_within b h = grind (arith, nat_tests)

-- a text whose bytes pass one test fails another
none_pass : (p q : ℕ → Bool) → ((b : ℕ) → p b ≡ true → q b ≡ false) → (text : List ℕ) → list_all p text ≡ true → All (λ b. q b ≡ false) text
none_pass p q fails [] h = All-nil (λ b. q b ≡ false)
none_pass p q fails (b ∷ text) h = All-cons (λ c. q c ≡ false) b text (fails b (left_true (p b) (list_all p text) h)) (none_pass p q fails text (right_true (p b) (list_all p text) h))

more_pass : (p q : ℕ → Bool) → ((b : ℕ) → p b ≡ true → q b ≡ true) → (text : List ℕ) → list_all p text ≡ true → list_all q text ≡ true
more_pass p q passes [] h = refl
more_pass p q passes (b ∷ text) h = both_true (q b) (list_all q text) (passes b (left_true (p b) (list_all p text) h)) (more_pass p q passes text (right_true (p b) (list_all p text) h))

pub all_of : (p : ℕ → Bool) (text more : List ℕ) → list_all p text ≡ true → list_all p more ≡ true → list_all p (text ++ more) ≡ true
all_of p [] more h k = k
all_of p (b ∷ text) more h k = both_true (p b) (list_all p (text ++ more)) (left_true (p b) (list_all p text) h) (all_of p text more (right_true (p b) (list_all p text) h) k)

pub words_again : (words : List (List ℕ)) → AreWords words → words_of (join_with_byte 32 words) ≡ words
words_again [] are = absurd (omega (arith, are.some))
words_again (word ∷ []) are = slice_split_none is_space word (none_pass is_ink is_space no_space word (left_true (is_inked word) true are.inked))
words_again (word ∷ next ∷ more) are =
    slice_split_at is_space word 32 (join_with_byte 32 (next ∷ more)) (none_pass is_ink is_space no_space word (left_true (is_inked word) (list_all is_inked (next ∷ more)) are.inked)) refl
    ∙ ap (λ (l : List (List ℕ)). word ∷ l) (words_again (next ∷ more) (record { some = omega arith; inked = right_true (is_inked word) (list_all is_inked (next ∷ more)) are.inked }))

joined_within : (words : List (List ℕ)) → list_all is_inked words ≡ true → list_all is_within (join_with_byte 32 words) ≡ true
joined_within [] h = refl
joined_within (word ∷ []) h = more_pass is_ink is_within ink_within word (left_true (is_inked word) true h)
joined_within (word ∷ next ∷ more) h =
    all_of is_within word (32 ∷ join_with_byte 32 (next ∷ more)) (more_pass is_ink is_within ink_within word (left_true (is_inked word) (list_all is_inked (next ∷ more)) h))
    (joined_within (next ∷ more) (right_true (is_inked word) (list_all is_inked (next ∷ more)) h))

-- ---- lines

abbrev pub lines_text : List (List (List ℕ)) → List ℕ
lines_text lines = flat_map line_text lines

abbrev pub whole_line : ℕ → List (List ℕ) → LineSeen
whole_line place words = record { place = place; words = words; ended = true }

abbrev pub place_behind : ℕ → List (List ℕ) → ℕ
place_behind place words = place + length (join_with_byte 32 words) + 1

-- these lines, the first one starting at this place
abbrev pub seen_from : ℕ → List (List (List ℕ)) → List LineSeen
seen_from place [] = []
seen_from place (words ∷ lines) = whole_line place words ∷ seen_from (place_behind place words) lines

abbrev pub AreLines : List (List (List ℕ)) → Type 0
AreLines [] = Unit {0}
AreLines (words ∷ lines) = AreWords words × AreLines lines

no_return : (text : List ℕ) (k : ℕ) → list_all is_within text ≡ true → (get_or text k 0 == 13) ≡ false
no_return [] k h = refl
no_return (b ∷ text) zero h = let inside : is_within b ≡ true = left_true (is_within b) (list_all is_within text) h in grind (arith, nat_tests)
no_return (b ∷ text) (suc k) h = no_return text k (right_true (is_within b) (list_all is_within text) h)

kept_whole : (text : List ℕ) → list_all is_within text ≡ true → strip_carriage_return text ≡ text
kept_whole text h = rw (no_return text (length text - 1) h) refl

line_again : (place : ℕ) (words : List (List ℕ)) → AreWords words → ended_line place (join_with_byte 32 words) ≡ whole_line place words
line_again place words are =
    ap (λ (ws : List (List ℕ)). whole_line place ws) (ap words_of (kept_whole (join_with_byte 32 words) (joined_within words are.inked)) ∙ words_again words are)

first_ended : (place : ℕ) (piece : List ℕ) (pieces : List (List ℕ)) → 0 < length pieces → lines_from place (piece ∷ pieces) ≡ ended_line place piece ∷ lines_from (place + length piece + 1) pieces
first_ended place piece [] some = absurd (omega arith)
first_ended place piece (next ∷ more) some = refl

pub lines_again : (place : ℕ) (lines : List (List (List ℕ))) → AreLines lines → lines_from place (slice_split is_line_feed (lines_text lines)) ≡ seen_from place lines
lines_again place [] are = refl
lines_again place (words ∷ lines) are =
    let text : List ℕ = join_with_byte 32 words in
    let rest : List ℕ = lines_text lines in
    let pieces : List (List ℕ) = slice_split is_line_feed rest in
    let cut : slice_split is_line_feed (text ++ 10 ∷ rest) ≡ text ∷ pieces = slice_split_at is_line_feed text 10 rest (none_pass is_within is_line_feed no_feed text (joined_within words are.0.inked)) refl in
    ap (λ (t : List ℕ). lines_from place (slice_split is_line_feed t)) (append_assoc text (10 ∷ []) rest) ∙ ap (lines_from place) cut
    ∙ first_ended place text pieces (omega (arith, length-slice_split is_line_feed rest))
    ∙ ap (λ (l : LineSeen). l ∷ lines_from (place_behind place words) pieces) (line_again place words are.0)
    ∙ ap (λ (l : List LineSeen). whole_line place words ∷ l) (lines_again (place_behind place words) lines are.1)

-- ---- some lines behind others

abbrev pub place_after : ℕ → List (List (List ℕ)) → ℕ
place_after place [] = place
place_after place (words ∷ lines) = place_after (place_behind place words) lines

pub seen_both : (place : ℕ) (lines more : List (List (List ℕ))) → seen_from place (lines ++ more) ≡ seen_from place lines ++ seen_from (place_after place lines) more
seen_both place [] more = refl
seen_both place (words ∷ lines) more = ap (λ (l : List LineSeen). whole_line place words ∷ l) (seen_both (place_behind place words) lines more)

pub are_both : (lines more : List (List (List ℕ))) → AreLines lines → AreLines more → AreLines (lines ++ more)
are_both [] more a b = b
are_both (words ∷ lines) more a b = (a.0, are_both lines more a.1 b)

-- ---- words that are a number or a cost

-- each byte is greater than `-`, which is 45
abbrev pub is_past_dash : ℕ → Bool
is_past_dash b = nat_lt 45 b

-- a word of some bytes, without spaces, and not the one that stands for the empty word
pub record IsValueWord (word : List ℕ) : Type 0 where
  pub filled : is_nothing word ≡ false
  pub inked : is_inked word ≡ true
  pub itself : unless_dash word ≡ word

past_ink : (b : ℕ) → is_past_dash b ≡ true → is_ink b ≡ true
past_ink b h = grind (arith, nat_tests)

no_dash : (word : List ℕ) → 0 < length word → list_all is_past_dash word ≡ true → bytes_eq word (codes "-") ≡ false
no_dash [] some h = absurd (omega arith)
no_dash (b ∷ more) some h =
    let past : is_past_dash b ≡ true = left_true (is_past_dash b) (list_all is_past_dash more) h in
    let other : (b == 45) ≡ false = grind (arith, nat_tests) in
    ap (λ (x : Bool). x && bytes_eq more []) other

pub value_word : (word : List ℕ) → 0 < length word → list_all is_past_dash word ≡ true → IsValueWord word
value_word word some h = record {
  filled = grind (arith, nat_tests);
  inked = more_pass is_past_dash is_ink past_ink word h;
  itself = ap (λ (b : Bool). if b then [] else word) (no_dash word some h);
}

-- ---- lines that are full

-- words without spaces, none of them nothing
pub record AreFull (words : List (List ℕ)) : Type 0 where
  pub inked : list_all is_inked words ≡ true
  pub filled : list_any is_nothing words ≡ false

pub no_words : AreFull []
no_words = record { inked = refl; filled = refl }

pub with_word : (word : List ℕ) (words : List (List ℕ)) → is_nothing word ≡ false → is_inked word ≡ true → AreFull words → AreFull (word ∷ words)
with_word word words some ink full = record {
  inked = both_true (is_inked word) (list_all is_inked words) ink full.inked;
  filled = ap (λ (b : Bool). b || list_any is_nothing words) some ∙ full.filled;
}

pub with_value : (word : List ℕ) (words : List (List ℕ)) → IsValueWord word → AreFull words → AreFull (word ∷ words)
with_value word words value full = with_word word words value.filled value.inked full

pub led_line : (place : ℕ) (words : List (List ℕ)) (word : List ℕ) (count : ℕ) → AreFull words → (length words == count) ≡ true → leads (whole_line place words) word ≡ true → IsLed (whole_line place words) word count
led_line place words word count full so_many leading = record { leading = leading; words = rw (so_many, full.filled) refl }

-- ---- what lines say, wherever they start

module _ {E : Type 0} (Says : E → LineSeen → Type 0) where
  abbrev pub SayAt : List E → List (List (List ℕ)) → Type 0
  SayAt [] [] = Unit {0}
  SayAt (entry ∷ entries) (words ∷ lines) = ((place : ℕ) → Says entry (whole_line place words)) × SayAt entries lines
  SayAt [] (words ∷ lines) = ⊥
  SayAt (entry ∷ entries) [] = ⊥

  say_both : (one other : List E) (lines more : List (List (List ℕ))) → SayAt one lines → SayAt other more → SayAt (one ++ other) (lines ++ more)
  say_both [] other [] more a b = b
  say_both [] other (words ∷ lines) more a b = absurd a
  say_both (entry ∷ one) other [] more a b = absurd a
  say_both (entry ∷ one) other (words ∷ lines) more a b = (a.0, say_both one other lines more a.1 b)

  -- a text of lines that say these entries
  pub record IsPart (entries : List E) (text : List ℕ) (lines : List (List (List ℕ))) : Type 0 where
    pub written : text ≡ lines_text lines
    pub are : AreLines lines
    pub say : SayAt entries lines

  pub one_line : (entry : E) (text : List ℕ) (words : List (List ℕ)) → text ≡ line_text words → 0 < length words → AreFull words → ((place : ℕ) → Says entry (whole_line place words)) → IsPart (entry ∷ []) text (words ∷ [])
  one_line entry text words is some full says = record {
    written = is ∙ sym (append-nil (line_text words));
    are = (record { some = some; inked = full.inked }, tt);
    say = (says, tt);
  }

  pub parts_join : (one other : List E) (text behind : List ℕ) (lines more : List (List (List ℕ))) → IsPart one text lines → IsPart other behind more → IsPart (one ++ other) (text ++ behind) (lines ++ more)
  parts_join one other text behind lines more a b = record {
    written = ap₂ (λ (x y : List ℕ). x ++ y) a.written b.written ∙ sym (flat_map-append line_text lines more);
    are = are_both lines more a.are b.are;
    say = say_both one other lines more a.say b.say;
  }

  pub no_part : IsPart [] [] []
  no_part = record { written = refl; are = tt; say = tt }

  -- one part for each number of a range
  module _ {X : Type 0} (entries : X → List E) (thing : ℕ → X) (text : ℕ → List ℕ) (lines : ℕ → List (List (List ℕ))) (most : ℕ) (each : (x : ℕ) → 1 ≤ x → x ≤ most → IsPart (entries (thing x)) (text x) (lines x)) where
    parts_from : (a n : ℕ) → 1 ≤ a → a + n ≤ most + 1 → IsPart (flat_map entries (map thing (range_with_len a n))) (flat_map text (range_with_len a n)) (flat_map lines (range_with_len a n))
    parts_from a zero some inside = no_part
    parts_from a (suc n) some inside =
        parts_join (entries (thing a)) (flat_map entries (map thing (range_with_len (a + 1) n))) (text a) (flat_map text (range_with_len (a + 1) n)) (lines a) (flat_map lines (range_with_len (a + 1) n))
        (each a some (omega arith)) (parts_from (a + 1) n (omega arith) (omega arith))

    pub first_parts : (n : ℕ) → n ≤ most → IsPart (flat_map entries (map thing (range_with_len 1 n))) (flat_map text (range_with_len 1 n)) (flat_map lines (range_with_len 1 n))
    first_parts n few = parts_from 1 n (omega arith) (omega arith)
