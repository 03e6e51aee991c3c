-- The text that is written of a route, word by word.
use Rattle.std.specs.Prelude.{ℕ, List, [], ◌∷◌, ◌++◌, codes}
use Rattle.std.specs.List.{flat_map, join_with_byte}
use Rattle.dsd_values.specs.Writing.{cost_text, number_text}
use Rattle.load_route.specs.Deliveries.{cost_at, counted_at, first_numbers, lines_of, number_at, quantity_at}

-- a line of these words, with a space, which is 32, between them
abbrev pub line_text : List (List ℕ) → List ℕ
line_text words = join_with_byte 32 words ++ 10 ∷ []

-- the line of a draft and of a count that signs
abbrev pub sign_words : List (List ℕ)
sign_words = codes "SIGN" ∷ codes "LOAD" ∷ []

abbrev pub end_words : List (List ℕ)
end_words = codes "END" ∷ []

-- ---- a draft

abbrev pub draft_words : ℕ → List (List ℕ)
draft_words delivery = codes "DRAFT" ∷ number_at delivery ∷ codes "D" ∷ codes "20240101" ∷ codes "-" ∷ codes "-" ∷ codes "-" ∷ codes "-" ∷ []

abbrev pub tolerance_words : List (List ℕ)
tolerance_words = codes "TOLERANCE" ∷ codes "1000000" ∷ []

abbrev pub item_words : ℕ → ℕ → List (List ℕ)
item_words delivery number =
    codes "ITEM" ∷ number_text number ∷ number_text (quantity_at delivery number) ∷ codes "EA" ∷ codes "-" ∷ cost_text (cost_at delivery number) ∷ []

abbrev pub item_text : ℕ → ℕ → List ℕ
item_text delivery number = line_text (item_words delivery number)

abbrev pub items_text : ℕ → List ℕ
items_text delivery = flat_map (item_text delivery) (first_numbers (lines_of delivery))

unfoldable pub draft_text : ℕ → List ℕ
draft_text delivery = line_text (draft_words delivery) ++ line_text sign_words ++ line_text tolerance_words ++ items_text delivery ++ line_text end_words

-- ---- a count

abbrev pub count_words : ℕ → List (List ℕ)
count_words delivery = codes "COUNT" ∷ number_at delivery ∷ []

abbrev pub answer_words : List (List ℕ)
answer_words = codes "COUNTER" ∷ codes "NO" ∷ []

abbrev pub counted_words : ℕ → ℕ → List (List ℕ)
counted_words delivery number = codes "ITEM" ∷ number_text number ∷ number_text (counted_at delivery number) ∷ cost_text (cost_at delivery number) ∷ []

abbrev pub counted_text : ℕ → ℕ → List ℕ
counted_text delivery number = line_text (counted_words delivery number)

abbrev pub counted_items_text : ℕ → List ℕ
counted_items_text delivery = flat_map (counted_text delivery) (first_numbers (lines_of delivery))

unfoldable pub count_text : ℕ → List ℕ
count_text delivery = line_text (count_words delivery) ++ line_text sign_words ++ line_text answer_words ++ counted_items_text delivery ++ line_text end_words

-- ---- all of it

abbrev pub handheld_words : List (List ℕ)
handheld_words = codes "HANDHELD" ∷ codes "HH00000001" ∷ codes "RR00000001" ∷ []

abbrev pub receiver_words : List (List ℕ)
receiver_words = codes "RECEIVER" ∷ codes "RR00000001" ∷ codes "HH00000001" ∷ []

-- a line of one word
abbrev pub word_line : List ℕ → List ℕ
word_line word = line_text (word ∷ [])

abbrev pub ends_text : List ℕ
ends_text = line_text handheld_words ++ line_text receiver_words ++ word_line (codes "DRAFTS")

abbrev pub last_text : List ℕ
last_text = word_line (codes "EVENTS") ++ word_line (codes "CLEAN")

unfoldable pub script_text : ℕ → List ℕ
script_text count =
    ends_text ++ flat_map draft_text (first_numbers count) ++ word_line (codes "COUNTS") ++ flat_map count_text (first_numbers count) ++ last_text
