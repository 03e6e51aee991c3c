-- The lines of the drafts of a route say them.
use Rattle.std.proofs.Common.{ℕ, ◌+◌, ◌≤◌, List, [], ◌∷◌, ◌++◌, map, codes, refl, sym, subst, append-nil, arith}
use Rattle.std.specs.List.{flat_map}
use Rattle.std.specs.Str.{bytes_eq}
use Rattle.std.proofs.lemmas.List.FromFn.{length-map-range_with_len}
use Rattle.dsd_values.specs.Writing.{cost_text, number_text}
use Rattle.handheld_core.specs.DraftTexts.{AreSaid, Entry, End, Head, IsSaid, Item, Say, SaysEntry, Sign, Tolerance, entries_of, head_of, item_entries, number_of}
use Rattle.load_route.specs.Deliveries.{base_at, cost_at, draft_at, first_numbers, line_at, lines_of, number_at, quantity_at, signed}
use Rattle.load_route.specs.RouteText.{draft_text, draft_words, end_words, item_text, item_words, items_text, line_text, sign_words, tolerance_words}
use Rattle.load_route.proofs.RouteRows.{all_first, apart_from, are_rows, cost_few, is_priced, lines_few, no_counts, numbers_differ, quantity_few}
use Rattle.load_route.proofs.WrittenLines.{AreFull, IsPart, SayAt, first_parts, led_line, no_words, one_line, parts_join, place_behind, seen_from, whole_line, with_value, with_word}
use Rattle.load_route.proofs.WrittenValues.{cost_said, cost_word, delivery_said, number_said, number_word}

-- ---- an item

item_full : (delivery number : ℕ) → number ≤ 5 → AreFull (item_words delivery number)
item_full delivery number most =
    let cost = with_value (cost_text (cost_at delivery number)) [] (cost_word (cost_at delivery number) (omega (arith, cost_few delivery number))) no_words in
    let upc = with_word (codes "-") (cost_text (cost_at delivery number) ∷ []) refl refl cost in
    let unit = with_word (codes "EA") (codes "-" ∷ cost_text (cost_at delivery number) ∷ []) refl refl upc in
    let quantity = with_value (number_text (quantity_at delivery number)) _ (number_word (quantity_at delivery number) (omega (arith, quantity_few delivery number))) unit in
    let dsd = with_value (number_text number) _ (number_word number (omega arith)) quantity in
    with_word (codes "ITEM") _ refl refl dsd

item_says : (delivery number : ℕ) → 1 ≤ number → number ≤ 5 → (place : ℕ) → SaysEntry (Item (line_at delivery number)) (whole_line place (item_words delivery number))
item_says delivery number least most place = (
  led_line place (item_words delivery number) (codes "ITEM") 6 (item_full delivery number most) refl refl,
  record {
    dsd = number_said 1 9_999 number (omega arith) least (omega arith);
    quantity = number_said 0 99_999 (quantity_at delivery number) (omega (arith, quantity_few delivery number)) (omega arith) (omega (arith, quantity_few delivery number));
    unit = refl;
    upc = refl;
    cost = cost_said (cost_at delivery number) (omega (arith, cost_few delivery number));
    other = refl;
  },
)

abbrev item_line : ℕ → ℕ → List (List (List ℕ))
item_line delivery number = item_words delivery number ∷ []

item_part : (delivery number : ℕ) → 1 ≤ number → number ≤ 5 → IsPart SaysEntry (item_entries (line_at delivery number)) (item_text delivery number) (item_line delivery number)
item_part delivery number least most =
    one_line SaysEntry (Item (line_at delivery number)) (item_text delivery number) (item_words delivery number) refl (omega arith) (item_full delivery number most) (item_says delivery number least most)

-- ---- a draft

head_full : (delivery : ℕ) → delivery ≤ 200 → AreFull (draft_words delivery)
head_full delivery few = with_word (codes "DRAFT") _ refl refl (with_value (number_at delivery) _ (number_word (500_000 + delivery) (omega arith)) (record { inked = refl; filled = refl }))

head_says : (delivery : ℕ) → delivery ≤ 200 → (place : ℕ) → SaysEntry (Head (head_of (base_at delivery))) (whole_line place (draft_words delivery))
head_says delivery few place = (
  led_line place (draft_words delivery) (codes "DRAFT") 8 (head_full delivery few) refl refl,
  record {
    number = delivery_said (500_000 + delivery) (omega arith);
    flag = refl;
    day = refl;
    receiver_duns = refl;
    receiver_place = refl;
    supplier_duns = refl;
    supplier_place = refl;
  },
)

sign_says : (place : ℕ) → SaysEntry (Sign signed) (whole_line place sign_words)
sign_says place = (record { leading = refl; words = refl }, record { mark = refl; name = refl })

tolerance_says : (place : ℕ) → SaysEntry (Tolerance 1_000_000) (whole_line place tolerance_words)
tolerance_says place = (record { leading = refl; words = refl }, refl)

end_says : (place : ℕ) → SaysEntry End (whole_line place end_words)
end_says place = record { leading = refl; words = refl }

abbrev head_text : ℕ → List ℕ
head_text delivery = line_text (draft_words delivery) ++ line_text sign_words ++ line_text tolerance_words

abbrev top_lines : ℕ → List (List (List ℕ))
top_lines delivery = draft_words delivery ∷ sign_words ∷ tolerance_words ∷ []

top_part : (delivery : ℕ) → delivery ≤ 200 → IsPart SaysEntry (Head (head_of (base_at delivery)) ∷ Sign signed ∷ Tolerance 1_000_000 ∷ []) (head_text delivery) (top_lines delivery)
top_part delivery few =
    let head = one_line SaysEntry (Head (head_of (base_at delivery))) (line_text (draft_words delivery)) (draft_words delivery) refl (omega arith) (head_full delivery few) (head_says delivery few) in
    let sign = one_line SaysEntry (Sign signed) (line_text sign_words) sign_words refl (omega arith) (record { inked = refl; filled = refl }) sign_says in
    let tolerance = one_line SaysEntry (Tolerance 1_000_000) (line_text tolerance_words) tolerance_words refl (omega arith) (record { inked = refl; filled = refl }) tolerance_says in
    parts_join SaysEntry (Head (head_of (base_at delivery)) ∷ Sign signed ∷ []) (Tolerance 1_000_000 ∷ []) _ _ (draft_words delivery ∷ sign_words ∷ []) (tolerance_words ∷ [])
    (parts_join SaysEntry (Head (head_of (base_at delivery)) ∷ []) (Sign signed ∷ []) _ _ (draft_words delivery ∷ []) (sign_words ∷ []) head sign) tolerance

abbrev pub draft_lines : ℕ → List (List (List ℕ))
draft_lines delivery = top_lines delivery ++ flat_map (item_line delivery) (first_numbers (lines_of delivery)) ++ end_words ∷ []

abbrev all_but_last : ℕ → List Entry
all_but_last delivery = (Head (head_of (base_at delivery)) ∷ Sign signed ∷ Tolerance 1_000_000 ∷ []) ++ flat_map item_entries (map (line_at delivery) (first_numbers (lines_of delivery)))

draft_part : (delivery : ℕ) → 1 ≤ delivery → delivery ≤ 200 → IsPart SaysEntry (entries_of (draft_at delivery)) (draft_text delivery) (draft_lines delivery)
unfolding draft_text
draft_part delivery some few =
    let items = first_parts SaysEntry item_entries (line_at delivery) (item_text delivery) (item_line delivery) 5 (item_part delivery) (lines_of delivery) (lines_few delivery) in
    let end = one_line SaysEntry End (line_text end_words) end_words refl (omega arith) (record { inked = refl; filled = refl }) end_says in
    let front = parts_join SaysEntry (Head (head_of (base_at delivery)) ∷ Sign signed ∷ Tolerance 1_000_000 ∷ []) (flat_map item_entries (map (line_at delivery) (first_numbers (lines_of delivery))))
    (head_text delivery) (items_text delivery) (top_lines delivery) (flat_map (item_line delivery) (first_numbers (lines_of delivery))) (top_part delivery few) items in
    subst (λ (entries : List Entry). IsPart SaysEntry (entries ++ End ∷ []) (draft_text delivery) (draft_lines delivery)) (sym (append-nil (all_but_last delivery)))
    (parts_join SaysEntry (all_but_last delivery) (End ∷ []) (head_text delivery ++ items_text delivery) (line_text end_words) (top_lines delivery ++ flat_map (item_line delivery) (first_numbers (lines_of delivery))) (end_words ∷ []) front end)

-- ---- all drafts

pub drafts_part : (count : ℕ) → count ≤ 200
    → IsPart SaysEntry (flat_map entries_of (map draft_at (first_numbers count))) (flat_map draft_text (first_numbers count)) (flat_map draft_lines (first_numbers count))
drafts_part count few = first_parts SaysEntry entries_of draft_at draft_text draft_lines 200 draft_part count few

pub drafts_seen : (place : ℕ) (entries : List Entry) (lines : List (List (List ℕ))) → SayAt SaysEntry entries lines → Say entries (seen_from place lines)
drafts_seen place [] [] say = tt
drafts_seen place [] (words ∷ lines) say = absurd say
drafts_seen place (entry ∷ entries) [] say = absurd say
drafts_seen place (entry ∷ entries) (words ∷ lines) say = (say.0 place, drafts_seen (place_behind place words) entries lines say.1)

is_said : (delivery : ℕ) → 1 ≤ delivery → delivery ≤ 200 → IsSaid (draft_at delivery)
is_said delivery some few = record {
  tail = refl;
  references = refl;
  deposit = refl;
  rows = are_rows delivery;
  priced = is_priced delivery;
  counters = no_counts;
}

pub drafts_said : (count place : ℕ) → count ≤ 200 → AreSaid (map draft_at (first_numbers count)) (seen_from place (flat_map draft_lines (first_numbers count)))
drafts_said count place few = record {
  lines = drafts_seen place (flat_map entries_of (map draft_at (first_numbers count))) (flat_map draft_lines (first_numbers count)) (drafts_part count few).say;
  each = all_first IsSaid draft_at 200 is_said count few;
  apart = apart_from bytes_eq number_of draft_at 200 numbers_differ 1 count (omega arith);
  few = omega (arith, length-map-range_with_len draft_at 1 count);
}
