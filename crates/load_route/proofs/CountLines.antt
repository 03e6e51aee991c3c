-- The lines of the counts of a route say them.
use Rattle.std.proofs.Common.{ℕ, ◌+◌, ◌≤◌, false, List, [], ◌∷◌, ◌++◌, map, codes, refl, subst, arith}
use Rattle.std.specs.List.{flat_map}
use Rattle.std.specs.Str.{bytes_eq}
use Rattle.std.proofs.lemmas.List.Concat.{flat_map_single}
use Rattle.std.proofs.lemmas.List.FromFn.{length-map-range_with_len}
use Rattle.dsd_values.specs.Writing.{cost_text, number_text}
use Rattle.plain_lines.specs.Counting.{AreCounts as AreRight}
use Rattle.plain_lines.specs.declared.counted.Counted.{Counted}
use Rattle.receiver_core.specs.CountTexts.{AreSaid, Counters, End, Entry, Item, Number, Say, SaysEntry, Sign, entries_of, number_of}
use Rattle.receiver_core.specs.declared.count.Count.{Count}
use Rattle.load_route.specs.Deliveries.{cost_at, count_at, counted_at, counts_at, first_numbers, lines_of, number_at, signed}
use Rattle.load_route.specs.RouteText.{answer_words, count_text, count_words, counted_items_text, counted_text, counted_words, end_words, line_text, sign_words}
use Rattle.load_route.proofs.RouteRows.{all_first, apart_from, are_counts, cost_few, counted_few, lines_few, numbers_differ}
use Rattle.load_route.proofs.WrittenLines.{AreFull, IsPart, SayAt, first_parts, led_line, no_words, one_line, parts_join, place_behind, seen_from, whole_line, with_value, with_word}
use Rattle.load_route.proofs.WrittenValues.{cost_said, cost_word, delivery_said, number_said, number_word}

-- ---- an item

item_full : (delivery number : ℕ) → number ≤ 5 → AreFull (counted_words delivery number)
item_full delivery number most =
    let cost = with_value (cost_text (cost_at delivery number)) [] (cost_word (cost_at delivery number) (omega (arith, cost_few delivery number))) no_words in
    let quantity = with_value (number_text (counted_at delivery number)) _ (number_word (counted_at delivery number) (omega (arith, counted_few delivery number))) cost in
    let dsd = with_value (number_text number) _ (number_word number (omega arith)) quantity in
    with_word (codes "ITEM") _ refl refl dsd

item_says : (delivery number : ℕ) → 1 ≤ number → number ≤ 5 → (place : ℕ) → SaysEntry (Item (count_at delivery number)) (whole_line place (counted_words delivery number))
item_says delivery number least most place =
    let led = led_line place (counted_words delivery number) (codes "ITEM") 4 (item_full delivery number most) refl refl in (
      led,
      record {
        words = led.words;
        dsd = number_said 1 9_999 number (omega arith) least (omega arith);
        quantity = number_said 0 99_999 (counted_at delivery number) (omega (arith, counted_few delivery number)) (omega arith) (omega (arith, counted_few delivery number));
        cost = cost_said (cost_at delivery number) (omega (arith, cost_few delivery number));
      },
    )

abbrev item_line : ℕ → ℕ → List (List (List ℕ))
item_line delivery number = counted_words delivery number ∷ []

abbrev one_item : Counted → List Entry
one_item counted = Item counted ∷ []

item_part : (delivery number : ℕ) → 1 ≤ number → number ≤ 5 → IsPart SaysEntry (one_item (count_at delivery number)) (counted_text delivery number) (item_line delivery number)
item_part delivery number least most =
    one_line SaysEntry (Item (count_at delivery number)) (counted_text delivery number) (counted_words delivery number) refl (omega arith) (item_full delivery number most) (item_says delivery number least most)

-- ---- a count

head_full : (delivery : ℕ) → delivery ≤ 200 → AreFull (count_words delivery)
head_full delivery few = with_word (codes "COUNT") _ refl refl (with_value (number_at delivery) [] (number_word (500_000 + delivery) (omega arith)) no_words)

head_says : (delivery : ℕ) → delivery ≤ 200 → (place : ℕ) → SaysEntry (Number (number_at delivery)) (whole_line place (count_words delivery))
head_says delivery few place = (led_line place (count_words delivery) (codes "COUNT") 2 (head_full delivery few) refl refl, delivery_said (500_000 + delivery) (omega arith))

sign_says : (place : ℕ) → SaysEntry (Sign signed) (whole_line place sign_words)
sign_says place = (record { leading = refl; words = refl }, record { mark = refl; name = refl })

answer_says : (place : ℕ) → SaysEntry (Counters false) (whole_line place answer_words)
answer_says place = (record { leading = refl; words = refl }, refl)

end_says : (place : ℕ) → SaysEntry End (whole_line place end_words)
end_says place = record { leading = refl; words = refl }

abbrev head_text : ℕ → List ℕ
head_text delivery = line_text (count_words delivery) ++ line_text sign_words ++ line_text answer_words

abbrev top_lines : ℕ → List (List (List ℕ))
top_lines delivery = count_words delivery ∷ sign_words ∷ answer_words ∷ []

top_part : (delivery : ℕ) → delivery ≤ 200 → IsPart SaysEntry (Number (number_at delivery) ∷ Sign signed ∷ Counters false ∷ []) (head_text delivery) (top_lines delivery)
top_part delivery few =
    let head = one_line SaysEntry (Number (number_at delivery)) (line_text (count_words delivery)) (count_words delivery) refl (omega arith) (head_full delivery few) (head_says delivery few) in
    let sign = one_line SaysEntry (Sign signed) (line_text sign_words) sign_words refl (omega arith) (record { inked = refl; filled = refl }) sign_says in
    let answer = one_line SaysEntry (Counters false) (line_text answer_words) answer_words refl (omega arith) (record { inked = refl; filled = refl }) answer_says in
    parts_join SaysEntry (Number (number_at delivery) ∷ Sign signed ∷ []) (Counters false ∷ []) _ _ (count_words delivery ∷ sign_words ∷ []) (answer_words ∷ [])
    (parts_join SaysEntry (Number (number_at delivery) ∷ []) (Sign signed ∷ []) _ _ (count_words delivery ∷ []) (sign_words ∷ []) head sign) answer

abbrev pub count_lines : ℕ → List (List (List ℕ))
count_lines delivery = top_lines delivery ++ flat_map (item_line delivery) (first_numbers (lines_of delivery)) ++ end_words ∷ []

items_part : (delivery : ℕ) → IsPart SaysEntry (map Item (map (count_at delivery) (first_numbers (lines_of delivery)))) (counted_items_text delivery) (flat_map (item_line delivery) (first_numbers (lines_of delivery)))
items_part delivery =
    subst (λ (entries : List Entry). IsPart SaysEntry entries (counted_items_text delivery) (flat_map (item_line delivery) (first_numbers (lines_of delivery)))) (flat_map_single Item (map (count_at delivery) (first_numbers (lines_of delivery))))
    (first_parts SaysEntry one_item (count_at delivery) (counted_text delivery) (item_line delivery) 5 (item_part delivery) (lines_of delivery) (lines_few delivery))

count_part : (delivery : ℕ) → 1 ≤ delivery → delivery ≤ 200 → IsPart SaysEntry (entries_of (counts_at delivery)) (count_text delivery) (count_lines delivery)
unfolding count_text
count_part delivery some few =
    let end = one_line SaysEntry End (line_text end_words) end_words refl (omega arith) (record { inked = refl; filled = refl }) end_says in
    let front = parts_join SaysEntry (Number (number_at delivery) ∷ Sign signed ∷ Counters false ∷ []) (map Item (map (count_at delivery) (first_numbers (lines_of delivery))))
    (head_text delivery) (counted_items_text delivery) (top_lines delivery) (flat_map (item_line delivery) (first_numbers (lines_of delivery))) (top_part delivery few) (items_part delivery) in
    parts_join SaysEntry (Number (number_at delivery) ∷ Sign signed ∷ Counters false ∷ map Item (map (count_at delivery) (first_numbers (lines_of delivery)))) (End ∷ [])
    (head_text delivery ++ counted_items_text delivery) (line_text end_words) (top_lines delivery ++ flat_map (item_line delivery) (first_numbers (lines_of delivery))) (end_words ∷ []) front end

-- ---- all counts

pub counts_part : (count : ℕ) → count ≤ 200
    → IsPart SaysEntry (flat_map entries_of (map counts_at (first_numbers count))) (flat_map count_text (first_numbers count)) (flat_map count_lines (first_numbers count))
counts_part count few = first_parts SaysEntry entries_of counts_at count_text count_lines 200 count_part count few

counts_seen : (place : ℕ) (entries : List Entry) (lines : List (List (List ℕ))) → SayAt SaysEntry entries lines → Say entries (seen_from place lines)
counts_seen place [] [] say = tt
counts_seen place [] (words ∷ lines) say = absurd say
counts_seen place (entry ∷ entries) [] say = absurd say
counts_seen place (entry ∷ entries) (words ∷ lines) say = (say.0 place, counts_seen (place_behind place words) entries lines say.1)

right_lines : (delivery : ℕ) → 1 ≤ delivery → delivery ≤ 200 → AreRight (counts_at delivery).lines
right_lines delivery some few = are_counts delivery

pub counts_said : (count place : ℕ) → count ≤ 200 → AreSaid (map counts_at (first_numbers count)) (seen_from place (flat_map count_lines (first_numbers count)))
counts_said count place few = record {
  lines = counts_seen place (flat_map entries_of (map counts_at (first_numbers count))) (flat_map count_lines (first_numbers count)) (counts_part count few).say;
  counts_right = record {
    each = all_first (λ (one : Count). AreRight one.lines) counts_at 200 right_lines count few;
    apart = apart_from bytes_eq number_of counts_at 200 numbers_differ 1 count (omega arith);
    few = omega (arith, length-map-range_with_len counts_at 1 count);
  };
}
