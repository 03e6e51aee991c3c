-- The text that is written of a route says its script.
use Rattle.std.proofs.Common.{◌≡◌, ℕ, ◌≤◌, List, [], ◌∷◌, ◌++◌, codes, refl, sym, ap, ◌∙◌, append_assoc, arith}
use Rattle.std.specs.List.{flat_map}
use Rattle.std.proofs.lemmas.Grind.{flat_map-append}
use Rattle.plain_lines.specs.PlainText.{LineSeen, lines_in}
use Rattle.cable_world.specs.ScriptTexts.{Says}
use Rattle.load_route.specs.Deliveries.{first_numbers}
use Rattle.load_route.specs.Route.{route}
use Rattle.load_route.specs.RouteText.{count_text, draft_text, ends_text, handheld_words, last_text, line_text, receiver_words, script_text, word_line}
use Rattle.load_route.proofs.CountLines.{count_lines, counts_part, counts_said}
use Rattle.load_route.proofs.DraftLines.{draft_lines, drafts_part, drafts_said}
use Rattle.load_route.proofs.WrittenLines.{AreLines, are_both, lines_again, lines_text, place_after, place_behind, seen_both, seen_from, whole_line}

abbrev ends_lines : List (List (List ℕ))
ends_lines = handheld_words ∷ receiver_words ∷ (codes "DRAFTS" ∷ []) ∷ []

abbrev counts_line : List (List (List ℕ))
counts_line = (codes "COUNTS" ∷ []) ∷ []

abbrev last_lines : List (List (List ℕ))
last_lines = (codes "EVENTS" ∷ []) ∷ (codes "CLEAN" ∷ []) ∷ []

abbrev all_drafts : ℕ → List (List (List ℕ))
all_drafts count = flat_map draft_lines (first_numbers count)

abbrev all_counts : ℕ → List (List (List ℕ))
all_counts count = flat_map count_lines (first_numbers count)

abbrev script_lines : ℕ → List (List (List ℕ))
script_lines count = ends_lines ++ (all_drafts count ++ (counts_line ++ (all_counts count ++ last_lines)))

-- five texts in a row
in_a_row : (a b c d e : List ℕ) → a ++ b ++ c ++ d ++ e ≡ a ++ (b ++ (c ++ (d ++ e)))
in_a_row a b c d e = append_assoc (a ++ b ++ c) d e ∙ append_assoc (a ++ b) c (d ++ e) ∙ append_assoc a b (c ++ (d ++ e))

script_written : (count : ℕ) → count ≤ 200 → script_text count ≡ lines_text (script_lines count)
unfolding script_text
script_written count few =
    let drafts : List ℕ = flat_map draft_text (first_numbers count) in
    let counts : List ℕ = flat_map count_text (first_numbers count) in
    let behind : List (List (List ℕ)) = counts_line ++ (all_counts count ++ last_lines) in
    let last : lines_text (all_counts count ++ last_lines) ≡ lines_text (all_counts count) ++ lines_text last_lines = flat_map-append line_text (all_counts count) last_lines in
    let first : lines_text (all_drafts count ++ behind) ≡ lines_text (all_drafts count) ++ lines_text behind = flat_map-append line_text (all_drafts count) behind in
    in_a_row ends_text drafts (word_line (codes "COUNTS")) counts last_text
    ∙ ap (λ (text : List ℕ). ends_text ++ (drafts ++ (word_line (codes "COUNTS") ++ (text ++ lines_text last_lines)))) (counts_part count few).written
    ∙ ap (λ (text : List ℕ). ends_text ++ (drafts ++ (word_line (codes "COUNTS") ++ text))) (sym last)
    ∙ ap (λ (text : List ℕ). ends_text ++ (text ++ lines_text behind)) (drafts_part count few).written
    ∙ ap (λ (text : List ℕ). ends_text ++ text) (sym first)

ends_are : AreLines ends_lines
ends_are = (record { some = omega arith; inked = refl }, (record { some = omega arith; inked = refl }, (record { some = omega arith; inked = refl }, tt)))

counts_line_is : AreLines counts_line
counts_line_is = (record { some = omega arith; inked = refl }, tt)

last_are : AreLines last_lines
last_are = (record { some = omega arith; inked = refl }, (record { some = omega arith; inked = refl }, tt))

script_are : (count : ℕ) → count ≤ 200 → AreLines (script_lines count)
script_are count few =
    are_both ends_lines _ ends_are (are_both (all_drafts count) _ (drafts_part count few).are (are_both counts_line _ counts_line_is (are_both (all_counts count) last_lines (counts_part count few).are last_are)))

-- the places where its parts begin
abbrev drafts_at : ℕ
drafts_at = place_after 0 ends_lines

abbrev behind_drafts : ℕ → ℕ
behind_drafts count = place_after drafts_at (all_drafts count)

abbrev counts_from : ℕ → ℕ
counts_from count = place_after (behind_drafts count) counts_line

abbrev behind_counts : ℕ → ℕ
behind_counts count = place_after (counts_from count) (all_counts count)

abbrev at_events : ℕ → LineSeen
at_events place = whole_line place (codes "EVENTS" ∷ [])

abbrev at_clean : ℕ → LineSeen
at_clean place = whole_line (place_behind place (codes "EVENTS" ∷ [])) (codes "CLEAN" ∷ [])

abbrev parted : ℕ → List LineSeen
parted count =
    whole_line 0 handheld_words ∷ whole_line (place_behind 0 handheld_words) receiver_words ∷ whole_line (place_after 0 (handheld_words ∷ receiver_words ∷ [])) (codes "DRAFTS" ∷ [])
    ∷ (seen_from drafts_at (all_drafts count) ++ whole_line (behind_drafts count) (codes "COUNTS" ∷ [])
    ∷ (seen_from (counts_from count) (all_counts count) ++ at_events (behind_counts count) ∷ at_clean (behind_counts count) ∷ []))

script_seen : (count : ℕ) → seen_from 0 (script_lines count) ≡ parted count
script_seen count =
    ap (λ (l : List LineSeen). seen_from 0 ends_lines ++ l) (seen_both drafts_at (all_drafts count) (counts_line ++ (all_counts count ++ last_lines)))
    ∙ ap (λ (l : List LineSeen). seen_from 0 ends_lines ++ (seen_from drafts_at (all_drafts count) ++ whole_line (behind_drafts count) (codes "COUNTS" ∷ []) ∷ l)) (seen_both (counts_from count) (all_counts count) last_lines)

pub says_route : (count : ℕ) (text : List ℕ) → count ≤ 200 → text ≡ script_text count → Says (route count) text
says_route count text few is =
    let lines : (lines_in (lines_text (script_lines count))).lines ≡ parted count = lines_again 0 (script_lines count) (script_are count few) ∙ script_seen count in
    record {
      handheld = whole_line 0 handheld_words;
      receiver = whole_line (place_behind 0 handheld_words) receiver_words;
      before_drafts = whole_line (place_after 0 (handheld_words ∷ receiver_words ∷ [])) (codes "DRAFTS" ∷ []);
      drafts = seen_from drafts_at (all_drafts count);
      before_counts = whole_line (behind_drafts count) (codes "COUNTS" ∷ []);
      counts = seen_from (counts_from count) (all_counts count);
      before_events = at_events (behind_counts count);
      events = at_clean (behind_counts count) ∷ [];
      joined = ap (λ (t : List ℕ). (lines_in t).lines) (is ∙ script_written count few) ∙ lines;
      says_handheld = record { led = record { leading = refl; words = refl }; role_is = refl; own = refl; peer = refl };
      says_receiver = record { led = record { leading = refl; words = refl }; role_is = refl; own = refl; peer = refl };
      begins_drafts = record { leading = refl; words = refl };
      say_drafts = drafts_said count drafts_at few;
      begins_counts = record { leading = refl; words = refl };
      say_counts = counts_said count (counts_from count) few;
      begins_events = record { leading = refl; words = refl };
      say_events = (record { leading = refl; words = refl }, tt);
      few = omega arith;
    }
