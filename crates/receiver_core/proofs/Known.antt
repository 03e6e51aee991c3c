-- Counts under the numbers of their deliveries.
use Rattle.std.proofs.Common.{◌≡◌, ℕ, ◌<◌, bytes_eq, false, List, [], ◌∷◌, ◌++◌, length, sym, ap, subst, ◌∙◌, arith, length-append}
use Rattle.std.specs.Map.{values_of}
use Rattle.std.proofs.lemmas.List.Elements.{All-append, All-cons, All-nil}
use Rattle.plain_lines.specs.Counting.{AreCounts as AreRight}
use Rattle.plain_lines.proofs.Keyed.{apart_more, pushed_is, turned_texts}
use Rattle.receiver_core.specs.CountTexts.{AreCounts, is_known, number_of, numbered}
use Rattle.receiver_core.specs.declared.count.Count.{Count}

abbrev IsRight : Count → Type 0
IsRight count = AreRight count.lines

pub counts_more : (counts : List Count) (count : Count) → AreCounts counts → AreRight count.lines → is_known count.number counts ≡ false → length counts < 200 → AreCounts (counts ++ count ∷ [])
counts_more counts count are right none room = record {
  each = All-append IsRight counts (count ∷ []) are.each (All-cons IsRight count [] right (All-nil IsRight));
  apart = apart_more bytes_eq turned_texts number_of counts count are.apart none;
  few = omega (arith, length-append counts (count ∷ []));
}

-- a map with one more is right
pub pushed_right : (after : List (List ℕ × Count)) (old : List Count) (count : Count) → after ≡ numbered (old ++ count ∷ []) → AreCounts old → AreRight count.lines
    → is_known count.number old ≡ false → length old < 200 → (after ≡ numbered (values_of after)) × AreCounts (values_of after)
pushed_right after old count is are right none room =
    let new : values_of after ≡ old ++ count ∷ [] = pushed_is bytes_eq turned_texts number_of after (old ++ count ∷ []) is in
    (is ∙ ap numbered (sym new), subst AreCounts (sym new) (counts_more old count are right none room))
