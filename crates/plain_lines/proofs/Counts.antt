-- Counted lines are right, one more of them too, and a line of a delivery that is made of one is sound.
use Rattle.std.proofs.Common.{◌≡◌, ℕ, ◌<◌, nat_eq, true, false, List, [], ◌∷◌, ◌++◌, length, Some, refl, sym, ap, subst, ◌∙◌, arith, length-append}
use Rattle.std.specs.List.{All}
use Rattle.std.specs.Map.{values_of}
use Rattle.std.proofs.lemmas.List.Elements.{All-append, All-cons, All-nil}
use Rattle.transaction_set.specs.SoundLines.{IsPlainWord, IsSoundLine}
use Rattle.transaction_set.proofs.Sounding.{no_extras, plain_line}
use Rattle.plain_lines.specs.Counting.{AreCounts, IsRightCounted, counted_under, counts_numbered, is_counted, new_line, number_of}
use Rattle.plain_lines.specs.declared.counted.Counted.{Counted}
use Rattle.plain_lines.proofs.Keyed.{apart_more, found_all, pushed_is, turned_numbers}

counts_more : (counts : List Counted) (counted : Counted) → AreCounts counts → IsRightCounted counted → is_counted counted.dsd counts ≡ false → length counts < 999 → AreCounts (counts ++ counted ∷ [])
counts_more counts counted are right none room = record {
  right = All-append IsRightCounted counts (counted ∷ []) are.right (All-cons IsRightCounted counted [] right (All-nil IsRightCounted));
  apart = apart_more nat_eq turned_numbers number_of counts counted are.apart none;
  few = omega (arith, length-append counts (counted ∷ []));
}

-- a map with one more is right
pub pushed_right : (after : List (ℕ × Counted)) (old : List Counted) (counted : Counted) → after ≡ counts_numbered (old ++ counted ∷ []) → AreCounts old → IsRightCounted counted
    → is_counted counted.dsd old ≡ false → length old < 999 → (after ≡ counts_numbered (values_of after)) × AreCounts (values_of after)
pushed_right after old counted is are right none room =
    let new : values_of after ≡ old ++ counted ∷ [] = pushed_is nat_eq turned_numbers number_of after (old ++ counted ∷ []) is in
    (is ∙ ap counts_numbered (sym new), subst AreCounts (sym new) (counts_more old counted are right none room))

pub right_under : (dsd : ℕ) (counts : List Counted) → All IsRightCounted counts → (counted : Counted) → counted_under dsd counts ≡ Some counted → IsRightCounted counted
right_under dsd counts right counted e = found_all nat_eq number_of IsRightCounted dsd counts right counted e

empty_word : IsPlainWord []
empty_word = record { characters = refl; short = omega arith }

-- a line that a delivery did not have is one that a set may state
pub new_sound : (counted : Counted) → IsRightCounted counted → IsSoundLine (new_line counted)
new_sound counted right = plain_line (new_line counted) (record {
  least = right.least;
  most = right.most;
  quantity = right.quantity;
  unit = record { characters = refl; short = omega arith };
  filled = omega arith;
  upc = empty_word;
  qualifier = empty_word;
  id = empty_word;
  case_code = empty_word;
  cost = right.cost;
  pack = empty_word;
  label = empty_word;
  tail = refl;
}) (no_extras true)
