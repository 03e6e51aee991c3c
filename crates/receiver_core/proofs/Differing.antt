-- Lines that differ from what was counted are sound and apart.
use Rattle.std.proofs.Common.{◌≡◌, ◌≤◌, ℕ, ◌==◌, nat_eq, ◌||◌, Bool, true, false, List, [], ◌∷◌, ◌++◌, Option, Some, None, if◌then◌else◌, refl, sym, ap, subst, ◌∙◌, arith, inl, inr}
use Rattle.std.specs.List.{All}
use Rattle.std.proofs.lemmas.Bool.{cases_Bool}
use Rattle.std.proofs.lemmas.Bool.Decides.{nat_tests}
use Rattle.std.proofs.lemmas.List.Elements.{All-append, All-cons, All-head, All-nil, All-tail}
use Rattle.dsd_values.specs.Reading.{cost_of}
use Rattle.dsd_values.specs.declared.line.Line.{Line}
use Rattle.dsd_values.proofs.Laws.{decimal_of_spelled}
use Rattle.transaction_set.specs.Grammar.{AreApart}
use Rattle.transaction_set.specs.Reasons.{has_line}
use Rattle.transaction_set.specs.SoundLines.{AreSoundLines, IsSoundLine}
use Rattle.segments.specs.Views.{element_of}
use Rattle.transaction_set.proofs.Small.{both_false, or_false}
use Rattle.transaction_set.proofs.Sounding.{counted_line}
use Rattle.plain_lines.specs.Counting.{AreCountedApart, AreCounts, IsRightCounted, counted_under, is_counted, number_of, recounted}
use Rattle.plain_lines.specs.declared.counted.Counted.{Counted}
use Rattle.plain_lines.proofs.Counts.{new_sound, right_under}
use Rattle.plain_lines.proofs.Keyed.{both, turned_numbers}
use Rattle.receiver_core.specs.Choosing.{added, change_of, changes_of, differing, is_as_counted, uncounted, with_change}

-- ---- one line that differs

some_line : (a b : Line) → Some a ≡ Some b → a ≡ b
some_line a b e = cc (e)

cost_within : (line : Line) → IsSoundLine line → line.cost ≤ 999_999_999
cost_within line is = ((decimal_of_spelled 4 999_999_999 (element_of is.item 8) (cost_of (element_of is.item 8)) refl line.cost).0 is.says.cost).at_most

module _ (line : Line) where
  counted_by : (b : Bool) (counted : Counted) → IsRightCounted counted → IsSoundLine line → (change : Line) → (if b then None else Some (recounted counted line)) ≡ Some change → IsSoundLine change
  counted_by true counted right is change e = cc (e)
  counted_by false counted right is change e = subst IsSoundLine (some_line (recounted counted line) change e) (counted_line line counted.quantity counted.cost is right.quantity right.cost)

  uncounted_by : (b : Bool) → IsSoundLine line → (change : Line) → (if b then None else Some (uncounted line)) ≡ Some change → IsSoundLine change
  uncounted_by true is change e = cc (e)
  uncounted_by false is change e = subst IsSoundLine (some_line (uncounted line) change e) (counted_line line 0 line.cost is (omega arith) (cost_within line is))

  change_sound : (found : Option Counted) → ((counted : Counted) → found ≡ Some counted → IsRightCounted counted) → IsSoundLine line → (change : Line) → change_of found line ≡ Some change → IsSoundLine change
  change_sound (Some counted) right is change e = counted_by (is_as_counted counted line) counted (right counted refl) is change e
  change_sound None right is change e = uncounted_by (line.quantity == 0) is change e

  counted_same : (b : Bool) (counted : Counted) (change : Line) → (if b then None else Some (recounted counted line)) ≡ Some change → change.dsd ≡ line.dsd
  counted_same true counted change e = cc (e)
  counted_same false counted change e = sym (ap (λ (l : Line). l.dsd) (some_line (recounted counted line) change e))

  uncounted_same : (b : Bool) (change : Line) → (if b then None else Some (uncounted line)) ≡ Some change → change.dsd ≡ line.dsd
  uncounted_same true change e = cc (e)
  uncounted_same false change e = sym (ap (λ (l : Line). l.dsd) (some_line (uncounted line) change e))

  change_same : (found : Option Counted) (change : Line) → change_of found line ≡ Some change → change.dsd ≡ line.dsd
  change_same (Some counted) change e = counted_same (is_as_counted counted line) counted change e
  change_same None change e = uncounted_same (line.quantity == 0) change e

-- ---- all that differ

module _ (P : Line → Type 0) where
  all_with : (change : Option Line) (changes : List Line) → ((x : Line) → change ≡ Some x → P x) → All P changes → All P (with_change change changes)
  all_with (Some x) changes here all = All-cons P x changes (here x refl) all
  all_with None changes here all = all

differing_sound : (counts : List Counted) (lines : List Line) → All IsRightCounted counts → All IsSoundLine lines → All IsSoundLine (differing counts lines)
differing_sound counts [] right all = All-nil IsSoundLine
differing_sound counts (line ∷ lines) right all =
    all_with IsSoundLine (change_of (counted_under line.dsd counts) line) (differing counts lines)
    (change_sound line (counted_under line.dsd counts) (right_under line.dsd counts right) (All-head IsSoundLine line lines all))
    (differing_sound counts lines right (All-tail IsSoundLine line lines all))

none_with : (dsd : ℕ) (change : Option Line) (changes : List Line) → ((x : Line) → change ≡ Some x → (x.dsd == dsd) ≡ false) → has_line dsd changes ≡ false → has_line dsd (with_change change changes) ≡ false
none_with dsd (Some x) changes other none = both_false (x.dsd == dsd) (has_line dsd changes) (other x refl) none
none_with dsd None changes other none = none

differing_none : (dsd : ℕ) (counts : List Counted) (lines : List Line) → has_line dsd lines ≡ false → has_line dsd (differing counts lines) ≡ false
differing_none dsd counts [] none = refl
differing_none dsd counts (line ∷ lines) none =
    let is = or_false (line.dsd == dsd) (has_line dsd lines) none in
    none_with dsd (change_of (counted_under line.dsd counts) line) (differing counts lines)
    (λ x e. ap (λ (n : ℕ). n == dsd) (change_same line (counted_under line.dsd counts) x e) ∙ is.0) (differing_none dsd counts lines is.1)

apart_with : (change : Option Line) (changes : List Line) → ((x : Line) → change ≡ Some x → has_line x.dsd changes ≡ false) → AreApart changes → AreApart (with_change change changes)
apart_with (Some x) changes none apart = (none x refl, apart)
apart_with None changes none apart = apart

differing_apart : (counts : List Counted) (lines : List Line) → AreApart lines → AreApart (differing counts lines)
differing_apart counts [] apart = tt
differing_apart counts (line ∷ lines) apart =
    apart_with (change_of (counted_under line.dsd counts) line) (differing counts lines)
    (λ x e. subst (λ (n : ℕ). has_line n (differing counts lines) ≡ false) (sym (change_same line (counted_under line.dsd counts) x e)) (differing_none line.dsd counts lines apart.0))
    (differing_apart counts lines apart.1)

-- they have numbers of the record
abbrev Has : List Line → Line → Type 0
Has lines line = has_line line.dsd lines ≡ true

differing_within : (counts : List Counted) (whole lines : List Line) → All (Has whole) lines → All (Has whole) (differing counts lines)
differing_within counts whole [] all = All-nil (Has whole)
differing_within counts whole (line ∷ lines) all =
    all_with (Has whole) (change_of (counted_under line.dsd counts) line) (differing counts lines)
    (λ x e. subst (λ (n : ℕ). has_line n whole ≡ true) (sym (change_same line (counted_under line.dsd counts) x e)) (All-head (Has whole) line lines all))
    (differing_within counts whole lines (All-tail (Has whole) line lines all))

behind : (b c : Bool) → c ≡ true → (b || c) ≡ true
behind true c e = refl
behind false c e = e

in_front : (b c : Bool) → b ≡ true → (b || c) ≡ true
in_front true c e = refl
in_front false c e = cc (e)

same_eq : (n : ℕ) → (n == n) ≡ true
same_eq n = grind (arith, nat_tests)

has_more : (first : Line) (whole lines : List Line) → All (Has whole) lines → All (Has (first ∷ whole)) lines
has_more first whole [] all = All-nil (Has (first ∷ whole))
has_more first whole (line ∷ lines) all =
    All-cons (Has (first ∷ whole)) line lines (behind (first.dsd == line.dsd) (has_line line.dsd whole) (All-head (Has whole) line lines all)) (has_more first whole lines (All-tail (Has whole) line lines all))

has_all : (lines : List Line) → All (Has lines) lines
has_all [] = All-nil (Has [])
has_all (line ∷ lines) = All-cons (Has (line ∷ lines)) line lines (in_front (line.dsd == line.dsd) (has_line line.dsd lines) (same_eq line.dsd)) (has_more line lines lines (has_all lines))

-- ---- those that the record does not have

turned : (a b : ℕ) → (a == b) ≡ false → (b == a) ≡ false
turned a b e = grind (arith, nat_tests)

equal_numbers : (a b : ℕ) → (a == b) ≡ true → a ≡ b
equal_numbers a b e = grind (arith, nat_tests)

module _ (P : Line → Type 0) where
  all_unless : (b : Bool) (new : Line) (rest : List Line) → P new → All P rest → All P (if b then rest else new ∷ rest)
  all_unless true new rest here all = all
  all_unless false new rest here all = All-cons P new rest here all

added_sound : (lines : List Line) (counts : List Counted) → All IsRightCounted counts → All IsSoundLine (added lines counts)
added_sound lines [] right = All-nil IsSoundLine
added_sound lines (counted ∷ counts) right =
    all_unless IsSoundLine (has_line counted.dsd lines) _ (added lines counts) (new_sound counted (All-head IsRightCounted counted counts right)) (added_sound lines counts (All-tail IsRightCounted counted counts right))

none_unless : (b : Bool) (dsd : ℕ) (new : Line) (rest : List Line) → (b ≡ false → (new.dsd == dsd) ≡ false) → has_line dsd rest ≡ false → has_line dsd (if b then rest else new ∷ rest) ≡ false
none_unless true dsd new rest other none = none
none_unless false dsd new rest other none = both_false (new.dsd == dsd) (has_line dsd rest) (other refl) none

added_none : (dsd : ℕ) (lines : List Line) (counts : List Counted) → is_counted dsd counts ≡ false → has_line dsd (added lines counts) ≡ false
added_none dsd lines [] none = refl
added_none dsd lines (counted ∷ counts) none =
    let is = both nat_eq turned_numbers number_of dsd counted counts none in
    none_unless (has_line counted.dsd lines) dsd _ (added lines counts) (λ e. turned dsd counted.dsd is.here) (added_none dsd lines counts is.behind)

apart_unless : (b : Bool) (new : Line) (rest : List Line) → has_line new.dsd rest ≡ false → AreApart rest → AreApart (if b then rest else new ∷ rest)
apart_unless true new rest none apart = apart
apart_unless false new rest none apart = (none, apart)

added_apart : (lines : List Line) (counts : List Counted) → AreCountedApart counts → AreApart (added lines counts)
added_apart lines [] apart = tt
added_apart lines (counted ∷ counts) apart = apart_unless (has_line counted.dsd lines) _ (added lines counts) (added_none counted.dsd lines counts apart.0) (added_apart lines counts apart.1)

other_number : (dsd number : ℕ) (lines : List Line) → has_line dsd lines ≡ true → has_line number lines ≡ false → (number == dsd) ≡ false
other_number dsd number lines has lacks = elim (cases_Bool (number == dsd)) [
  | inl same ↦ let e : false ≡ true = sym lacks ∙ ap (λ (n : ℕ). has_line n lines) (equal_numbers number dsd same) ∙ has in cc (e)
  | inr other ↦ other
]

added_beyond : (dsd : ℕ) (lines : List Line) (counts : List Counted) → has_line dsd lines ≡ true → has_line dsd (added lines counts) ≡ false
added_beyond dsd lines [] has = refl
added_beyond dsd lines (counted ∷ counts) has =
    none_unless (has_line counted.dsd lines) dsd _ (added lines counts) (other_number dsd counted.dsd lines has) (added_beyond dsd lines counts has)

-- ---- both

none_joined : (dsd : ℕ) (lines more : List Line) → has_line dsd lines ≡ false → has_line dsd more ≡ false → has_line dsd (lines ++ more) ≡ false
none_joined dsd [] more none beyond = beyond
none_joined dsd (line ∷ lines) more none beyond =
    let is = or_false (line.dsd == dsd) (has_line dsd lines) none in
    both_false (line.dsd == dsd) (has_line dsd (lines ++ more)) is.0 (none_joined dsd lines more is.1 beyond)

apart_joined : (lines more : List Line) → AreApart lines → AreApart more → All (λ (line : Line). has_line line.dsd more ≡ false) lines → AreApart (lines ++ more)
apart_joined [] more apart beyond all = beyond
apart_joined (line ∷ lines) more apart beyond all = (
  none_joined line.dsd lines more apart.0 (All-head (λ (line : Line). has_line line.dsd more ≡ false) line lines all),
  apart_joined lines more apart.1 beyond (All-tail (λ (line : Line). has_line line.dsd more ≡ false) line lines all),
)

beyond_all : (whole : List Line) (counts : List Counted) (lines : List Line) → All (Has whole) lines → All (λ (line : Line). has_line line.dsd (added whole counts) ≡ false) lines
beyond_all whole counts [] all = All-nil (λ (line : Line). has_line line.dsd (added whole counts) ≡ false)
beyond_all whole counts (line ∷ lines) all =
    All-cons (λ (line : Line). has_line line.dsd (added whole counts) ≡ false) line lines (added_beyond line.dsd whole counts (All-head (Has whole) line lines all)) (beyond_all whole counts lines (All-tail (Has whole) line lines all))

pub changes_sound : (counts : List Counted) (lines : List Line) → AreCounts counts → AreSoundLines lines → AreSoundLines (changes_of counts lines)
changes_sound counts lines are sound = record {
  sound = All-append IsSoundLine (differing counts lines) (added lines counts) (differing_sound counts lines are.right sound.sound) (added_sound lines counts are.right);
  apart = apart_joined (differing counts lines) (added lines counts) (differing_apart counts lines sound.apart) (added_apart lines counts are.apart) (beyond_all lines counts (differing counts lines) (differing_within counts lines lines (has_all lines)));
}
