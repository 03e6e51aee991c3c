-- The lines that a proposal is countered with are sound and apart.
use Rattle.std.proofs.Common.{◌≡◌, ℕ, ◌==◌, nat_eq, Bool, true, false, List, [], ◌∷◌, Option, Some, None, if◌then◌else◌, refl, subst, arith}
use Rattle.std.specs.List.{All}
use Rattle.std.proofs.lemmas.Bool.Decides.{nat_tests}
use Rattle.std.proofs.lemmas.List.Elements.{All-cons, All-head, All-nil, All-tail}
use Rattle.dsd_values.specs.declared.line.Line.{Line}
use Rattle.dsd_record.specs.LineChanges.{line_under}
use Rattle.transaction_set.specs.Grammar.{AreApart}
use Rattle.transaction_set.specs.Reasons.{has_line}
use Rattle.transaction_set.specs.SoundLines.{AreSoundLines, IsSoundLine}
use Rattle.transaction_set.proofs.Small.{both_false}
use Rattle.transaction_set.proofs.Sounding.{counted_line}
use Rattle.plain_lines.specs.Counting.{AreCountedApart, AreCounts, IsRightCounted, is_counted, number_of}
use Rattle.plain_lines.specs.declared.counted.Counted.{Counted}
use Rattle.plain_lines.proofs.Counts.{new_sound}
use Rattle.plain_lines.proofs.Keyed.{both, turned_numbers}
use Rattle.handheld_core.specs.Choosing.{counter_by, countered}

equal_numbers : (a b : ℕ) → (a == b) ≡ true → a ≡ b
equal_numbers a b e = grind (arith, nat_tests)

-- what is found under a number is one of the lines, with that number
record IsFound (P : Line → Type 0) (dsd : ℕ) (line : Line) : Type 0 where
  there : P line
  same : dsd ≡ line.dsd

module _ (P : Line → Type 0) where
  found_by : (b : Bool) (first : Line) (dsd : ℕ) (lines : List Line) (line : Line) → (dsd == first.dsd) ≡ b → P first → (line_under dsd lines ≡ Some line → IsFound P dsd line)
      → (if b then Some first else line_under dsd lines) ≡ Some line → IsFound P dsd line
  found_by true first dsd lines line test here behind e =
      let same : first ≡ line = cc (e) in subst (IsFound P dsd) same (record { there = here; same = equal_numbers dsd first.dsd test })
  found_by false first dsd lines line test here behind e = behind e

  found : (dsd : ℕ) (lines : List Line) → All P lines → (line : Line) → line_under dsd lines ≡ Some line → IsFound P dsd line
  found dsd [] all line e = cc (e)
  found dsd (first ∷ lines) all line e = found_by (dsd == first.dsd) first dsd lines line refl (All-head P first lines all) (found dsd lines (All-tail P first lines all) line) e

sound_by : (under : Option Line) (counted : Counted) → IsRightCounted counted → ((line : Line) → under ≡ Some line → IsFound IsSoundLine counted.dsd line) → IsSoundLine (counter_by under counted)
sound_by (Some line) counted right is = counted_line line counted.quantity counted.cost (is line refl).there right.quantity right.cost
sound_by None counted right is = new_sound counted right

same_by : (under : Option Line) (counted : Counted) → ((line : Line) → under ≡ Some line → IsFound IsSoundLine counted.dsd line) → counted.dsd ≡ (counter_by under counted).dsd
same_by (Some line) counted is = (is line refl).same
same_by None counted is = refl

module _ (lines : List Line) (sound : All IsSoundLine lines) where
  all_sound : (counters : List Counted) → All IsRightCounted counters → All IsSoundLine (countered lines counters)
  all_sound [] right = All-nil IsSoundLine
  all_sound (counted ∷ counters) right =
      All-cons IsSoundLine (counter_by (line_under counted.dsd lines) counted) (countered lines counters)
      (sound_by (line_under counted.dsd lines) counted (All-head IsRightCounted counted counters right) (found IsSoundLine counted.dsd lines sound)) (all_sound counters (All-tail IsRightCounted counted counters right))

  none_countered : (dsd : ℕ) (counters : List Counted) → is_counted dsd counters ≡ false → has_line dsd (countered lines counters) ≡ false
  none_countered dsd [] none = refl
  none_countered dsd (counted ∷ counters) none =
      let is = both nat_eq turned_numbers number_of dsd counted counters none in
      let same = same_by (line_under counted.dsd lines) counted (found IsSoundLine counted.dsd lines sound) in
      both_false ((counter_by (line_under counted.dsd lines) counted).dsd == dsd) (has_line dsd (countered lines counters))
      (subst (λ (n : ℕ). (n == dsd) ≡ false) same (turned_numbers dsd counted.dsd is.here)) (none_countered dsd counters is.behind)

  all_apart : (counters : List Counted) → AreCountedApart counters → AreApart (countered lines counters)
  all_apart [] apart = tt
  all_apart (counted ∷ counters) apart =
      let same = same_by (line_under counted.dsd lines) counted (found IsSoundLine counted.dsd lines sound) in
      (subst (λ (n : ℕ). has_line n (countered lines counters) ≡ false) same (none_countered counted.dsd counters apart.0), all_apart counters apart.1)

pub counters_sound : (counters : List Counted) (lines : List Line) → AreCounts counters → AreSoundLines lines → AreSoundLines (countered lines counters)
counters_sound counters lines are sound = record { sound = all_sound lines sound.sound counters are.right; apart = all_apart lines sound.sound counters are.apart }
