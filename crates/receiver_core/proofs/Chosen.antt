-- What a receiver chooses is sound.
use Rattle.std.proofs.Common.{◌≡◌, ℕ, ◌==◌, nat_le, bytes_eq, ◌&&◌, Bool, true, false, List, [], ◌∷◌, Option, Some, None, if◌then◌else◌, refl, arith}
use Rattle.dsd_values.specs.declared.line.Line.{Line}
use Rattle.transaction_set.specs.SoundLines.{AreSoundLines}
use Rattle.dsd_record.specs.Choices.{ChoosesSoundly, IsSoundChoice}
use Rattle.dsd_record.specs.Version.{Version}
use Rattle.dsd_record.specs.declared.choice.Choice.TheVariants.{Accept, Adjust, Wait}
use Rattle.plain_lines.specs.Counting.{AreCounts as AreRight}
use Rattle.plain_lines.proofs.Keyed.{found_all}
use Rattle.receiver_core.specs.Choosing.{changes_of, choice_by, choice_with, receiver}
use Rattle.receiver_core.specs.CountTexts.{AreCounts, count_under, number_of}
use Rattle.receiver_core.specs.declared.count.Count.{Count}
use Rattle.receiver_core.proofs.Differing.{changes_sound}

later : (b : Bool) (change : Line) (changes : List Line) → AreSoundLines (change ∷ changes) → IsSoundChoice (if b then Adjust (change ∷ changes) else Wait)
later true change changes sound = (omega arith, sound)
later false change changes sound = tt

sooner : (b c : Bool) (change : Line) (changes : List Line) → AreSoundLines (change ∷ changes) → IsSoundChoice (if b then Accept else (if c then Adjust (change ∷ changes) else Wait))
sooner true c change changes sound = tt
sooner false c change changes sound = later c change changes sound

with_sound : (changes : List Line) (counters : Bool) (level : ℕ) → AreSoundLines changes → IsSoundChoice (choice_with changes counters level)
with_sound [] counters level sound = tt
with_sound (change ∷ changes) counters level sound = sooner (counters && nat_le 2 level) (level == 0) change changes sound

by_sound : (found : Option Count) (version : Version) → ((count : Count) → found ≡ Some count → AreRight count.lines) → AreSoundLines version.lines → IsSoundChoice (choice_by found version)
by_sound (Some count) version right sound = with_sound (changes_of count.lines version.lines) count.counters version.level (changes_sound count.lines version.lines (right count refl) sound)
by_sound None version right sound = tt

pub chooses_soundly : (counts : List Count) → AreCounts counts → ChoosesSoundly (receiver counts)
chooses_soundly counts are version own_amount sound =
    by_sound (count_under version.number counts) version (found_all bytes_eq number_of (λ (count : Count). AreRight count.lines) version.number counts are.each) sound
