-- What a supplier chooses is sound.
use Rattle.std.proofs.Common.{◌≡◌, ℕ, ◌==◌, bytes_eq, Bool, true, false, List, [], ◌∷◌, Option, Some, None, if◌then◌else◌, refl, arith}
use Rattle.transaction_set.specs.SoundLines.{AreSoundLines}
use Rattle.dsd_values.specs.declared.line.Line.{Line}
use Rattle.dsd_record.specs.Choices.{ChoosesSoundly, IsSoundChoice}
use Rattle.dsd_record.specs.Version.{Version}
use Rattle.dsd_record.specs.declared.choice.Choice.{Choice}
use Rattle.dsd_record.specs.declared.choice.Choice.TheVariants.{Accept, Adjust, Wait}
use Rattle.plain_lines.specs.Counting.{AreCounts}
use Rattle.plain_lines.specs.declared.counted.Counted.{Counted}
use Rattle.plain_lines.proofs.Keyed.{found_all}
use Rattle.handheld_core.specs.Choosing.{choice_by, counter_at, countered, is_within, supplier}
use Rattle.handheld_core.specs.DraftTexts.{AreDrafts, IsDraft, draft_under, number_of}
use Rattle.handheld_core.specs.declared.draft.Draft.{Draft}
use Rattle.handheld_core.proofs.Countered.{counters_sound}

countering : (b : Bool) (lines : List Line) (counted : Counted) (counters : List Counted) → AreSoundLines (countered lines (counted ∷ counters)) → IsSoundChoice (if b then Adjust (countered lines (counted ∷ counters)) else Wait)
countering true lines counted counters sound = (omega arith, sound)
countering false lines counted counters sound = tt

counter_sound : (level : ℕ) (lines : List Line) (counters : List Counted) → AreCounts counters → AreSoundLines lines → IsSoundChoice (counter_at level lines counters)
counter_sound level lines [] are sound = tt
counter_sound level lines (counted ∷ counters) are sound = countering (level == 1) lines counted counters (counters_sound (counted ∷ counters) lines are sound)

accepting : (b : Bool) (choice : Choice) → IsSoundChoice choice → IsSoundChoice (if b then Accept else choice)
accepting true choice sound = tt
accepting false choice sound = sound

by_sound : (under : Option Draft) (version : Version) (own : Option ℕ) → ((draft : Draft) → under ≡ Some draft → IsDraft draft) → AreSoundLines version.lines → IsSoundChoice (choice_by under version own)
by_sound (Some draft) version (Some own) right sound =
    accepting (is_within draft.tolerance own version.totals.amount) (counter_at version.level version.lines draft.counters) (counter_sound version.level version.lines draft.counters (right draft refl).counters sound)
by_sound (Some draft) version None right sound = tt
by_sound None version own right sound = tt

pub chooses_soundly : (drafts : List Draft) → AreDrafts drafts → ChoosesSoundly (supplier drafts)
chooses_soundly drafts are version own_amount sound = by_sound (draft_under version.number drafts) version own_amount (found_all bytes_eq number_of IsDraft version.number drafts are.each) sound
