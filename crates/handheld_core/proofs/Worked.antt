-- Worked texts.
use Rattle.std.proofs.Common.{◌≡◌, List, [], ◌∷◌, Ok, Err, codes, refl}
use Rattle.dsd_values.specs.Reading.{decimal_value}
use Rattle.dsd_values.specs.declared.fault.ValueFault.TheVariants.{NoSuchDay, OutOfRange}
use Rattle.dsd_record.specs.declared.draft_fault.DraftFault.TheVariants.{Refused}
use Rattle.dsd_record.specs.declared.draft_fault.DraftReason.TheVariants as reasons
use Rattle.handheld_core.specs.Reading.{draft_step, drafts_of}
use Rattle.plain_lines.specs.PlainText.{text_of}
use Rattle.handheld_core.specs.Worked.{draft_with}

pub flag : drafts_of (text_of (codes "DRAFT 1 X 20240229 - - - -" ∷ [])) ≡ Err (Refused 0 (reasons.Value 2 OutOfRange))
unfolding draft_step decimal_value
flag = refl

pub day : drafts_of (text_of (codes "DRAFT 1 D 20230229 - - - -" ∷ [])) ≡ Err (Refused 0 (reasons.Value 3 NoSuchDay))
unfolding draft_step decimal_value
day = refl

pub ends : drafts_of (codes "DRAFT 1 D 20240229 - - - -") ≡ Err (Refused 0 reasons.Words)
unfolding draft_step decimal_value
ends = refl

pub inside : drafts_of (draft_with []) ≡ Err (Refused 50 reasons.Line)
unfolding draft_step decimal_value
inside = refl

pub spaces : drafts_of (draft_with (codes "ITEM 1 12 EA  1.25" ∷ [])) ≡ Err (Refused 50 reasons.Words)
unfolding draft_step decimal_value
spaces = refl

pub twice : drafts_of (draft_with (codes "ITEM 1 12 EA - 1.25" ∷ codes "ITEM 1 3 EA - 1" ∷ [])) ≡ Err (Refused 70 reasons.Twice)
unfolding draft_step decimal_value
twice = refl

pub behind : drafts_of (draft_with (codes "ITEM 1 12 EA - 1.25" ∷ codes "COUNTER 1 1 1" ∷ codes "ITEM 2 1 EA - 1" ∷ [])) ≡ Err (Refused 84 reasons.Line)
unfolding draft_step decimal_value
behind = refl

pub rate : drafts_of (draft_with (codes "ALLOW 90 02 R x" ∷ [])) ≡ Err (Refused 50 (reasons.Value 3 OutOfRange))
unfolding draft_step decimal_value
rate = refl

pub price : drafts_of (draft_with (codes "ALLOW 90 02 T 1" ∷ codes "END" ∷ [])) ≡ Err (Refused 66 reasons.Price)
unfolding draft_step decimal_value
price = refl

pub none : drafts_of [] ≡ Ok []
unfolding draft_step decimal_value
none = refl
