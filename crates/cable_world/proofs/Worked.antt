-- Worked texts of scripts.
use Rattle.std.proofs.Common.{◌≡◌, [], ◌∷◌, ◌++◌, Err, codes, refl}
use Rattle.dsd_values.specs.Reading.{decimal_value}
use Rattle.dsd_values.specs.declared.fault.ValueFault.TheVariants.{Empty, NotDigit, OutOfRange}
use Rattle.dsd_record.specs.declared.draft_fault.DraftFault.TheVariants.{Refused}
use Rattle.dsd_record.specs.declared.draft_fault.DraftReason.TheVariants as reasons
use Rattle.hex.specs.Hex.{decode_pairs}
use Rattle.plain_lines.specs.PlainText.{text_of}
use Rattle.handheld_core.specs.Reading.{draft_step}
use Rattle.receiver_core.specs.Reading.{count_step}
use Rattle.cable_world.specs.Reading.{script_of, script_step}
use Rattle.cable_world.specs.Worked.{script_with, two_ends}

pub odd : script_of (script_with (codes "HEAR R 053" ∷ [])) ≡ Err (Refused 83 (reasons.Value 2 OutOfRange))
unfolding script_step draft_step count_step decode_pairs decimal_value
odd = refl

pub dash : script_of (script_with (codes "HEAR R -" ∷ [])) ≡ Err (Refused 83 (reasons.Value 2 Empty))
unfolding script_step draft_step count_step decode_pairs decimal_value
dash = refl

pub digit : script_of (script_with (codes "HEAR R 0g" ∷ [])) ≡ Err (Refused 83 (reasons.Value 2 (NotDigit 1)))
unfolding script_step draft_step count_step decode_pairs decimal_value
digit = refl

pub end : script_of (script_with (codes "START R" ∷ codes "START S" ∷ [])) ≡ Err (Refused 91 (reasons.Value 1 OutOfRange))
unfolding script_step draft_step count_step decode_pairs decimal_value
end = refl

pub times : script_of (script_with (codes "QUIET R 101" ∷ [])) ≡ Err (Refused 83 (reasons.Value 2 OutOfRange))
unfolding script_step draft_step count_step decode_pairs decimal_value
times = refl

pub words : script_of (script_with (codes "LOSE 1" ∷ [])) ≡ Err (Refused 83 reasons.Words)
unfolding script_step draft_step count_step decode_pairs decimal_value
words = refl

pub line : script_of (script_with (codes "WAIT" ∷ [])) ≡ Err (Refused 83 reasons.Line)
unfolding script_step draft_step count_step decode_pairs decimal_value
line = refl

pub inside : script_of (text_of (two_ends ++ codes "DRAFTS" ∷ codes "COUNTS" ∷ [])) ≡ Err (Refused 76 reasons.Line)
unfolding script_step draft_step count_step decode_pairs decimal_value
inside = refl

pub order : script_of (text_of (two_ends ++ codes "COUNTS" ∷ [])) ≡ Err (Refused 62 reasons.Line)
unfolding script_step draft_step count_step decode_pairs decimal_value
order = refl

pub none : script_of [] ≡ Err (Refused 0 reasons.Line)
unfolding script_step draft_step count_step decode_pairs decimal_value
none = refl
