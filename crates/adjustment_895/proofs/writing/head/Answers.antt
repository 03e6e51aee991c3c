use Rattle.std.proofs.Common.{◌∙◌, ap}
use Rattle.dsd_values.specs.Spelling.{flag_text, role_text}
use Rattle.adjustment_895.proofs.writing.head.Goals as goal

pub row-requires : goal.row-requires
row-requires c =
    let role = c.as_slice.ensures ∙ c.role_letter.ensures ∙ ap role_text c.role.ensures in
    let flag = c.as_slice-2.ensures ∙ c.flag_letter.ensures ∙ ap flag_text c.flag.ensures in
    rw (c.head_id.ensures, role, flag, c.as_slice-3.ensures.value, c.number.ensures, c.as_slice-4.ensures.value, c.write_check-check.ensures.text, c.check.ensures, c.as_slice-5.ensures.value, c.write_level-level.ensures.text, c.level.ensures, c.as_slice-6.ensures.value, c.receiver_number.ensures) c.requires
