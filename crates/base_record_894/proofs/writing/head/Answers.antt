use Rattle.std.proofs.Common.{◌∙◌, ap}
use Rattle.dsd_values.specs.Spelling.{flag_text}
use Rattle.base_record_894.proofs.writing.head.Goals as goal

pub row-requires : goal.row-requires
row-requires c =
    let flag = c.as_slice.ensures ∙ c.flag_letter.ensures ∙ ap flag_text c.flag.ensures in
    rw (c.head_id.ensures, flag, c.as_slice-2.ensures.value, c.number.ensures, c.as_slice-3.ensures.value, c.receiver_duns.ensures, c.as_slice-4.ensures.value, c.receiver_place.ensures, c.as_slice-5.ensures.value, c.supplier_duns.ensures, c.as_slice-6.ensures.value, c.supplier_place.ensures, c.as_slice-7.ensures.value, c.write_day-day.ensures.text, c.day.ensures, c.as_slice-8.ensures.value, c.tail.ensures) c.requires
