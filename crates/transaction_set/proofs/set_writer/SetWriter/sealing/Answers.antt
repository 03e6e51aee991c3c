use Rattle.std.proofs.Common.{refl, subst, sym, codes}
use Rattle.dsd_values.specs.Reading.{IsElementText}
use Rattle.transaction_set.proofs.Rows.{one_element, two_elements}
use Rattle.transaction_set.proofs.set_writer.SetWriter.sealing.Goals as goal

pub row-requires : goal.row-requires
row-requires c = one_element (codes "G85") c.as_slice.result.now refl (subst IsElementText (sym c.as_slice.ensures.value) c.write_check.ensures.element)

pub row-requires-2 : goal.row-requires-2
row-requires-2 c =
    two_elements (codes "SE") c.as_slice-2.result.now c.as_slice-3.result.now refl (subst IsElementText (sym c.as_slice-2.ensures.value) c.write_plain_number-count.ensures.element)
    (subst IsElementText (sym c.as_slice-3.ensures.value) c.control_digits-control.ensures.element)
