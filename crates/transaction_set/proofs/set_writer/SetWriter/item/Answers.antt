use Rattle.transaction_set.proofs.set_writer.SetWriter.item.Goals as goal

pub row-requires : goal.row-requires
row-requires c =
    rw (c.item_id.ensures, c.as_slice.ensures.value, c.write_dsd.ensures.text, c.as_slice-2.ensures.value, c.write_quantity.ensures.text, c.as_slice-3.ensures.value, c.as_slice-4.ensures.value, c.qualifier.ensures, c.id.ensures, c.case_code.ensures, c.as_slice-5.ensures.value, c.write_cost.ensures.text, c.pack.ensures, c.label.ensures, c.as_slice-6.ensures.value) c.requires
