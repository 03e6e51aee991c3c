-- The text that is written of a base record: its rows, sealed with a control number, and why it is not written (this project's profile).
use Rattle.std.specs.Prelude.{ℕ, List, [], ◌∷◌, ◌++◌, map, codes, Result, Ok, Err}
use Rattle.block_check.specs.Crc16.{crc_of}
use Rattle.dsd_values.specs.Spelling.{flag_text}
use Rattle.dsd_values.specs.Writing.{day_text}
use Rattle.dsd_pricing.specs.Pricing.{quantities, totals_of}
use Rattle.dsd_pricing.specs.WholeText.{unless_too_long, whole}
use Rattle.dsd_pricing.specs.declared.amounts.Totals.{Totals}
use Rattle.dsd_pricing.specs.declared.fault.PriceFault.{PriceFault}
use Rattle.dsd_pricing.specs.declared.fault.WriteFault.{WriteFault}
use Rattle.dsd_pricing.specs.declared.fault.WriteFault.TheVariants.{Price}
use Rattle.transaction_set.specs.RowsWritten.{first_long}
use Rattle.segments.specs.SegmentWriting.{text_of}
use Rattle.transaction_set.specs.SetWriting.{Row, body_rows, control_text, kept_row, row_of, sealed, start_row}
use Rattle.transaction_set.specs.declared.kind.Form.TheVariants as forms
use Rattle.transaction_set.specs.declared.seal.Seal.{Seal}
use Rattle.transaction_set.specs.declared.stated.StatedTotals.{StatedTotals}
use Rattle.base_record_894.specs.BaseRecord.{BaseRecord, amount_of}

-- G82: the head
abbrev pub head_elements : BaseRecord → List (List ℕ)
head_elements base =
    flag_text base.flag ∷ base.number ∷ base.receiver_duns ∷ base.receiver_place ∷ base.supplier_duns ∷ base.supplier_place ∷ day_text base.day ∷ []

abbrev pub head_row : BaseRecord → Row
head_row base = row_of (codes "G82") (head_elements base) base.tail

-- the totals that it states: those of its rows
abbrev pub stated_totals : BaseRecord → StatedTotals
stated_totals base = record { quantity = quantities base.lines; amount = amount_of base; deposit = base.deposit }

-- the rows behind the references, up to the integrity value
abbrev pub later_rows : BaseRecord → List Row
later_rows base = body_rows forms.Base base.lines base.extras (stated_totals base) base.signature

-- all rows up to the integrity value, and all rows
abbrev pub opened_rows : BaseRecord → ℕ → List Row
opened_rows base control = start_row forms.Base control ∷ head_row base ∷ (map kept_row base.references ++ later_rows base)

abbrev pub rows_of : BaseRecord → ℕ → List Row
rows_of base control = sealed (opened_rows base control) control

-- what ties the record to the text that is written of it
abbrev pub seal_of : BaseRecord → ℕ → Seal
seal_of base control = record { control = control_text control; check = crc_of (text_of (opened_rows base control)) }

-- ---- what is answered

-- the price comes first
abbrev pub after_price : Result Totals PriceFault → Result (List ℕ) WriteFault → Result (List ℕ) WriteFault
after_price (Ok totals) written = written
after_price (Err fault) written = Err (Price fault)

-- then each segment is judged, and then the whole length
abbrev pub written_of : BaseRecord → ℕ → Result (List ℕ) WriteFault
written_of base control =
    after_price (totals_of base.lines base.extras) (whole (unless_too_long (first_long (rows_of base control)) (text_of (rows_of base control))))
