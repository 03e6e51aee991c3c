-- The text that is written of an answer: its rows, sealed with a control number, and why it is not written (this project's profile).
use Rattle.std.specs.Prelude.{ℕ, List, [], ◌∷◌, ◌++◌, map, codes, Result}
use Rattle.block_check.specs.Crc16.{crc_of}
use Rattle.dsd_values.specs.Spelling.{flag_text, role_text}
use Rattle.dsd_values.specs.Writing.{check_text, number_text}
use Rattle.dsd_pricing.specs.WholeText.{unless_too_long, whole}
use Rattle.dsd_pricing.specs.declared.fault.WriteFault.{WriteFault}
use Rattle.transaction_set.specs.RowsWritten.{first_long}
use Rattle.segments.specs.SegmentWriting.{text_of}
use Rattle.transaction_set.specs.SetWriting.{Row, body_rows, control_text, kept_row, row_of, sealed, start_row}
use Rattle.transaction_set.specs.declared.kind.Form.TheVariants as forms
use Rattle.transaction_set.specs.declared.seal.Seal.{Seal}
use Rattle.transaction_set.specs.declared.stated.StatedTotals.{StatedTotals}
use Rattle.adjustment_895.specs.AnswerRecord.{AnswerRecord}
use Rattle.adjustment_895.specs.Grammar.{notes}

-- G87: the head
abbrev pub head_elements : AnswerRecord → List (List ℕ)
head_elements answer =
    role_text answer.role ∷ flag_text answer.flag ∷ answer.number ∷ check_text answer.check ∷ number_text answer.level ∷ answer.receiver_number ∷ []

abbrev pub head_row : AnswerRecord → Row
head_row answer = row_of (codes "G87") (head_elements answer) []

-- G88, where there is a note
abbrev pub note_rows : AnswerRecord → List Row
note_rows answer = map kept_row (notes answer.note)

-- the totals as it states them, whatever its rows come to
abbrev pub stated_totals : AnswerRecord → StatedTotals
stated_totals answer = record { quantity = answer.quantity; amount = answer.amount; deposit = answer.deposit }

-- the rows behind the note, up to the integrity value
abbrev pub later_rows : AnswerRecord → List Row
later_rows answer = body_rows forms.Answer answer.lines [] (stated_totals answer) answer.signature

-- all rows up to the integrity value, and all rows
abbrev pub opened_rows : AnswerRecord → ℕ → List Row
opened_rows answer control = start_row forms.Answer control ∷ head_row answer ∷ (note_rows answer ++ later_rows answer)

abbrev pub rows_of : AnswerRecord → ℕ → List Row
rows_of answer control = sealed (opened_rows answer control) control

-- what ties the answer to the text that is written of it
abbrev pub seal_of : AnswerRecord → ℕ → Seal
seal_of answer control = record { control = control_text control; check = crc_of (text_of (opened_rows answer control)) }

-- What is answered: each segment is judged, and then the whole length.
abbrev pub written_of : AnswerRecord → ℕ → Result (List ℕ) WriteFault
written_of answer control = whole (unless_too_long (first_long (rows_of answer control)) (text_of (rows_of answer control)))
