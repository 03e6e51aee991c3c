-- The rows that are written of a set, and of the lines in it: a row is the id and the elements of one segment. Numbers, days and checks
-- stand in the one text that is written of each; the loop's id and the form of the control number are this project's profile.
use Rattle.std.specs.Prelude.{ℕ, ◌+◌, ◌-◌, List, [], ◌∷◌, ◌++◌, length, map, replicate, codes, Option, Some, None}
use Rattle.std.specs.List.{after_first, before_first, flat_map, slice_split}
use Rattle.block_check.specs.Crc16.{crc_of}
use Rattle.dsd_values.specs.Writing.{check_text, cost_text, number_text, percent_text}
use Rattle.dsd_values.specs.declared.allowance.Allowance.{Allowance}
use Rattle.dsd_values.specs.declared.extra.Extra.{Extra}
use Rattle.dsd_values.specs.declared.extra.Extra.TheVariants.{Allow, Note}
use Rattle.dsd_values.specs.declared.line.Line.{Line}
use Rattle.dsd_values.specs.SignatureRecord.{SignatureRecord}
use Rattle.transaction_set.specs.Kinds.{item_id, set_code}
use Rattle.segments.specs.SegmentSpelling.{is_star}
use Rattle.segments.specs.SegmentWriting.{text_of}
use Rattle.transaction_set.specs.declared.kind.Form.{Form}
use Rattle.transaction_set.specs.declared.stated.StatedTotals.{StatedTotals}

abbrev pub Row : Type 0
Row = List (List ℕ)

-- ---- elements

-- the elements of a text in which stars part them; the empty text has none
abbrev pub parted : List ℕ → List (List ℕ)
parted [] = []
parted (byte ∷ more) = slice_split is_star (byte ∷ more)

-- an id, these elements, and those of a tail as it is kept
abbrev pub row_of : List ℕ → List (List ℕ) → List ℕ → Row
row_of id elements tail = id ∷ (elements ++ parted tail)

-- a value that may be left out has the empty element then
abbrev pub optional_text : {V : Type 0} → (V → List ℕ) → Option V → List ℕ
optional_text text (Some value) = text value
optional_text text None = []

-- a control number in digits, at least four of them
abbrev pub control_text : ℕ → List ℕ
control_text control = replicate (4 - length (number_text control)) 48 ++ number_text control

-- the id of the loop of items
abbrev pub loop_id : List ℕ
loop_id = codes "0100"

-- ---- the rows

-- ST: the number of the set, and the control number
abbrev pub start_row : Form → ℕ → Row
start_row form control = row_of (codes "ST") (set_code form ∷ control_text control ∷ []) []

-- N9, G88, G22 and G23, which are kept as they came
abbrev pub kept_row : List ℕ → Row
kept_row text = row_of (before_first is_star text) [] (after_first is_star text)

-- G83 and G89: a line
abbrev pub item_elements : Line → List (List ℕ)
item_elements line =
    number_text line.dsd ∷ number_text line.quantity ∷ line.unit ∷ line.upc ∷ line.details.qualifier ∷ line.details.id ∷ line.details.case_code ∷ cost_text line.cost ∷ line.details.pack ∷ line.details.label ∷ []

abbrev pub item_row : Form → Line → Row
item_row form line = row_of (item_id form) (item_elements line) line.tail

-- G72: an allowance
abbrev pub allowance_elements : Allowance → List (List ℕ)
allowance_elements allowance =
    allowance.code ∷ allowance.method ∷ allowance.number ∷ allowance.exception ∷ optional_text cost_text allowance.rate ∷ optional_text number_text allowance.quantity
    ∷ allowance.unit ∷ optional_text number_text allowance.total ∷ optional_text percent_text allowance.percent ∷ []

abbrev pub allowance_row : Allowance → Row
allowance_row allowance = row_of (codes "G72") (allowance_elements allowance) allowance.tail

abbrev pub extra_row : Extra → Row
extra_row (Allow allowance) = allowance_row allowance
extra_row (Note text) = kept_row text

-- an item, and the extras behind it
abbrev pub line_rows : Form → Line → List Row
line_rows form line = item_row form line ∷ map extra_row line.extras

-- LS and LE: the id of their loop
abbrev pub loop_start_row : Row
loop_start_row = row_of (codes "LS") (loop_id ∷ []) []

abbrev pub loop_end_row : Row
loop_end_row = row_of (codes "LE") (loop_id ∷ []) []

-- a loop where there are lines
abbrev pub loop_rows : Form → List Line → List Row
loop_rows form [] = []
loop_rows form (line ∷ lines) = loop_start_row ∷ (flat_map (line_rows form) (line ∷ lines) ++ loop_end_row ∷ [])

-- G84: the totals
abbrev pub totals_row : StatedTotals → Row
totals_row totals = row_of (codes "G84") (number_text totals.quantity ∷ number_text totals.amount ∷ optional_text number_text totals.deposit ∷ []) []

-- G86: the signature
abbrev pub signature_row : SignatureRecord → Row
signature_row signature = row_of (codes "G86") (signature.mark ∷ signature.name ∷ []) []

-- G85: the CRC-16 of the text of the rows before it
abbrev pub integrity_row : List ℕ → Row
integrity_row before = row_of (codes "G85") (check_text (crc_of before) ∷ []) []

-- SE: how many rows the set has with ST and SE, and the control number again
abbrev pub trailer_row : ℕ → ℕ → Row
trailer_row count control = row_of (codes "SE") (number_text count ∷ control_text control ∷ []) []

-- ---- the set

-- what stands between the references and the integrity value
abbrev pub body_rows : Form → List Line → List Extra → StatedTotals → SignatureRecord → List Row
body_rows form lines extras totals signature = loop_rows form lines ++ (map extra_row extras ++ totals_row totals ∷ signature_row signature ∷ [])

-- the integrity value and the trailer, behind so many rows of this text
abbrev pub sealing_rows : List ℕ → ℕ → ℕ → List Row
sealing_rows before count control = integrity_row before ∷ trailer_row (count + 2) control ∷ []

-- these rows, and what seals them
abbrev pub sealed : List Row → ℕ → List Row
sealed rows control = rows ++ sealing_rows (text_of rows) (length rows) control
