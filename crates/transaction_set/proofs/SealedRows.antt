-- Rows that are sealed: their check and their number are small, and their text is that of their segments.
use Rattle.std.proofs.Common.{◌≡◌, ℕ, zero, suc, ◌+◌, ◌/◌, ◌%◌, ◌^◌, ◌<◌, ◌≤◌, ◌==◌, true, bit_xor, nat_lt, List, [], ◌∷◌, length, codes, Some, None, lit<, refl, ◌∙◌, ap, arith, inl, inr, length-append}
use Rattle.std.specs.List.{All, join_with_byte}
use Rattle.std.proofs.lemmas.Bool.{cases_Bool}
use Rattle.std.proofs.lemmas.Bool.Decides.{nat_tests}
use Rattle.std.proofs.lemmas.List.Elements.{All-append, All-cons, All-head, All-nil, All-tail}
use Rattle.std.proofs.lemmas.Nat.{xor_of_16}
use Rattle.block_check.specs.Crc16.{crc_bit, crc_bits, crc_from, crc_of, crc_step}
use Rattle.dsd_values.proofs.Again.{check_again, decimal_text_element}
use Rattle.dsd_values.specs.Writing.{check_text, number_text}
use Rattle.transaction_set.specs.RowsWritten.{first_long}
use Rattle.segments.specs.SegmentSpelling.{IsPart, IsSegment, is_element_character}
use Rattle.segments.specs.SegmentWriting.{IsLine, line_of, text_of, without_empty_end}
use Rattle.transaction_set.specs.SetWriting.{Row, control_text, integrity_row, sealed, sealing_rows, trailer_row}
use Rattle.segments.specs.declared.segment_write_fault.TheConstants.{SEGMENT_WRITTEN}
use Rattle.segments.specs.declared.segment_writer.TheConstants.{MOST_CONTROL_NUMBER}
use Rattle.transaction_set.proofs.ControlNumbers.{control_element}
use Rattle.segments.proofs.EmptyEnds.{trim_all}
use Rattle.transaction_set.proofs.Rows.{one_element, text_of-append, two_elements}
use Rattle.transaction_set.proofs.RowsShape.{IsSealable}

-- ---- a check has sixteen bits

abbrev IsSmall : ℕ → Type 0
IsSmall n = n < 2 ^ 16

bit_small : (n : ℕ) → IsSmall n → IsSmall (crc_bit n)
unfolding crc_bit
bit_small n small =
    elim (cases_Bool (n % 2 == 1)) [
      | inl odd ↦ rw odd (xor_of_16 (n / 2) 0xA001 (omega arith) (lit< tt))
      | inr even ↦ rw even (omega arith)
    ]

bits_small : (k n : ℕ) → IsSmall n → IsSmall (crc_bits k n)
unfolding crc_bits
bits_small zero n small = small
bits_small (suc k) n small = bits_small k (crc_bit n) (bit_small n small)

step_small : (check byte : ℕ) → IsSmall check → IsSmall byte → IsSmall (crc_step check byte)
unfolding crc_step
step_small check byte c b = bits_small 8 (bit_xor check byte) (xor_of_16 check byte c b)

pub check_small : (check : ℕ) (bytes : List ℕ) → IsSmall check → All IsSmall bytes → IsSmall (crc_from check bytes)
check_small check [] c h = c
check_small check (byte ∷ bytes) c h = check_small (crc_step check byte) bytes (step_small check byte c (All-head IsSmall byte bytes h)) (All-tail IsSmall byte bytes h)

character_small : (byte : ℕ) → is_element_character byte ≡ true → IsSmall byte
character_small byte h = grind (arith, nat_tests)

part_small : (part : List ℕ) → IsPart part → All IsSmall part
part_small part h = λ k d inside. character_small _ (h k d inside)

joined_small : (parts : List (List ℕ)) → All IsPart parts → All IsSmall (join_with_byte 42 parts)
joined_small [] h = All-nil IsSmall
joined_small (part ∷ []) h = part_small part (All-head IsPart part [] h)
joined_small (part ∷ next ∷ more) h =
    All-append IsSmall part (42 ∷ join_with_byte 42 (next ∷ more)) (part_small part (All-head IsPart part (next ∷ more) h))
    (All-cons IsSmall 42 (join_with_byte 42 (next ∷ more)) (lit< tt) (joined_small (next ∷ more) (All-tail IsPart part (next ∷ more) h)))

line_small : (row : Row) → IsSegment row → All IsSmall (line_of row)
line_small row s =
    All-append IsSmall (join_with_byte 42 (without_empty_end row)) (13 ∷ 10 ∷ []) (joined_small (without_empty_end row) (trim_all IsPart row s.characters))
    (All-cons IsSmall 13 (10 ∷ []) (lit< tt) (All-cons IsSmall 10 [] (lit< tt) (All-nil IsSmall)))

text_small : (rows : List Row) → All IsSegment rows → All IsSmall (text_of rows)
text_small [] h = All-nil IsSmall
text_small (row ∷ rows) h =
    All-append IsSmall (line_of row) (text_of rows) (line_small row (All-head IsSegment row rows h)) (text_small rows (All-tail IsSegment row rows h))

pub rows_check_small : (rows : List Row) → All IsSegment rows → crc_of (text_of rows) < 2 ^ 16
rows_check_small rows h = check_small 0 (text_of rows) (lit< tt) (text_small rows h)

-- ---- rows and bytes

pub rows_few : (rows : List Row) → length rows ≤ length (text_of rows)
rows_few [] = omega arith
rows_few (row ∷ rows) =
    let line = length-append (join_with_byte 42 (without_empty_end row)) (13 ∷ 10 ∷ []) in
    omega (arith, rows_few rows, length-append (line_of row) (text_of rows))

-- ---- the rows are lines

short_row : (row : Row) (rows : List Row) → first_long (row ∷ rows) ≡ None → (length (line_of row) ≤ SEGMENT_WRITTEN) × (first_long rows ≡ None)
short_row row rows e =
    elim (cases_Bool (nat_lt SEGMENT_WRITTEN (length (line_of row)))) [
      | inl long ↦ let no : Some (length (line_of row)) ≡ None = rw long at e in cc
      | inr short ↦ (grind (arith, nat_tests), rw short at e)
    ]

pub are_lines : (rows : List Row) → All IsSegment rows → first_long rows ≡ None → All IsLine rows
are_lines [] h e = All-nil IsLine
are_lines (row ∷ rows) h e =
    let short = short_row row rows e in
    All-cons IsLine row rows (record { segment = All-head IsSegment row rows h; short = short.0 }) (are_lines rows (All-tail IsSegment row rows h) short.1)

pub sealing_segments : (opened : List Row) (control : ℕ) → IsSealable opened control → All IsSegment (sealing_rows (text_of opened) (length opened) control)
sealing_segments opened control s =
    let small = s.small in
    let count = s.count in
    let check : List ℕ = check_text (crc_of (text_of opened)) in
    let trailer : Row = trailer_row (length opened + 2) control in
    All-cons IsSegment (integrity_row (text_of opened)) (trailer ∷ []) (one_element (codes "G85") check refl (check_again (crc_of (text_of opened)) s.check).element)
    (All-cons IsSegment trailer [] (two_elements (codes "SE") (number_text (length opened + 2)) (control_text control) refl (decimal_text_element (length opened + 2) (omega arith)) (control_element control (omega arith))) (All-nil IsSegment))

-- rows that fit into a text of this size are sealed
pub are_sealable : (opened : List Row) (control size : ℕ) → All IsSegment opened → length (text_of (sealed opened control)) ≤ size → size ≤ 262_144 → control ≤ MOST_CONTROL_NUMBER → IsSealable opened control
are_sealable opened control size h short most c =
    let sealing : List Row = sealing_rows (text_of opened) (length opened) control in
    let few = rows_few opened in
    let whole = ap length (text_of-append opened sealing) ∙ length-append (text_of opened) (text_of sealing) in
    record { check = rows_check_small opened h; count = omega arith; small = c }
