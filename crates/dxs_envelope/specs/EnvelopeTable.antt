-- The header and the trailer of a transmission: DXS and DXE of the UCS Direct Exchange, with the elements that this
-- project's profile gives them.
use Rattle.std.specs.Prelude.{ℕ, Bool, ◌&&◌, nat_le, List, length, codes}
use Rattle.std.specs.Char.{is_ascii_digit}
use Rattle.std.specs.List.{list_all}
use Rattle.std.specs.Option.{is_none}
use Rattle.std.specs.Str.{bytes_eq}
use Rattle.dsd_values.specs.Reading.{plain_number_of}
use Rattle.dsd_values.specs.declared.limits.TheConstants.{WORD_BYTES}
use Rattle.segments.specs.Elements.{at_element, no_more, said}
use Rattle.segments.specs.Views.{has_id}
use Rattle.segments.specs.Views.{Seg, element_of}

-- A text of so many bytes. Elements have element characters alone, so that a word is known by its length.
abbrev pub has_length : ℕ → ℕ → List ℕ → Bool
has_length least most text = nat_le least (length text) && nat_le (length text) most

-- a control number: 1 to 9 digits
abbrev pub is_control_number : List ℕ → Bool
is_control_number text = has_length 1 9 text && list_all is_ascii_digit text

-- each element behind the last listed one is empty
abbrev pub is_ended : ℕ → Seg → Bool
is_ended last seg = is_none (no_more last seg)

-- ---- DXS

-- 1 the sender's id, a word of 1 to 10; 2 the function; 3 the version, a word of 1 to 12; 4 the control number; 5 the
-- receiver's id, a word of up to 10; 6 any word. All of them but the function are right.
unfoldable pub is_header : Seg → Bool
is_header seg =
    has_id seg (codes "DXS")
    && has_length 1 10 (element_of seg 1)
    && has_length 1 12 (element_of seg 3)
    && is_control_number (element_of seg 4)
    && has_length 0 10 (element_of seg 5)
    && has_length 0 WORD_BYTES (element_of seg 6)
    && is_ended 6 seg

-- the function is that of a direct exchange
abbrev pub has_function : Seg → Bool
has_function seg = bytes_eq (element_of seg 2) (codes "DX")

-- ---- DXE

-- 1 the control number; 2 the number of sets, in 1 to 15 digits
unfoldable pub is_trailer : Seg → Bool
is_trailer seg =
    has_id seg (codes "DXE")
    && is_control_number (element_of seg 1)
    && is_none (at_element 2 (plain_number_of (element_of seg 2)))
    && is_ended 2 seg

-- the number of sets that it says
abbrev pub count_in : Seg → ℕ
count_in seg = said 0 (plain_number_of (element_of seg 2))
