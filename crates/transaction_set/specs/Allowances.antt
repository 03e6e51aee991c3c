-- Allowances and charges: what a G72 says, and which of its elements is refused. Places, kinds and widths are this
-- project's profile.
use Rattle.std.specs.Prelude.{◌≡◌, ℕ, Bool, true, not, ◌&&◌, ◌||◌, ◌==◌, IsTrue, [], length, Option, Some, None, is_some, Ok, if◌then◌else◌}
use Rattle.dsd_values.specs.Methods.{counts}
use Rattle.dsd_values.specs.Reading.{cents_of, cost_of, percent_of, quantity_of, word_of, filled_word_of}
use Rattle.dsd_values.specs.declared.allowance.Allowance.{Allowance}
use Rattle.dsd_values.specs.declared.fault.ValueFault.TheVariants as faults
use Rattle.segments.specs.Views.{Seg, element_of}
use Rattle.segments.specs.Elements.{ElementFault, ◌or_else◌, at_element, said, optional, tail_from}

-- ---- what a right one says

-- a size is there: a total, else a rate, which at record level has its quantity, else a percent
abbrev pub has_size : Bool → Option ℕ → Option ℕ → Option ℕ → Option ℕ → Bool
has_size in_line (Some total) rate quantity percent = true
has_size in_line None (Some rate) quantity percent = in_line || is_some quantity
has_size in_line None None quantity percent = is_some percent

-- an allowance that changes a price has a size, in a line or at record level
abbrev pub HasSize : Bool → Allowance → Type 0
HasSize in_line allowance =
    IsTrue (counts allowance.method) → IsTrue (has_size in_line allowance.total allowance.rate allowance.quantity allowance.percent)

-- G72: an allowance, in a line or at record level
pub record IsAllowance (in_line : Bool) (allowance : Allowance) (seg : Seg) : Type 0 where
  pub code : filled_word_of (element_of seg 1) ≡ Ok allowance.code
  pub method : filled_word_of (element_of seg 2) ≡ Ok allowance.method
  pub number : word_of (element_of seg 3) ≡ Ok allowance.number
  pub exception : word_of (element_of seg 4) ≡ Ok allowance.exception
  pub rate : optional cost_of (element_of seg 5) ≡ Ok allowance.rate
  pub quantity : optional quantity_of (element_of seg 6) ≡ Ok allowance.quantity
  pub unit : word_of (element_of seg 7) ≡ Ok allowance.unit
  pub total : optional cents_of (element_of seg 8) ≡ Ok allowance.total
  pub percent : optional percent_of (element_of seg 9) ≡ Ok allowance.percent
  pub tail : tail_from 10 seg ≡ allowance.tail
  pub size : HasSize in_line allowance

-- ---- which element is refused

-- the element with this number has no text
abbrev pub is_left_out : Seg → ℕ → Bool
is_left_out seg element = length (element_of seg element) == 0

-- at record level the rate is what counts, and there is no quantity for it
abbrev pub lacks_quantity : Bool → Seg → Bool
lacks_quantity in_line seg =
    not in_line && counts (element_of seg 2) && is_left_out seg 8 && not (is_left_out seg 5) && is_left_out seg 6

-- the method counts, and there is neither rate nor total nor percent
abbrev pub lacks_size : Seg → Bool
lacks_size seg = counts (element_of seg 2) && is_left_out seg 5 && is_left_out seg 8 && is_left_out seg 9

-- an element that is needed and left out
abbrev pub missing : ℕ → Bool → Option ElementFault
missing element test = if test then Some (record { element = element; fault = faults.Empty }) else None

abbrev pub allowance_fault : Bool → Seg → Option ElementFault
allowance_fault in_line seg =
    at_element 1 (filled_word_of (element_of seg 1))
    or_else at_element 2 (filled_word_of (element_of seg 2))
    or_else at_element 3 (word_of (element_of seg 3))
    or_else at_element 4 (word_of (element_of seg 4))
    or_else at_element 5 (optional cost_of (element_of seg 5))
    or_else missing 6 (lacks_quantity in_line seg)
    or_else at_element 6 (optional quantity_of (element_of seg 6))
    or_else at_element 7 (word_of (element_of seg 7))
    or_else missing 8 (lacks_size seg)
    or_else at_element 8 (optional cents_of (element_of seg 8))
    or_else at_element 9 (optional percent_of (element_of seg 9))

-- the allowance of a G72 whose elements are right
abbrev pub allowance_in : Seg → Allowance
allowance_in seg = record {
  code = said [] (filled_word_of (element_of seg 1));
  method = said [] (filled_word_of (element_of seg 2));
  number = said [] (word_of (element_of seg 3));
  exception = said [] (word_of (element_of seg 4));
  rate = said None (optional cost_of (element_of seg 5));
  quantity = said None (optional quantity_of (element_of seg 6));
  unit = said [] (word_of (element_of seg 7));
  total = said None (optional cents_of (element_of seg 8));
  percent = said None (optional percent_of (element_of seg 9));
  tail = tail_from 10 seg;
}
