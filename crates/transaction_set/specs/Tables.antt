-- The element tables of the segments that both sets have: which elements are refused, and what right ones say.
-- Of each segment: the first element that is refused, and what it says where none is. Places, kinds and widths of elements
-- are this project's profile.
use Rattle.std.specs.Prelude.{ℕ, List, [], Option, None}
use Rattle.dsd_values.specs.Reading.{plain_number_of, dsd_of, quantity_of, total_quantity_of, cents_of, cost_of, check_of, word_of, filled_word_of, word_between}
use Rattle.dsd_values.specs.declared.details.ItemDetails.{ItemDetails}
use Rattle.dsd_values.specs.declared.limits.TheConstants.{MARK_BYTES}
use Rattle.dsd_values.specs.declared.line.Line.{Line}
use Rattle.dsd_values.specs.SignatureRecord.{SignatureRecord}
use Rattle.segments.specs.Views.{Seg, element_of}
use Rattle.segments.specs.Elements.{ElementFault, ◌or_else◌, at_element, said, optional, no_more, tail_from}
use Rattle.transaction_set.specs.declared.stated.StatedTotals.{StatedTotals}

-- ---- G83 and G89, an item

abbrev pub item_fault : Seg → Option ElementFault
item_fault seg =
    at_element 1 (dsd_of (element_of seg 1))
    or_else at_element 2 (quantity_of (element_of seg 2))
    or_else at_element 3 (filled_word_of (element_of seg 3))
    or_else at_element 4 (word_of (element_of seg 4))
    or_else at_element 5 (word_of (element_of seg 5))
    or_else at_element 6 (word_of (element_of seg 6))
    or_else at_element 7 (word_of (element_of seg 7))
    or_else at_element 8 (cost_of (element_of seg 8))
    or_else at_element 9 (word_of (element_of seg 9))
    or_else at_element 10 (word_of (element_of seg 10))

abbrev pub details_in : Seg → ItemDetails
details_in seg = record {
  qualifier = said [] (word_of (element_of seg 5));
  id = said [] (word_of (element_of seg 6));
  case_code = said [] (word_of (element_of seg 7));
  pack = said [] (word_of (element_of seg 9));
  label = said [] (word_of (element_of seg 10));
}

-- the line of an item whose elements are right
abbrev pub line_in : Seg → Line
line_in seg = record {
  dsd = said 0 (dsd_of (element_of seg 1));
  quantity = said 0 (quantity_of (element_of seg 2));
  unit = said [] (filled_word_of (element_of seg 3));
  upc = said [] (word_of (element_of seg 4));
  details = details_in seg;
  cost = said 0 (cost_of (element_of seg 8));
  tail = tail_from 11 seg;
  extras = [];
}

-- ---- ST, the start of a set; its first element is told by the kind of the segment

abbrev pub start_fault : Seg → Option ElementFault
start_fault seg = at_element 2 (word_between 4 9 (element_of seg 2)) or_else no_more 2 seg

abbrev pub control_in : Seg → List ℕ
control_in seg = said [] (word_between 4 9 (element_of seg 2))

-- ---- LS, the start of a loop

abbrev pub loop_start_fault : Seg → Option ElementFault
loop_start_fault seg = at_element 1 (word_between 1 6 (element_of seg 1)) or_else no_more 1 seg

abbrev pub loop_id_in : Seg → List ℕ
loop_id_in seg = said [] (word_between 1 6 (element_of seg 1))

-- ---- G84, the totals

abbrev pub totals_fault : Seg → Option ElementFault
totals_fault seg =
    at_element 1 (total_quantity_of (element_of seg 1))
    or_else at_element 2 (cents_of (element_of seg 2))
    or_else at_element 3 (optional cents_of (element_of seg 3))
    or_else no_more 3 seg

abbrev pub totals_in : Seg → StatedTotals
totals_in seg = record {
  quantity = said 0 (total_quantity_of (element_of seg 1));
  amount = said 0 (cents_of (element_of seg 2));
  deposit = said None (optional cents_of (element_of seg 3));
}

-- ---- G86, the signature

abbrev pub signature_fault : Seg → Option ElementFault
signature_fault seg =
    at_element 1 (word_between 1 MARK_BYTES (element_of seg 1))
    or_else at_element 2 (word_of (element_of seg 2))
    or_else no_more 2 seg

abbrev pub signature_in : Seg → SignatureRecord
signature_in seg = record { mark = said [] (word_between 1 MARK_BYTES (element_of seg 1)); name = said [] (word_of (element_of seg 2)) }

-- ---- G85, the integrity value

abbrev pub integrity_fault : Seg → Option ElementFault
integrity_fault seg = at_element 1 (check_of (element_of seg 1)) or_else no_more 1 seg

abbrev pub integrity_in : Seg → ℕ
integrity_in seg = said 0 (check_of (element_of seg 1))

-- ---- SE, the trailer

abbrev pub trailer_fault : Seg → Option ElementFault
trailer_fault seg =
    at_element 1 (plain_number_of (element_of seg 1))
    or_else at_element 2 (filled_word_of (element_of seg 2))
    or_else no_more 2 seg

abbrev pub stated_count_in : Seg → ℕ
stated_count_in seg = said 0 (plain_number_of (element_of seg 1))

abbrev pub control_again_in : Seg → List ℕ
control_again_in seg = said [] (filled_word_of (element_of seg 2))
