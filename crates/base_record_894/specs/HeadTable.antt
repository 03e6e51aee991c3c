-- The element table of G82, the head of a base record (this project's profile).
use Rattle.std.specs.Prelude.{[], Option}
use Rattle.dsd_values.specs.Calendar.{Date, day_of}
use Rattle.dsd_values.specs.Reading.{flag_of, delivery_number_of, word_of}
use Rattle.dsd_values.specs.declared.flag.Flag.TheVariants as flags
use Rattle.segments.specs.Views.{Seg, element_of}
use Rattle.segments.specs.Elements.{ElementFault, ◌or_else◌, at_element, said, tail_from}
use Rattle.base_record_894.specs.declared.head.Head.{Head}

-- the first element that is refused; what stands behind the seventh is kept
abbrev pub head_fault : Seg → Option ElementFault
head_fault seg =
    at_element 1 (flag_of (element_of seg 1))
    or_else at_element 2 (delivery_number_of (element_of seg 2))
    or_else at_element 3 (word_of (element_of seg 3))
    or_else at_element 4 (word_of (element_of seg 4))
    or_else at_element 5 (word_of (element_of seg 5))
    or_else at_element 6 (word_of (element_of seg 6))
    or_else at_element 7 (day_of (element_of seg 7))

-- no day, for a head that is refused
abbrev pub no_day : Date
no_day = record { year = 0; month = 0; day = 0 }

-- what a head whose elements are right says
abbrev pub head_in : Seg → Head
head_in seg = record {
  flag = said flags.Debit (flag_of (element_of seg 1));
  number = said [] (delivery_number_of (element_of seg 2));
  receiver_duns = said [] (word_of (element_of seg 3));
  receiver_place = said [] (word_of (element_of seg 4));
  supplier_duns = said [] (word_of (element_of seg 5));
  supplier_place = said [] (word_of (element_of seg 6));
  day = said no_day (day_of (element_of seg 7));
  tail = tail_from 8 seg;
}
