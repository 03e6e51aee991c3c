-- The element table of G87, the head of an answer (this project's profile).
use Rattle.std.specs.Prelude.{ℕ, Bool, false, not, ◌&&◌, ◌==◌, List, [], ◌∷◌, Option}
use Rattle.std.specs.Char.{is_ascii_digit}
use Rattle.dsd_values.specs.Reading.{role_of, flag_of, delivery_number_of, check_of, level_of, word_of}
use Rattle.dsd_values.specs.declared.flag.Flag.TheVariants as flags
use Rattle.dsd_values.specs.declared.role.Role.TheVariants as roles
use Rattle.segments.specs.Views.{Seg, element_of}
use Rattle.segments.specs.Elements.{ElementFault, ◌or_else◌, at_element, said, no_more}
use Rattle.adjustment_895.specs.declared.head.AnswerHead.{AnswerHead}

-- the first element that is refused
abbrev pub head_fault : Seg → Option ElementFault
head_fault seg =
    at_element 1 (role_of (element_of seg 1))
    or_else at_element 2 (flag_of (element_of seg 2))
    or_else at_element 3 (delivery_number_of (element_of seg 3))
    or_else at_element 4 (check_of (element_of seg 4))
    or_else at_element 5 (level_of (element_of seg 5))
    or_else at_element 6 (word_of (element_of seg 6))
    or_else no_more 6 seg

-- what a head whose elements are right says
abbrev pub head_in : Seg → AnswerHead
head_in seg = record {
  role = said roles.Supplier (role_of (element_of seg 1));
  flag = said flags.Debit (flag_of (element_of seg 2));
  number = said [] (delivery_number_of (element_of seg 3));
  check = said 0 (check_of (element_of seg 4));
  level = said 0 (level_of (element_of seg 5));
  receiver_number = said [] (word_of (element_of seg 6));
}

-- a level from 10 to 99: two digits, of which the first is not '0', which is 48
abbrev pub is_past_levels : List ℕ → Bool
is_past_levels (first ∷ second ∷ []) = is_ascii_digit first && is_ascii_digit second && not (first == 48)
is_past_levels _ = false
