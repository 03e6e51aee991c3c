-- What the reader of an answer hands on: from the segments one by one to the parts of the answer.
use Rattle.std.specs.Prelude.{◌≡◌, ℕ, List, [], ◌∷◌, Option, Some, None}
use Rattle.transaction_set.specs.Closing.{IsClosed}
use Rattle.transaction_set.specs.declared.seal.Seal.{Seal}
use Rattle.adjustment_895.specs.AnswerRecord.{AnswerRecord}
use Rattle.adjustment_895.specs.Said.{Said}
use Rattle.adjustment_895.specs.declared.parts.Parts.{Parts}

-- what was read is what was said
pub record IsReadFrom (m : Said) (parts : Parts) : Type 0 where
  pub head : m.head ≡ Some parts.head
  pub closed : IsClosed m.course parts.closed

-- the first of these texts
abbrev pub first_note : List (List ℕ) → Option (List ℕ)
first_note [] = None
first_note (text ∷ texts) = Some text

-- the answer of what was read
abbrev pub answer_of : Parts → AnswerRecord
answer_of parts = record {
  role = parts.head.role;
  flag = parts.head.flag;
  number = parts.head.number;
  check = parts.head.check;
  level = parts.head.level;
  receiver_number = parts.head.receiver_number;
  note = first_note parts.closed.references.items;
  lines = parts.closed.lines;
  quantity = parts.closed.totals.quantity;
  amount = parts.closed.totals.amount;
  deposit = parts.closed.totals.deposit;
  signature = parts.closed.signature;
}

abbrev pub seal_of : Parts → Seal
seal_of parts = record { control = parts.closed.control; check = parts.closed.check }
