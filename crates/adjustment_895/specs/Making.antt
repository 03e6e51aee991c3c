-- What an answer is made of, where no text of it has come: a head, lines, totals and a signature; it has no note and no deposit.
use Rattle.std.specs.Prelude.{◌<◌, ◌≤◌, ◌^◌, List, None}
use Rattle.dsd_pricing.specs.declared.amounts.Totals.{Totals}
use Rattle.dsd_values.specs.SignatureRecord.{SignatureRecord}
use Rattle.dsd_values.specs.declared.level.TheConstants.Level.{MAX as HIGHEST}
use Rattle.dsd_values.specs.declared.line.Line.{Line}
use Rattle.transaction_set.specs.SoundLines.{IsPlainNumber, IsPlainWord}
use Rattle.adjustment_895.specs.AnswerRecord.{AnswerRecord}
use Rattle.adjustment_895.specs.declared.head.AnswerHead.{AnswerHead}

-- each field is a text or a number of its type
pub record IsPlainHead (head : AnswerHead) : Type 0 where
  pub number : IsPlainNumber head.number
  pub check : head.check < 2 ^ 16
  pub level : head.level ≤ HIGHEST
  pub receiver_number : IsPlainWord head.receiver_number

abbrev pub answer_made : AnswerHead → List Line → Totals → SignatureRecord → AnswerRecord
answer_made head lines totals signature = record {
  role = head.role;
  flag = head.flag;
  number = head.number;
  check = head.check;
  level = head.level;
  receiver_number = head.receiver_number;
  note = None;
  lines = lines;
  quantity = totals.quantity;
  amount = totals.amount;
  deposit = None;
  signature = signature;
}
