-- What a base record is made of, where no text of it has come: a head, rows and a signature; nothing stands behind the head, no reference
-- and no deposit.
use Rattle.std.specs.Prelude.{[], IsTrue, List, None, Result, Ok, Err}
use Rattle.dsd_pricing.specs.declared.amounts.Totals.{Totals}
use Rattle.dsd_pricing.specs.declared.fault.PriceFault.{PriceFault}
use Rattle.dsd_values.specs.Calendar.{is_date}
use Rattle.dsd_values.specs.SignatureRecord.{SignatureRecord}
use Rattle.dsd_values.specs.declared.extra.Extra.{Extra}
use Rattle.dsd_values.specs.declared.line.Line.{Line}
use Rattle.transaction_set.specs.SoundLines.{IsPlainNumber, IsPlainWord}
use Rattle.base_record_894.specs.BaseRecord.{BaseRecord}
use Rattle.base_record_894.specs.declared.head.BaseHead.{BaseHead}
use Rattle.base_record_894.specs.declared.head.Head.{Head}

-- each field is a text of its type, and the day is one of the calendar
pub record IsPlainHead (head : BaseHead) : Type 0 where
  pub number : IsPlainNumber head.number
  pub day : IsTrue (is_date head.day.year head.day.month head.day.day)
  pub receiver_duns : IsPlainWord head.receiver_duns
  pub receiver_place : IsPlainWord head.receiver_place
  pub supplier_duns : IsPlainWord head.supplier_duns
  pub supplier_place : IsPlainWord head.supplier_place

-- the head with nothing behind its listed elements
abbrev pub head_alone : BaseHead → Head
head_alone head = record {
  flag = head.flag;
  number = head.number;
  receiver_duns = head.receiver_duns;
  receiver_place = head.receiver_place;
  supplier_duns = head.supplier_duns;
  supplier_place = head.supplier_place;
  day = head.day;
  tail = [];
}

abbrev pub record_made : BaseHead → List Line → List Extra → SignatureRecord → BaseRecord
record_made head lines extras signature = record {
  flag = head.flag;
  number = head.number;
  day = head.day;
  receiver_duns = head.receiver_duns;
  receiver_place = head.receiver_place;
  supplier_duns = head.supplier_duns;
  supplier_place = head.supplier_place;
  tail = [];
  references = [];
  lines = lines;
  extras = extras;
  deposit = None;
  signature = signature;
}

-- the record where its rows have a price, else why they have none
abbrev pub unless_unpriced : Result Totals PriceFault → BaseRecord → Result BaseRecord PriceFault
unless_unpriced (Ok totals) base = Ok base
unless_unpriced (Err fault) base = Err fault
