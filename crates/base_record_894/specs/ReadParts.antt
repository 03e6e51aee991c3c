-- What the reader of a base record hands on: from the segments one by one to the parts of the record.
use Rattle.std.specs.Prelude.{◌≡◌, Some}
use Rattle.transaction_set.specs.Closing.{IsClosed}
use Rattle.transaction_set.specs.declared.seal.Seal.{Seal}
use Rattle.base_record_894.specs.BaseRecord.{BaseRecord}
use Rattle.base_record_894.specs.Said.{Said}
use Rattle.base_record_894.specs.declared.parts.Parts.{Parts}

-- what was read is what was said
pub record IsReadFrom (m : Said) (parts : Parts) : Type 0 where
  pub head : m.head ≡ Some parts.head
  pub closed : IsClosed m.course parts.closed

-- the record of what was read
abbrev pub record_of : Parts → BaseRecord
record_of parts = record {
  flag = parts.head.flag;
  number = parts.head.number;
  day = parts.head.day;
  receiver_duns = parts.head.receiver_duns;
  receiver_place = parts.head.receiver_place;
  supplier_duns = parts.head.supplier_duns;
  supplier_place = parts.head.supplier_place;
  tail = parts.head.tail;
  references = parts.closed.references.items;
  lines = parts.closed.lines;
  extras = parts.closed.extras;
  deposit = parts.closed.totals.deposit;
  signature = parts.closed.signature;
}

abbrev pub seal_of : Parts → Seal
seal_of parts = record { control = parts.closed.control; check = parts.closed.check }
