-- The deliveries of a route, and what is counted of each (this project's profile).
use Rattle.std.specs.Prelude.{ℕ, ◌+◌, ◌-◌, ◌*◌, ◌%◌, ◌==◌, ◌&&◌, false, if◌then◌else◌, List, [], map, codes, None}
use Rattle.std.specs.List.{range_with_len}
use Rattle.dsd_values.specs.SignatureRecord.{SignatureRecord}
use Rattle.dsd_values.specs.Writing.{number_text}
use Rattle.dsd_values.specs.declared.flag.Flag.TheVariants.{Debit}
use Rattle.dsd_values.specs.declared.line.Line.{Line}
use Rattle.base_record_894.specs.BaseRecord.{BaseRecord}
use Rattle.plain_lines.specs.declared.counted.Counted.{Counted}
use Rattle.handheld_core.specs.DraftRows.{item_of}
use Rattle.handheld_core.specs.declared.draft.Draft.{Draft}
use Rattle.receiver_core.specs.declared.count.Count.{Count}

-- the numbers from 1 on, so many
abbrev pub first_numbers : ℕ → List ℕ
first_numbers count = range_with_len 1 count

-- ---- a line of a delivery

abbrev pub quantity_at : ℕ → ℕ → ℕ
quantity_at delivery number = 1 + (7 * delivery + 3 * number) % 24

-- of line 1 of each fourth delivery one less is counted
abbrev pub counted_at : ℕ → ℕ → ℕ
counted_at delivery number = if number == 1 && delivery % 4 == 0 then quantity_at delivery number - 1 else quantity_at delivery number

-- in ten-thousandths of a unit of money, of which a cent has a hundred
abbrev pub cost_at : ℕ → ℕ → ℕ
cost_at delivery number = 100 * (1 + (13 * delivery + 17 * number) % 900)

abbrev pub line_at : ℕ → ℕ → Line
line_at delivery number = item_of number (quantity_at delivery number) (codes "EA") [] (cost_at delivery number)

abbrev pub count_at : ℕ → ℕ → Counted
count_at delivery number = record { dsd = number; quantity = counted_at delivery number; cost = cost_at delivery number }

-- ---- a delivery

abbrev pub number_at : ℕ → List ℕ
number_at delivery = number_text (500_000 + delivery)

abbrev pub lines_of : ℕ → ℕ
lines_of delivery = 1 + delivery % 5

abbrev pub signed : SignatureRecord
signed = record { mark = codes "LOAD"; name = [] }

abbrev pub base_at : ℕ → BaseRecord
base_at delivery = record {
  flag = Debit;
  number = number_at delivery;
  day = record { year = 2024; month = 1; day = 1 };
  receiver_duns = [];
  receiver_place = [];
  supplier_duns = [];
  supplier_place = [];
  tail = [];
  references = [];
  lines = map (line_at delivery) (first_numbers (lines_of delivery));
  extras = [];
  deposit = None;
  signature = signed;
}

-- what the handheld proposes
abbrev pub draft_at : ℕ → Draft
draft_at delivery = record { base = base_at delivery; tolerance = 1_000_000; counters = [] }

-- what the receiver counted
abbrev pub counts_at : ℕ → Count
counts_at delivery = record { number = number_at delivery; signature = signed; counters = false; lines = map (count_at delivery) (first_numbers (lines_of delivery)) }
