-- Head fields, totals and signatures that are right by themselves: what is written of each is read as it.
use Rattle.std.proofs.Common.{◌≡◌, ℕ, ◌<◌, ◌≤◌, IsTrue, List, None, length, position, Ok, refl, ◌∙◌, arith}
use Rattle.dsd_values.specs.Calendar.{Date, day_of, is_date}
use Rattle.dsd_values.specs.Reading.{IsElementText, cents_of, complete, delivery_number_of, is_no_element_byte, is_no_number_byte, total_quantity_of, word_between, word_of}
use Rattle.dsd_values.specs.SignatureRecord.{IsSignature, SignatureRecord}
use Rattle.dsd_values.specs.Writing.{day_text}
use Rattle.dsd_values.specs.declared.cents.TheConstants.Cents.{MAX as MOST_CENTS}
use Rattle.dsd_values.specs.declared.delivery_number.TheConstants.{DELIVERY_NUMBER_BYTES}
use Rattle.dsd_values.specs.declared.limits.TheConstants.{MARK_BYTES}
use Rattle.dsd_values.specs.declared.quantity.TheConstants.{MOST_TOTAL_QUANTITY}
use Rattle.dsd_values.proofs.Again.{IsReadAs}
use Rattle.dsd_values.proofs.Dates.{day_read_back}
use Rattle.dsd_values.proofs.Elements.{day_element, delivery_element}
use Rattle.dsd_values.proofs.Refusals.{complete_gives, filled_gives}
use Rattle.segments.specs.Elements.{optional}
use Rattle.segments.specs.SegmentWriting.{segment_of}
use Rattle.transaction_set.specs.SetWriting.{signature_row, totals_row}
use Rattle.transaction_set.specs.SoundLines.{IsPlainNumber}
use Rattle.transaction_set.specs.declared.stated.StatedTotals.{StatedTotals}
use Rattle.transaction_set.proofs.RowsSay.{no_longer, reads_at}
use Rattle.transaction_set.proofs.Sounding.{number_plain, word_plain}
use Rattle.transaction_set.proofs.Tells.{HasSignature, HasTotals}

-- ---- heads

pub delivery_number_plain : (number : List ℕ) → IsPlainNumber number → IsReadAs delivery_number_of number number
delivery_number_plain number is = record {
  read = filled_gives (List ℕ) DELIVERY_NUMBER_BYTES (position is_no_number_byte number) number (Ok number) is.filled is.short is.characters;
  element = delivery_element number is.characters;
}

pub day_plain : (date : Date) → IsTrue (is_date date.year date.month date.day) → IsReadAs day_of date (day_text date)
day_plain date there =
    let back : day_of (day_text date) ≡ Ok date = day_read_back date (day_text date) refl there in
    record { read = back; element = day_element (day_text date) date back }

-- ---- closings

pub totals_plain : (quantity amount : ℕ) → quantity ≤ MOST_TOTAL_QUANTITY → amount ≤ MOST_CENTS → HasTotals (record { quantity = quantity; amount = amount; deposit = None })
totals_plain quantity amount q a =
    let totals : StatedTotals = record { quantity = quantity; amount = amount; deposit = None } in
    record {
      saying = segment_of 0 (totals_row totals);
      says = record {
        quantity = reads_at total_quantity_of quantity 0 1 (totals_row totals) (number_plain 0 MOST_TOTAL_QUANTITY quantity (omega arith) (omega arith) q);
        amount = reads_at cents_of amount 0 2 (totals_row totals) (number_plain 0 MOST_CENTS amount (omega arith) (omega arith) a);
        deposit = reads_at (optional cents_of) None 0 3 (totals_row totals) (record { read = refl; element = refl });
        ends = no_longer 0 3 (totals_row totals) refl;
      };
    }

mark_plain : (mark : List ℕ) → IsElementText mark → 0 < length mark → length mark ≤ MARK_BYTES → IsReadAs (word_between 1 MARK_BYTES) mark mark
mark_plain mark characters filled short = record {
  read = filled_gives (List ℕ) MARK_BYTES (position is_no_element_byte mark) mark (complete 1 mark (Ok mark)) filled short characters
      ∙ complete_gives (List ℕ) 1 mark (Ok mark) (omega arith);
  element = characters;
}

pub signature_plain : (signature : SignatureRecord) → IsSignature signature → HasSignature signature
signature_plain signature is = record {
  saying = segment_of 0 (signature_row signature);
  says = record {
    mark = reads_at (word_between 1 MARK_BYTES) signature.mark 0 1 (signature_row signature) (mark_plain signature.mark is.mark is.filled is.short);
    name = reads_at word_of signature.name 0 2 (signature_row signature) (word_plain signature.name (record { characters = is.name; short = is.name_short }));
    ends = no_longer 0 2 (signature_row signature) refl;
  };
}
