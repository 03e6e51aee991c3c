-- The answers that this end makes.
use Rattle.std.specs.Prelude.{◌≡◌, ℕ, List, [], Some, Ok}
use Rattle.dsd_pricing.specs.declared.amounts.Totals.{Totals}
use Rattle.dsd_values.specs.SignatureRecord.{SignatureRecord}
use Rattle.dsd_values.specs.declared.line.Line.{Line}
use Rattle.dsd_values.specs.declared.role.Role.{Role}
use Rattle.adjustment_895.specs.AnswerRecord.{AnswerRecord}
use Rattle.adjustment_895.specs.Making.{answer_made}
use Rattle.adjustment_895.specs.WrittenText.{written_of}
use Rattle.dsd_record.specs.ChangedPrice.{price_with}
use Rattle.dsd_record.specs.Naming.{answered_level}
use Rattle.dsd_record.specs.Version.{Version}
use Rattle.dsd_journal.specs.declared.entry.Entry.{Entry}
use Rattle.delivery_book.specs.Lookups.{seen_of}
use Rattle.delivery_book.specs.Signing.{next_control}

-- The answer of the end of this role to a version, with these lines: it carries the flag of the version, names the proposal that made it,
-- and states these totals. It leaves out all else that an answer may state.
abbrev pub answer_to : Role → Version → List Line → Totals → SignatureRecord → AnswerRecord
answer_to role version lines totals signature =
    answer_made
    (record { role = role; flag = version.flag; number = version.number; check = version.check; level = answered_level lines version.level; receiver_number = [] })
    lines totals signature

-- The text is the written form, with the next control number, of the acceptance of the delivery's highest proposal.
pub record IsAcceptance (role : Role) (before : List Entry) (number : List ℕ) (signature : SignatureRecord) (text : List ℕ) : Type 0 where
  pub version : Version
  pub seen : seen_of before number ≡ Some version
  pub written : written_of (answer_to role version [] version.totals signature) (next_control before) ≡ Ok text

-- The same of the adjustment with these lines, which states the totals behind it.
pub record IsAdjustment (role : Role) (before : List Entry) (number : List ℕ) (changes : List Line) (signature : SignatureRecord) (text : List ℕ) : Type 0 where
  pub version : Version
  pub seen : seen_of before number ≡ Some version
  pub totals : Totals
  pub price : price_with version changes ≡ Ok totals
  pub written : written_of (answer_to role version changes totals signature) (next_control before) ≡ Ok text
