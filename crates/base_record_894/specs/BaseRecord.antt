-- What a base record is: the value that a set 894 spells.
use Rattle.std.specs.Prelude.{ℕ, List, Option, unsigned_abs}
use Rattle.dsd_pricing.specs.Pricing.{priced}
use Rattle.dsd_values.specs.Calendar.{Date}
use Rattle.dsd_values.specs.declared.extra.Extra.{Extra}
use Rattle.dsd_values.specs.declared.flag.Flag.{Flag}
use Rattle.dsd_values.specs.declared.line.Line.{Line}
use Rattle.dsd_values.specs.SignatureRecord.{SignatureRecord}

pub record BaseRecord : Type 0 where
  pub flag : Flag
  pub number : List ℕ
  pub day : Date
  pub receiver_duns : List ℕ
  pub receiver_place : List ℕ
  pub supplier_duns : List ℕ
  pub supplier_place : List ℕ
  pub tail : List ℕ
  pub references : List (List ℕ)
  pub lines : List Line
  pub extras : List Extra
  pub deposit : Option ℕ
  pub signature : SignatureRecord

-- the amount of a record in cents: what its rows come to, which is not below 0 in any record
abbrev pub amount_of : BaseRecord → ℕ
amount_of base = unsigned_abs (priced base.lines base.extras)
