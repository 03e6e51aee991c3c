-- What an answer to a delivery is: the value that a set 895 spells.
use Rattle.std.specs.Prelude.{ℕ, List, Option}
use Rattle.dsd_values.specs.declared.flag.Flag.{Flag}
use Rattle.dsd_values.specs.declared.line.Line.{Line}
use Rattle.dsd_values.specs.declared.role.Role.{Role}
use Rattle.dsd_values.specs.SignatureRecord.{SignatureRecord}

pub record AnswerRecord : Type 0 where
  pub role : Role
  pub flag : Flag
  pub number : List ℕ
  -- the integrity value of the set that is answered
  pub check : ℕ
  pub level : ℕ
  pub receiver_number : List ℕ
  pub note : Option (List ℕ)
  pub lines : List Line
  pub quantity : ℕ
  pub amount : ℕ
  pub deposit : Option ℕ
  pub signature : SignatureRecord
