-- Signatures. That a mark has at most 12 characters is this project's profile.
use Rattle.std.specs.Prelude.{ℕ, ◌<◌, ◌≤◌, List, length}
use Rattle.dsd_values.specs.Reading.{IsElementText}
use Rattle.dsd_values.specs.declared.limits.TheConstants.{MARK_BYTES, WORD_BYTES}

-- a mark, and a name that may be empty
pub record SignatureRecord : Type 0 where
  pub mark : List ℕ
  pub name : List ℕ

-- each is the text of a word, and the mark has 1 to 12 characters
pub record IsSignature (signature : SignatureRecord) : Type 0 where
  pub mark : IsElementText signature.mark
  pub filled : 0 < length signature.mark
  pub short : length signature.mark ≤ MARK_BYTES
  pub name : IsElementText signature.name
  pub name_short : length signature.name ≤ WORD_BYTES
