-- How a journal begins. This project's profile.
use Rattle.std.specs.Prelude.{ℕ, ◌≡◌, List, [], ◌∷◌, ◌++◌, length, codes}
use Rattle.dsd_values.specs.Reading.{IsIdText}
use Rattle.dsd_values.specs.declared.role.Role.{Role}
use Rattle.dsd_values.specs.declared.role.Role.TheVariants.{Supplier, Receiver}
use Rattle.dsd_journal.specs.declared.header.Header.{Header}

-- 'H' for the handheld, which is the supplier's, and 'R' for the receiver
abbrev pub role_letter : Role → ℕ
role_letter Supplier = 72
role_letter Receiver = 82

-- A communication id has ten letters and digits.
pub record IsId (id : List ℕ) : Type 0 where
  pub ten : length id ≡ 10
  pub text : IsIdText id

pub record IsHeader (header : Header) : Type 0 where
  pub own : IsId header.own
  pub peer : IsId header.peer

-- 27 bytes: the format, the role's letter, the own id, the peer's id and an LF
abbrev pub header_bytes : Header → List ℕ
header_bytes header = codes "DEXJ1" ++ role_letter header.role ∷ (header.own ++ (header.peer ++ 10 ∷ []))

-- The bytes of a journal without entries: its header and a closed gate.
abbrev pub formatted : Header → List ℕ
formatted header = header_bytes header ++ 0 ∷ []
