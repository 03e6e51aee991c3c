-- The images that hold a journal: what its file may be. This project's profile.
use Rattle.std.specs.Prelude.{ℕ, ◌+◌, ◌<◌, ◌≤◌, ◌≡◌, ◌≢◌, List, [], ◌∷◌, ◌++◌, length}
use Rattle.std.specs.Int.{w32, to_be_bytes}
use Rattle.dsd_values.specs.declared.limits.TheConstants.{SET_BYTES}
use Rattle.dsd_journal.specs.declared.limits.TheConstants.{HEADER_BYTES, JOURNAL_BYTES}
use Rattle.dsd_journal.specs.declared.entry.EntryKind.{EntryKind}
use Rattle.dsd_journal.specs.declared.entry.EntryKind.TheVariants.{Signed, Took}
use Rattle.dsd_journal.specs.declared.entry.Entry.{Entry}
use Rattle.dsd_journal.specs.declared.header.Header.{Header}
use Rattle.dsd_journal.specs.Headers.{IsHeader, header_bytes}

-- An open gate is the byte a5 hexadecimal; any other byte is a closed one.
abbrev pub open_gate : ℕ
open_gate = 165

-- 'S' signed, 'T' taken
abbrev pub kind_letter : EntryKind → ℕ
kind_letter Signed = 83
kind_letter Took = 84

-- how long a payload may be
abbrev pub IsPayloadLength : ℕ → Type 0
IsPayloadLength n = (0 < n) × (n ≤ SET_BYTES)

-- what stands behind an entry's gate: the kind, the length as four bytes with the greatest first, the payload
abbrev pub body : Entry → List ℕ
body entry = kind_letter entry.kind ∷ (to_be_bytes w32 (length entry.payload) ++ entry.payload)

-- each entry behind an open gate
abbrev pub spelled : List Entry → List ℕ
spelled [] = []
spelled (entry ∷ entries) = open_gate ∷ (body entry ++ spelled entries)

abbrev pub EachFits : List Entry → Type 0
EachFits [] = Unit {0}
EachFits (entry ∷ entries) = IsPayloadLength (length entry.payload) × EachFits entries

-- where the gate behind these entries stands
abbrev pub gate_place : List Entry → ℕ
gate_place entries = HEADER_BYTES + length (spelled entries)

-- The bytes are a header, these entries behind open gates, and what is behind them.
pub record Leads (header : Header) (entries : List Entry) (behind bytes : List ℕ) : Type 0 where
  pub titled : IsHeader header
  pub each : EachFits entries
  pub split : bytes ≡ header_bytes header ++ (spelled entries ++ behind)

-- A journal of any size: behind its entries stand a closed gate and whatever follows it.
pub record IsJournal (header : Header) (entries : List Entry) (image : List ℕ) : Type 0 where
  pub gate : ℕ
  pub rest : List ℕ
  pub shut : gate ≢ open_gate
  pub leads : Leads header entries (gate ∷ rest) image

-- The image holds these entries: its closed gate stands among the first 67,108,864 bytes.
pub record Holds (header : Header) (entries : List Entry) (image : List ℕ) : Type 0 where
  pub journal : IsJournal header entries image
  pub within : gate_place entries < JOURNAL_BYTES
