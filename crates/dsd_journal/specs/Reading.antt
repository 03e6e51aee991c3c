-- What is read of an image from left to right, of which more may come.
use Rattle.std.specs.Prelude.{ℕ, ◌+◌, ◌*◌, ◌<◌, ◌≤◌, ◌≡◌, ◌≢◌, ◌⊎◌, ◌==◌, ◌||◌, ◌&&◌, not, nat_lt, nat_le, false, Option, Some, None, Result, Ok, Err, Bool, true, if◌then◌else◌, List, [], ◌∷◌, ◌++◌, length, take, drop, codes, slice_index_or}
use Rattle.std.specs.Int.{w32, to_be_bytes}
use Rattle.dsd_values.specs.Reading.{is_no_id_byte}
use Rattle.dsd_values.specs.declared.role.Role.{Role}
use Rattle.dsd_values.specs.declared.role.Role.TheVariants.{Supplier, Receiver}
use Rattle.dsd_values.specs.declared.limits.TheConstants.{SET_BYTES}
use Rattle.dsd_journal.specs.declared.limits.TheConstants.{HEADER_BYTES, JOURNAL_BYTES}
use Rattle.dsd_journal.specs.declared.entry.EntryKind.{EntryKind}
use Rattle.dsd_journal.specs.declared.entry.EntryKind.TheVariants.{Signed, Took}
use Rattle.dsd_journal.specs.declared.entry.Entry.{Entry}
use Rattle.dsd_journal.specs.declared.header.Header.{Header}
use Rattle.dsd_journal.specs.JournalImage.{open_gate, kind_letter, body, spelled, gate_place, EachFits, IsPayloadLength}

-- ---- the header, a byte at a time

-- whether a byte may stand at this place of a header
abbrev pub header_fits : ℕ → ℕ → Bool
header_fits place byte =
    if nat_lt place 5 then byte == slice_index_or (codes "DEXJ1") place 0 else (if place == 5 then byte == 72 || byte == 82 else (if nat_lt place 26 then not (is_no_id_byte byte) else byte == 10))

-- each byte below this place may stand in a header
abbrev pub FitsBelow : ℕ → List ℕ → Type 0
FitsBelow place bytes = (i : ℕ) → i < place → header_fits i (slice_index_or bytes i 0) ≡ true

abbrev pub role_of_letter : ℕ → Role
role_of_letter letter = if letter == 72 then Supplier else Receiver

-- the header of 27 bytes
abbrev pub header_of : List ℕ → Header
header_of bytes = record { role = role_of_letter (slice_index_or bytes 5 0); own = take 10 (drop 6 bytes); peer = take 10 (drop 16 bytes) }

-- the bytes of which 27 are wanted: they end before that, or have one that may not stand in a header at its place
pub record IsMistitled (bytes : List ℕ) (place : ℕ) : Type 0 where
  pub low : place < HEADER_BYTES
  pub inside : place ≤ length bytes
  pub before : FitsBelow place bytes
  pub cause : (place ≡ length bytes) ⊎ ((place < length bytes) × (header_fits place (slice_index_or bytes place 0) ≡ false))

-- ---- the length of a payload, four bytes with the greatest first

-- some length has these first bytes
pub record StartsSize (bytes : List ℕ) : Type 0 where
  pub size : ℕ
  pub sized : IsPayloadLength size
  pub rest : List ℕ
  pub spelled : bytes ++ rest ≡ to_be_bytes w32 size

-- some length has the first k bytes, and then the bytes end, or no length goes on with the next
pub record EndsSize (bytes : List ℕ) (k : ℕ) : Type 0 where
  pub few : k < 4
  pub before : StartsSize (take k bytes)
  pub ends : (length bytes ≡ k) ⊎ ((k < length bytes) × (StartsSize (take (k + 1) bytes) → ⊥))

-- a length, or how many of its bytes some length has
abbrev pub size_fourth : ℕ → ℕ → List ℕ → Result ℕ ℕ
size_fourth b c [] = Err 3
size_fourth b c (d ∷ rest) =
    let size = b * 65536 + c * 256 + d in if nat_lt d 256 && (nat_lt 0 size && nat_le size SET_BYTES) then Ok size else Err 3

abbrev pub size_third : ℕ → List ℕ → Result ℕ ℕ
size_third b [] = Err 2
size_third b (c ∷ rest) = if nat_lt c 256 && (nat_lt b 4 || c == 0) then size_fourth b c rest else Err 2

abbrev pub size_second : List ℕ → Result ℕ ℕ
size_second [] = Err 1
size_second (b ∷ rest) = if nat_le b 4 then size_third b rest else Err 1

abbrev pub size_of : List ℕ → Result ℕ ℕ
size_of [] = Err 0
size_of (a ∷ rest) = if a == 0 then size_second rest else Err 0

-- ---- what stands behind an open gate

-- some entry has these first bytes behind its gate
pub record StartsEntry (front : List ℕ) : Type 0 where
  pub entry : Entry
  pub sized : IsPayloadLength (length entry.payload)
  pub tail : List ℕ
  pub whole : front ++ tail ≡ body entry

-- A whole entry stands behind the gate, and the next gate has its place.
pub record IsWhole (gate : ℕ) (behind : List ℕ) (kind : EntryKind) (payload rest : List ℕ) : Type 0 where
  pub sized : IsPayloadLength (length payload)
  pub split : behind ≡ body (record { kind = kind; payload = payload }) ++ rest
  pub near : gate + 6 + length payload < JOURNAL_BYTES

-- The bytes end inside an entry.
pub record IsUnfinished (gate : ℕ) (behind : List ℕ) : Type 0 where
  pub starts : StartsEntry behind
  pub short : length behind < length (body starts.entry)
  pub near : 5 ≤ length behind → gate + 6 + length starts.entry.payload < JOURNAL_BYTES

-- No entry stands behind the gate: none goes on with the byte at this place, or the one there has no place for its next gate.
pub data IsBad (gate : ℕ) (behind : List ℕ) (place : ℕ) : Type 0 where
  NoEntry : (k : ℕ) → k < 5 → k < length behind → StartsEntry (take k behind) → (StartsEntry (take (k + 1) behind) → ⊥) → place ≡ gate + 1 + k → IsBad gate behind place
  TooFar : (kind : EntryKind) (size : ℕ) (rest : List ℕ) → IsPayloadLength size → behind ≡ kind_letter kind ∷ (to_be_bytes w32 size ++ rest) → JOURNAL_BYTES ≤ gate + 6 + size → place ≡ gate + 1
      → IsBad gate behind place

-- the gate at the front is closed
abbrev pub IsShut : List ℕ → Type 0
IsShut bytes = (byte : ℕ) × (rest : List ℕ) × (bytes ≡ byte ∷ rest) × (byte ≢ open_gate)

-- the bytes end before the gate, or inside the entry behind it
abbrev pub IsWaiting : ℕ → List ℕ → Type 0
IsWaiting gate bytes = (bytes ≡ []) ⊎ ((behind : List ℕ) × (bytes ≡ open_gate ∷ behind) × IsUnfinished gate behind)

-- ---- entries taken from the front of bytes

pub record Takes (old new : List Entry) (bytes rest : List ℕ) : Type 0 where
  pub more : List Entry
  pub each : EachFits more
  pub list : new ≡ old ++ more
  pub split : bytes ≡ spelled more ++ rest

-- Behind some entries that were taken stands an open gate that has its place, and no entry behind it.
pub record MeetsBad (old : List Entry) (bytes : List ℕ) (place : ℕ) : Type 0 where
  pub new : List Entry
  pub behind : List ℕ
  pub takes : Takes old new bytes (open_gate ∷ behind)
  pub near : gate_place new < JOURNAL_BYTES
  pub bad : IsBad (gate_place new) behind place

-- the kind of a letter
abbrev pub kind_of_letter : ℕ → Option EntryKind
kind_of_letter letter = if letter == 83 then Some Signed else (if letter == 84 then Some Took else None)

-- What stands behind the gate: a kind, a payload and what is behind it; or nothing whole; or the place at which no entry goes on.
abbrev pub with_size : ℕ → EntryKind → List ℕ → Result ℕ ℕ → Result (Option (EntryKind × List ℕ × List ℕ)) ℕ
with_size gate kind rest (Err k) = if length rest == k then Ok None else Err (gate + 2 + k)
with_size gate kind rest (Ok size) =
    if nat_le JOURNAL_BYTES (gate + 6 + size) then Err (gate + 1) else (if nat_lt (length rest) (4 + size) then Ok None else Ok (Some (kind, take size (drop 4 rest), drop (4 + size) rest)))

abbrev pub with_kind : ℕ → List ℕ → Option EntryKind → Result (Option (EntryKind × List ℕ × List ℕ)) ℕ
with_kind gate rest None = Err (gate + 1)
with_kind gate rest (Some kind) = with_size gate kind rest (size_of rest)

abbrev pub entry_of : ℕ → List ℕ → Result (Option (EntryKind × List ℕ × List ℕ)) ℕ
entry_of gate [] = Ok None
entry_of gate (first ∷ rest) = with_kind gate rest (kind_of_letter first)
