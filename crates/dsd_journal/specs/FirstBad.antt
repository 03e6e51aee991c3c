-- Where an image that holds no journal is refused. This project's profile.
use Rattle.std.specs.Prelude.{ℕ, ◌+◌, ◌<◌, ◌≤◌, ◌≡◌, ◌⊎◌, List, ◌∷◌, ◌++◌, length, take}
use Rattle.std.specs.Int.{w32, to_be_bytes}
use Rattle.dsd_journal.specs.declared.limits.TheConstants.{JOURNAL_BYTES}
use Rattle.dsd_journal.specs.declared.entry.EntryKind.{EntryKind}
use Rattle.dsd_journal.specs.declared.entry.Entry.{Entry}
use Rattle.dsd_journal.specs.declared.header.Header.{Header}
use Rattle.dsd_journal.specs.JournalImage.{open_gate, kind_letter, gate_place, IsPayloadLength, Leads, IsJournal, Holds}

-- Some journal of any size begins with these bytes.
pub record Begins (front : List ℕ) : Type 0 where
  pub header : Header
  pub entries : List Entry
  pub tail : List ℕ
  pub journal : IsJournal header entries (front ++ tail)

-- The bytes before a place begin a journal. Then the image ends, or with the byte there no journal of any size goes on.
pub record StopsAt (image : List ℕ) (place : ℕ) : Type 0 where
  pub inside : place ≤ length image
  pub before : Begins (take place image)
  pub ends : (place ≡ length image) ⊎ (Begins (take (place + 1) image) → ⊥)

-- Behind entries and an open gate that have their place stand a kind and a length, and the gate behind that payload would stand past
-- the last place. The place is that of the kind.
pub record Outgrows (image : List ℕ) (place : ℕ) : Type 0 where
  pub header : Header
  pub entries : List Entry
  pub kind : EntryKind
  pub size : ℕ
  pub rest : List ℕ
  pub sized : IsPayloadLength size
  pub leads : Leads header entries (open_gate ∷ kind_letter kind ∷ (to_be_bytes w32 size ++ rest)) image
  pub near : gate_place entries < JOURNAL_BYTES
  pub far : JOURNAL_BYTES ≤ gate_place entries + 6 + size
  pub kind_place : place ≡ gate_place entries + 1

-- An image is refused at the kind of the entry that outgrows the last place. Where there is none, and the image holds no journal, it is
-- refused at the first byte with which no journal of any size goes on, or at its length where it ends too early.
pub data IsRefused (image : List ℕ) (place : ℕ) : Type 0 where
  Outgrown : Outgrows image place → IsRefused image place
  Stopped : ((at : ℕ) → Outgrows image at → ⊥) → ((header : Header) (entries : List Entry) → Holds header entries image → ⊥) → StopsAt image place → IsRefused image place
