-- An image that is read piece by piece.
use Rattle.std.specs.Prelude.{ℕ, ◌+◌, ◌<◌, ◌≤◌, ◌≡◌, List, ◌++◌, length, take, drop, vec_len}
use Rattle.dsd_journal.specs.declared.reading.Reading.{Reading}
use Rattle.dsd_journal.specs.JournalImage.{gate_place, Leads}

-- These bytes are the image up to a place.
pub record IsSoFar (image : List ℕ) (at : ℕ) (bytes : List ℕ) : Type 0 where
  pub is : bytes ≡ take at image
  pub inside : at ≤ length image

-- The bytes of the image from a place on were put behind others, so many of them: at least one, where there are any and room for one.
pub record ReadsOn (image : List ℕ) (at room count : ℕ) (old new : List ℕ) : Type 0 where
  pub more : new ≡ old ++ take count (drop at image)
  pub within : count ≤ length (drop at image)
  pub some : at < length image → 0 < room → 0 < count

-- ---- what was read, its parts counted and spelled

-- The place is that behind the entries and the bytes.
abbrev pub IsCounted : Reading → Type 0
IsCounted reading = reading.at ≡ gate_place reading.entries.list + vec_len reading.bytes

-- The image up to the place is the header, the entries and the bytes.
pub record IsRead (image : List ℕ) (reading : Reading) : Type 0 where
  pub leads : Leads reading.header reading.entries.list reading.bytes.items (take reading.at image)
  pub inside : reading.at ≤ length image
