-- Which texts spell which segments: segments as X12 has them, with the terminators and the limits of this
-- project's profile.
use Rattle.std.specs.Prelude.{◌≡◌, ◌⊎◌, ℕ, ◌+◌, ◌≤◌, Bool, false, not, ◌&&◌, ◌||◌, ◌==◌, nat_le, IsTrue, List, [], ◌∷◌, ◌++◌, length, All}
use Rattle.std.specs.Char.{is_ascii_digit, is_ascii_uppercase}
use Rattle.std.specs.Int.{is_in_range}
use Rattle.std.specs.List.{AllPass, join_with_byte, list_all, slice_index_or}
use Rattle.segments.specs.Views.{Seg, Left}
use Rattle.segments.specs.declared.segment.TheConstants.{SEGMENT_BYTES, SEGMENT_ELEMENTS}

-- the separator of the elements, '*' (X12)
abbrev pub is_star : ℕ → Bool
is_star byte = byte == 42

-- a byte that may stand before a terminator: printable ASCII (this profile)
abbrev pub is_inside : ℕ → Bool
is_inside byte = is_in_range 0x20 0x7E byte

-- a byte that may stand in an element
abbrev pub is_element_character : ℕ → Bool
is_element_character byte = is_inside byte && not (is_star byte)

-- an id or an element: element characters alone
abbrev pub IsPart : List ℕ → Type 0
IsPart part = AllPass is_element_character part

-- A to Z, or a digit
abbrev pub is_id_byte : ℕ → Bool
is_id_byte byte = is_ascii_uppercase byte || is_ascii_digit byte

-- an id: 2 or 3 letters and digits, a letter first (X12)
abbrev pub is_id : List ℕ → Bool
is_id [] = false
is_id (first ∷ more) = is_ascii_uppercase first && list_all is_id_byte more && nat_le 1 (length more) && nat_le (length more) 2

-- what a segment may be: an id and at most 30 elements (this profile)
pub record IsSegment (parts : List (List ℕ)) : Type 0 where
  pub characters : All IsPart parts
  pub id : IsTrue (is_id (slice_index_or parts 0 []))
  pub few : length parts ≤ SEGMENT_ELEMENTS + 1

-- a terminator: LF or CR LF (this profile)
abbrev pub IsEnding : List ℕ → Type 0
IsEnding ending = (ending ≡ 10 ∷ []) ⊎ (ending ≡ 13 ∷ 10 ∷ [])

-- the id, the elements each after a '*', and a terminator (X12)
abbrev pub Spells : List (List ℕ) → List ℕ → Type 0
Spells parts bytes = (ending : List ℕ) × IsEnding ending × (bytes ≡ join_with_byte 42 parts ++ ending)

-- a segment in its spelling, however long it is
pub record IsLongSegment (seg : Seg) : Type 0 where
  pub segment : IsSegment seg.parts
  pub spelled : Spells seg.parts seg.bytes

-- a segment in its spelling, of at most 512 bytes (this profile)
pub record SpellsSegment (seg : Seg) : Type 0 where
  pub segment : IsSegment seg.parts
  pub spelled : Spells seg.parts seg.bytes
  pub short : length seg.bytes ≤ SEGMENT_BYTES

-- the segment is spelled at the front of what was left, and the rest stands behind it
pub record IsFront (seg : Seg) (old new : Left) : Type 0 where
  pub spelled : SpellsSegment seg
  pub start : seg.start ≡ old.place
  pub there : old.rest ≡ seg.bytes ++ new.rest
  pub place : new.place ≡ old.place + length seg.bytes

-- a text that starts at this place is the spellings of these segments, joined
abbrev pub SpellsSegments : ℕ → List Seg → List ℕ → Type 0
SpellsSegments place [] text = text ≡ []
SpellsSegments place (seg ∷ more) text =
    SpellsSegment seg × (seg.start ≡ place)
    × ((rest : List ℕ) × (text ≡ seg.bytes ++ rest) × SpellsSegments (place + length seg.bytes) more rest)
