-- Why no segment stands at the front of a text, in the words of each fault. The bytes are judged in order, so of the
-- first three that one stands there before which all bytes are those of a segment.
use Rattle.std.specs.Prelude.{◌≡◌, ◌≢◌, ◌⊎◌, ℕ, ◌+◌, ◌-◌, ◌<◌, ◌≤◌, true, false, List, [], ◌∷◌, ◌++◌, length, All}
use Rattle.std.specs.List.{AllPass, slice_index_or}
use Rattle.segments.specs.Views.{Left}
use Rattle.segments.specs.SegmentSpelling.{IsPart, Spells, is_id, is_inside}
use Rattle.segments.specs.declared.segment.TheConstants.{SEGMENT_BYTES, SEGMENT_ELEMENTS}
use Rattle.segments.specs.declared.segment_fault.SegmentFault.{SegmentFault}
use Rattle.segments.specs.declared.segment_fault.SegmentFault.TheVariants.{NoEnd, BadByte, BadId, TooLong, TooManyElements}

-- element characters and '*' stand at the front, and then this
pub record IsThere (left : Left) (body after : List ℕ) : Type 0 where
  pub inside : AllPass is_inside body
  pub joined : left.rest ≡ body ++ after

-- some text that ends in the segment, after 512 bytes at most; a CR may be its last byte
pub record EndsInside (left : Left) : Type 0 where
  pub body : List ℕ
  pub after : List ℕ
  pub there : IsThere left body after
  pub over : (after ≡ []) ⊎ (after ≡ 13 ∷ [])
  pub some : 0 < length left.rest
  pub short : length left.rest ≤ SEGMENT_BYTES

-- one of the first 513 bytes is neither an element character, '*', LF nor CR
pub record HasBadByte (left : Left) (place byte : ℕ) : Type 0 where
  pub body : List ℕ
  pub more : List ℕ
  pub there : IsThere left body (byte ∷ more)
  pub outside : is_inside byte ≡ false
  pub no_feed : byte ≢ 10
  pub no_return : byte ≢ 13
  pub early : length body ≤ SEGMENT_BYTES
  pub at : place ≡ left.place + length body

-- one of the first 512 bytes is a CR, and another byte than LF follows it
pub record HasLoneReturn (left : Left) (place : ℕ) : Type 0 where
  pub body : List ℕ
  pub next : ℕ
  pub more : List ℕ
  pub there : IsThere left body (13 ∷ next ∷ more)
  pub alone : next ≢ 10
  pub early : length body ≤ SEGMENT_BYTES - 1
  pub at : place ≡ left.place + length body

-- the 513th byte still belongs to the segment: one of its characters, its LF, or a CR
pub record IsTooLong (left : Left) : Type 0 where
  pub body : List ℕ
  pub after : List ℕ
  pub there : IsThere left body after
  pub long : (SEGMENT_BYTES < length body)
      ⊎ ((more : List ℕ) × (length body ≡ SEGMENT_BYTES) × ((after ≡ 10 ∷ more) ⊎ (after ≡ 13 ∷ more)))
      ⊎ ((more : List ℕ) × (length body ≡ SEGMENT_BYTES - 1) × (after ≡ 13 ∷ 10 ∷ more))

-- these parts are spelled there, within the limit of bytes
pub record HasParts (left : Left) (parts : List (List ℕ)) : Type 0 where
  pub bytes : List ℕ
  pub more : List ℕ
  pub joined : left.rest ≡ bytes ++ more
  pub spelled : Spells parts bytes
  pub characters : All IsPart parts
  pub some : 0 < length parts
  pub short : length bytes ≤ SEGMENT_BYTES

-- the fault that stands at the front of what is left
abbrev pub IsFault : Left → SegmentFault → Type 0
IsFault left (NoEnd start) = (start ≡ left.place) × EndsInside left
IsFault left (BadByte place byte) = HasBadByte left place byte ⊎ ((byte ≡ 13) × HasLoneReturn left place)
IsFault left (BadId start) = (start ≡ left.place) × ((parts : List (List ℕ)) × HasParts left parts × (is_id (slice_index_or parts 0 []) ≡ false))
IsFault left (TooLong start) = (start ≡ left.place) × IsTooLong left
IsFault left (TooManyElements start) = (start ≡ left.place)
    × ((parts : List (List ℕ)) × HasParts left parts × (is_id (slice_index_or parts 0 []) ≡ true) × (SEGMENT_ELEMENTS + 1 < length parts))
