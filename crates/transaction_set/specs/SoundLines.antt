-- Which lines and extras some set may state, each by itself and however long its segments are: what a set may be made of.
use Rattle.std.specs.Prelude.{◌≡◌, ◌⊎◌, ◌≤◌, ◌<◌, ℕ, Bool, true, false, List, [], length, codes, All, Option, IfSome}
use Rattle.std.specs.List.{join_with_byte, slice_index_or}
use Rattle.dsd_values.specs.Reading.{IsElementText, IsNumberText}
use Rattle.dsd_values.specs.declared.allowance.Allowance.{Allowance}
use Rattle.dsd_values.specs.declared.cents.TheConstants.Cents.{MAX as MOST_CENTS}
use Rattle.dsd_values.specs.declared.cost.TheConstants.Cost.{MAX as MOST_COST}
use Rattle.dsd_values.specs.declared.delivery_number.TheConstants.{DELIVERY_NUMBER_BYTES}
use Rattle.dsd_values.specs.declared.dsd_number.TheConstants.DsdNumber.{MIN as LEAST_DSD, MAX as MOST_DSD}
use Rattle.dsd_values.specs.declared.extra.Extra.{Extra}
use Rattle.dsd_values.specs.declared.limits.TheConstants.{SET_BYTES, WORD_BYTES}
use Rattle.dsd_values.specs.declared.line.Line.{Line}
use Rattle.dsd_values.specs.declared.percent.TheConstants.Percent.{MAX as MOST_PERCENT}
use Rattle.dsd_values.specs.declared.quantity.TheConstants.Quantity.{MAX as MOST_QUANTITY}
use Rattle.segments.specs.Views.{Seg}
use Rattle.transaction_set.specs.Allowances.{HasSize}
use Rattle.transaction_set.specs.Extras.{AreExtras, IsExtra}
use Rattle.transaction_set.specs.Grammar.{AreApart, IsItem}
use Rattle.transaction_set.specs.Kinds.{kind_of}
use Rattle.segments.specs.SegmentSpelling.{IsSegment}
use Rattle.segments.specs.SegmentWriting.{without_empty_end}
use Rattle.transaction_set.specs.declared.kind.Form.{Form}

-- ---- sound

-- some segment says the extra, in a line or at record level, in a set of either form
pub record IsSoundExtra (in_line : Bool) (extra : Extra) : Type 0 where
  pub saying : Seg
  pub segment : IsSegment saying.parts
  pub says : (form : Form) → IsExtra in_line extra (kind_of form saying) saying

-- no more of them than a set has bytes
abbrev pub AreFew : List Extra → Type 0
AreFew extras = length extras ≤ SET_BYTES

-- each of them is sound, and no more allowances or extras than may stand there
pub record AreSoundExtras (in_line : Bool) (extras : List Extra) : Type 0 where
  pub each : All (IsSoundExtra in_line) extras
  pub limit : AreExtras in_line extras
  pub few : AreFew extras

-- some item says the line but for its extras, and these are sound
pub record IsSoundLine (line : Line) : Type 0 where
  pub item : Seg
  pub segment : IsSegment item.parts
  pub says : IsItem line item
  pub extras : AreSoundExtras true line.extras

-- each of them is sound, and no DSD number stands twice
pub record AreSoundLines (lines : List Line) : Type 0 where
  pub sound : All IsSoundLine lines
  pub apart : AreApart lines

-- no more extras behind a line, or beside the lines, than a set has bytes
pub record HaveFew (lines : List Line) (extras : List Extra) : Type 0 where
  pub behind : All (λ (line : Line). AreFew line.extras) lines
  pub beside : AreFew extras

-- ---- values that are sound by themselves

-- element characters, no more of them than a word has
pub record IsPlainWord (text : List ℕ) : Type 0 where
  pub characters : IsElementText text
  pub short : length text ≤ WORD_BYTES

-- 1 to 22 element characters, none of them a space
pub record IsPlainNumber (number : List ℕ) : Type 0 where
  pub characters : IsNumberText number
  pub filled : 0 < length number
  pub short : length number ≤ DELIVERY_NUMBER_BYTES

-- elements of a line that are right by themselves, and no tail
pub record IsPlainLine (line : Line) : Type 0 where
  pub least : LEAST_DSD ≤ line.dsd
  pub most : line.dsd ≤ MOST_DSD
  pub quantity : line.quantity ≤ MOST_QUANTITY
  pub unit : IsPlainWord line.unit
  pub filled : 0 < length line.unit
  pub upc : IsPlainWord line.upc
  pub qualifier : IsPlainWord line.details.qualifier
  pub id : IsPlainWord line.details.id
  pub case_code : IsPlainWord line.details.case_code
  pub cost : line.cost ≤ MOST_COST
  pub pack : IsPlainWord line.details.pack
  pub label : IsPlainWord line.details.label
  pub tail : line.tail ≡ []

-- a number that may be left out
abbrev pub IsAtMost : ℕ → Option ℕ → Type 0
IsAtMost most value = IfSome value (λ n. n ≤ most)

-- elements of an allowance that are right by themselves, with a size where it needs one, and no tail
pub record IsPlainAllowance (in_line : Bool) (allowance : Allowance) : Type 0 where
  pub code : IsPlainWord allowance.code
  pub code_filled : 0 < length allowance.code
  pub method : IsPlainWord allowance.method
  pub method_filled : 0 < length allowance.method
  pub number : IsPlainWord allowance.number
  pub exception : IsPlainWord allowance.exception
  pub rate : IsAtMost MOST_COST allowance.rate
  pub quantity : IsAtMost MOST_QUANTITY allowance.quantity
  pub unit : IsPlainWord allowance.unit
  pub total : IsAtMost MOST_CENTS allowance.total
  pub percent : IsAtMost MOST_PERCENT allowance.percent
  pub tail : allowance.tail ≡ []
  pub size : HasSize in_line allowance

-- the ids of the notes of a line and of a record
abbrev pub IsNoteId : Bool → List ℕ → Type 0
IsNoteId true id = (id ≡ codes "G22") ⊎ (id ≡ codes "G23")
IsNoteId false id = id ≡ codes "G23"

-- the id and the elements of a note, joined, without empty ones at the end
pub record IsNote (in_line : Bool) (text : List ℕ) : Type 0 where
  pub parts : List (List ℕ)
  pub segment : IsSegment parts
  pub id : IsNoteId in_line (slice_index_or parts 0 [])
  pub trimmed : without_empty_end parts ≡ parts
  pub joined : text ≡ join_with_byte 42 parts
