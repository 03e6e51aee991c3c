-- Which texts are a base record, of which value: a relation, apart from any reading.
use Rattle.std.specs.Prelude.{◌≡◌, ◌≤◌, ℕ, List, length, All, Ok}
use Rattle.dsd_pricing.specs.Pricing.{quantities, totals_of}
use Rattle.dsd_values.specs.declared.limits.TheConstants.{SET_BYTES}
use Rattle.segments.specs.Views.{Seg}
use Rattle.segments.specs.SegmentSpelling.{IsLongSegment, SpellsSegments}
use Rattle.transaction_set.specs.Grammar.{IsSound}
use Rattle.transaction_set.specs.SoundLines.{HaveFew}
use Rattle.transaction_set.specs.declared.seal.Seal.{Seal}
use Rattle.base_record_894.specs.BaseRecord.{BaseRecord}
use Rattle.base_record_894.specs.Grammar.{AreSegments}

-- The text is segments in the order of a base record, each of which says its part of this record; it states the quantity and the
-- amount that the rows come to, and is sealed so.
pub record Is894 (base : BaseRecord) (seal : Seal) (text : List ℕ) : Type 0 where
  pub segments : List Seg
  pub spelled : SpellsSegments 0 segments text
  pub amount : ℕ
  pub price : totals_of base.lines base.extras ≡ Ok (record { quantity = quantities base.lines; amount = amount })
  pub shape : AreSegments base seal amount segments
  pub sound : IsSound base.lines base.extras
  pub short : length text ≤ SET_BYTES

-- Some segments say the record, however long they are: the records that a text spells, lengths aside. No more extras stand at one
-- place than a set has bytes.
pub record IsBase (base : BaseRecord) : Type 0 where
  pub seal : Seal
  pub segments : List Seg
  pub spelled : All IsLongSegment segments
  pub amount : ℕ
  pub price : totals_of base.lines base.extras ≡ Ok (record { quantity = quantities base.lines; amount = amount })
  pub shape : AreSegments base seal amount segments
  pub sound : IsSound base.lines base.extras
  pub few : HaveFew base.lines base.extras
