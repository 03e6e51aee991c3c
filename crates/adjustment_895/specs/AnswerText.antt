-- Which texts are an answer, of which value: a relation, apart from any reading.
use Rattle.std.specs.Prelude.{◌≤◌, ℕ, List, [], length, All}
use Rattle.dsd_values.specs.declared.limits.TheConstants.{SET_BYTES}
use Rattle.segments.specs.Views.{Seg}
use Rattle.segments.specs.SegmentSpelling.{IsLongSegment, SpellsSegments}
use Rattle.transaction_set.specs.Grammar.{IsSound}
use Rattle.transaction_set.specs.SoundLines.{HaveFew}
use Rattle.transaction_set.specs.declared.seal.Seal.{Seal}
use Rattle.adjustment_895.specs.AnswerRecord.{AnswerRecord}
use Rattle.adjustment_895.specs.Grammar.{AreSegments, IsLevelled}

-- The text is segments in the order of an answer, each of which says its part of this one, and is sealed so. The totals are
-- read, and judged by who has the delivery.
pub record Is895 (answer : AnswerRecord) (seal : Seal) (text : List ℕ) : Type 0 where
  pub segments : List Seg
  pub spelled : SpellsSegments 0 segments text
  pub shape : AreSegments answer seal segments
  pub sound : IsSound answer.lines []
  pub levelled : IsLevelled answer.lines answer.level
  pub short : length text ≤ SET_BYTES

-- Some segments say the answer, however long they are: the answers that a text spells, lengths aside. No more extras stand behind a
-- line than a set has bytes.
pub record IsAnswer (answer : AnswerRecord) : Type 0 where
  pub seal : Seal
  pub segments : List Seg
  pub spelled : All IsLongSegment segments
  pub shape : AreSegments answer seal segments
  pub sound : IsSound answer.lines []
  pub levelled : IsLevelled answer.lines answer.level
  pub few : HaveFew answer.lines []
