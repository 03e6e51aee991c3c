-- What the segments of an answer say so far, and why the next one is refused.
use Rattle.std.specs.Prelude.{ℕ, ◌+◌, Bool, true, false, ◌&&◌, ◌==◌, Option, Some, None}
use Rattle.block_check.specs.Crc16.{crc_from}
use Rattle.segments.specs.Views.{Seg, element_of}
use Rattle.segments.specs.Elements.{◌or_else◌}
use Rattle.transaction_set.specs.Closing.{is_closed}
use Rattle.transaction_set.specs.Kinds.{kind_of, next_phase}
use Rattle.transaction_set.specs.SoFar.{SoFar, kept, phase_in}
use Rattle.transaction_set.specs.SoFar as course
use Rattle.transaction_set.specs.Reasons.{when, as_value, admission, course_reason}
use Rattle.transaction_set.specs.declared.kind.Form.TheVariants as forms
use Rattle.transaction_set.specs.declared.kind.Kind.{Kind}
use Rattle.transaction_set.specs.declared.kind.Kind.TheVariants as kinds
use Rattle.transaction_set.specs.declared.phase.Phase.{Phase}
use Rattle.transaction_set.specs.declared.set_fault.SetReason.{SetReason}
use Rattle.transaction_set.specs.declared.set_fault.SetReason.TheVariants as reasons
use Rattle.adjustment_895.specs.HeadTable.{head_fault, head_in, is_past_levels}
use Rattle.adjustment_895.specs.declared.head.AnswerHead.{AnswerHead}

-- what both sets say, and the head where it has come
pub record Said : Type 0 where
  pub course : SoFar
  pub head : Option AnswerHead

abbrev pub nothing : Said
nothing = record { course = course.nothing; head = None }

-- the level that the head states
abbrev pub level_in : Option AnswerHead → ℕ
level_in (Some head) = head.level
level_in None = 0

-- An adjustment has a level of its own, from 1 on: with level 0 no loop may stand.
abbrev pub level_reason : Kind → Option AnswerHead → Option SetReason
level_reason kinds.LoopStart head = when (level_in head == 0) reasons.Order
level_reason _ head = None

-- a level of two digits above the highest comes before the faults of elements
abbrev pub head_reason : Seg → Option SetReason
head_reason seg = when (is_past_levels (element_of seg 5)) reasons.Limit or_else as_value (head_fault seg)

abbrev pub own_reason : Said → Seg → Kind → Option SetReason
own_reason m seg kinds.Head = head_reason seg
own_reason m seg kind = course_reason m.course seg kind

-- The first reason against a segment, behind what those before it say: none where it may stand there and is right.
unfoldable pub reason_of : Said → Seg → Option SetReason
reason_of m seg =
    level_reason (kind_of forms.Answer seg) m.head
    or_else admission forms.Answer m.course.phase (kind_of forms.Answer seg) seg
    or_else own_reason m seg (kind_of forms.Answer seg)

abbrev pub head_after : Kind → AnswerHead → Option AnswerHead → Option AnswerHead
head_after kinds.Head new old = Some new
head_after _ new old = old

unfoldable pub kept_by : Said → Seg → Kind → Phase → ℕ → ℕ → Said
kept_by m seg kind phase count check = record {
  course = kept m.course seg kind phase count check;
  head = head_after kind (head_in seg) m.head;
}

-- what is said with one more segment
abbrev pub after : Said → Seg → Said
after m seg = kept_by m seg (kind_of forms.Answer seg) (phase_in (next_phase m.course.phase (kind_of forms.Answer seg) forms.Answer)) (m.course.count + 1) (crc_from m.course.check seg.bytes)

abbrev pub has_head : Option AnswerHead → Bool
has_head (Some head) = true
has_head None = false

-- The trailer has come. A head and a signature have then come too, and are asked for because they may be none.
abbrev pub is_whole : Said → Bool
is_whole m = is_closed m.course && has_head m.head
