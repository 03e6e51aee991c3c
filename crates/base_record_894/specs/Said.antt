-- What the segments of a base record say so far, and why the next one is refused.
use Rattle.std.specs.Prelude.{ℕ, ℤ, ◌+◌, Bool, true, false, not, ◌&&◌, ◌==◌, pos, List, Option, Some, None}
use Rattle.std.specs.Ordering.{int_eq}
use Rattle.block_check.specs.Crc16.{crc_from}
use Rattle.dsd_pricing.specs.Pricing.{priced, quantities}
use Rattle.dsd_values.specs.declared.extra.Extra.{Extra}
use Rattle.dsd_values.specs.declared.line.Line.{Line}
use Rattle.segments.specs.Views.{Seg}
use Rattle.segments.specs.Elements.{◌or_else◌}
use Rattle.transaction_set.specs.Tables.{totals_fault, totals_in}
use Rattle.transaction_set.specs.Closing.{is_closed}
use Rattle.transaction_set.specs.Kinds.{kind_of, next_phase}
use Rattle.transaction_set.specs.SoFar.{SoFar, kept, phase_in}
use Rattle.transaction_set.specs.SoFar as course
use Rattle.transaction_set.specs.Reasons.{when, as_value, admission, course_reason}
use Rattle.transaction_set.specs.declared.kind.Form.TheVariants as forms
use Rattle.transaction_set.specs.declared.kind.Kind.{Kind}
use Rattle.transaction_set.specs.declared.kind.Kind.TheVariants as kinds
use Rattle.transaction_set.specs.declared.phase.Phase.{Phase}
use Rattle.transaction_set.specs.declared.stated.StatedTotals.{StatedTotals}
use Rattle.transaction_set.specs.declared.set_fault.SetReason.{SetReason}
use Rattle.transaction_set.specs.declared.set_fault.SetReason.TheVariants as reasons
use Rattle.base_record_894.specs.HeadTable.{head_fault, head_in}
use Rattle.base_record_894.specs.declared.head.Head.{Head}

-- what both sets say, and the head where it has come
pub record Said : Type 0 where
  pub course : SoFar
  pub head : Option Head

abbrev pub nothing : Said
nothing = record { course = course.nothing; head = None }

-- the stated quantity is the sum of the lines' quantities
abbrev pub quantity_reason : ℕ → ℕ → Option SetReason
quantity_reason said computed = when (not (said == computed)) (reasons.Totals said (pos computed))

-- the stated amount is what the rows come to, which may be below 0 or above any that can be stated
abbrev pub amount_reason : ℕ → ℤ → Option SetReason
amount_reason said computed = when (not (int_eq (pos said) computed)) (reasons.Totals said computed)

-- the totals are those of the rows
abbrev pub rows_reason : StatedTotals → List Line → List Extra → Option SetReason
rows_reason said lines extras = quantity_reason said.quantity (quantities lines) or_else amount_reason said.amount (priced lines extras)

abbrev pub own_reason : Said → Seg → Kind → Option SetReason
own_reason m seg kinds.Head = as_value (head_fault seg)
own_reason m seg kinds.Totals = as_value (totals_fault seg) or_else rows_reason (totals_in seg) m.course.lines m.course.extras
own_reason m seg kind = course_reason m.course seg kind

-- The first reason against a segment, behind what those before it say: none where it may stand there and is right.
unfoldable pub reason_of : Said → Seg → Option SetReason
reason_of m seg =
    admission forms.Base m.course.phase (kind_of forms.Base seg) seg
    or_else own_reason m seg (kind_of forms.Base seg)

abbrev pub head_after : Kind → Head → Option Head → Option Head
head_after kinds.Head new old = Some new
head_after _ new old = old

unfoldable pub kept_by : Said → Seg → Kind → Phase → ℕ → ℕ → Said
kept_by m seg kind phase count check = record {
  course = kept m.course seg kind phase count check;
  head = head_after kind (head_in seg) m.head;
}

-- what is said with one more segment
abbrev pub after : Said → Seg → Said
after m seg = kept_by m seg (kind_of forms.Base seg) (phase_in (next_phase m.course.phase (kind_of forms.Base seg) forms.Base)) (m.course.count + 1) (crc_from m.course.check seg.bytes)

abbrev pub has_head : Option Head → Bool
has_head (Some head) = true
has_head None = false

-- The trailer has come. A head and a signature have then come too, and are asked for because they may be none.
abbrev pub is_whole : Said → Bool
is_whole m = is_closed m.course && has_head m.head
