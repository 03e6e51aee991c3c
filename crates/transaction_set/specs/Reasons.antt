-- Why a set is refused at a segment (this project's profile): each reason is a sentence over this segment and what those before it say.
use Rattle.std.specs.Prelude.{◌≡◌, ℕ, ◌+◌, Bool, not, ◌==◌, nat_lt, nat_le, List, [], ◌∷◌, length, Option, Some, None, Result, Ok, Err, if◌then◌else◌}
use Rattle.std.specs.List.{list_any}
use Rattle.std.specs.Str.{bytes_eq}
use Rattle.dsd_values.specs.declared.fault.ValueFault.TheVariants as faults
use Rattle.dsd_values.specs.declared.line.Line.{Line}
use Rattle.dsd_values.specs.declared.extra.Extra.{Extra}
use Rattle.dsd_values.specs.declared.limits.TheConstants.{MOST_ALLOWANCES, MOST_LINES, SET_BYTES}
use Rattle.segments.specs.Views.{Seg, element_of}
use Rattle.segments.specs.Elements.{ElementFault, ◌or_else◌}
use Rattle.transaction_set.specs.Tables.{item_fault, line_in, start_fault, loop_start_fault, loop_id_in, totals_fault, signature_fault, integrity_fault, integrity_in, trailer_fault, stated_count_in, control_again_in}
use Rattle.segments.specs.Elements.{at_element, no_more}
use Rattle.transaction_set.specs.Kinds.{next_phase}
use Rattle.transaction_set.specs.Allowances.{allowance_fault}
use Rattle.transaction_set.specs.Extras.{allowances}
use Rattle.transaction_set.specs.SoFar.{SoFar, in_line}
use Rattle.dsd_values.specs.Reading.{word_between}
use Rattle.transaction_set.specs.declared.set_fault.SetReason.{SetReason}
use Rattle.transaction_set.specs.declared.set_fault.SetReason.TheVariants as reasons
use Rattle.transaction_set.specs.declared.set_fault.SetFault.{SetFault}
use Rattle.transaction_set.specs.declared.set_fault.SetFault.TheVariants as errors
use Rattle.segments.specs.declared.item_fault.ItemFault.{ItemFault}
use Rattle.segments.specs.declared.item_fault.ItemFault.TheVariants as items
use Rattle.transaction_set.specs.declared.kind.Kind.{Kind}
use Rattle.transaction_set.specs.declared.kind.Kind.TheVariants as kinds
use Rattle.transaction_set.specs.declared.kind.Form.{Form}
use Rattle.transaction_set.specs.declared.phase.Phase.{Phase}

-- the reason, where the test holds
abbrev pub when : Bool → SetReason → Option SetReason
when test reason = if test then Some reason else None

-- an element that is refused
abbrev pub as_value : Option ElementFault → Option SetReason
as_value (Some refused) = Some (reasons.Value refused.element refused.fault)
as_value None = None

-- ---- wherever the segment stands

-- it may not stand there
abbrev pub order_reason : Option Phase → Option SetReason
order_reason None = Some reasons.Order
order_reason (Some phase) = None

-- it ends past the most bytes of a set
abbrev pub length_reason : Seg → Option SetReason
length_reason seg = when (nat_lt SET_BYTES (seg.start + length seg.bytes)) reasons.Limit

-- it may stand there, and ends within the length of a set
unfoldable pub admission : Form → Phase → Kind → Seg → Option SetReason
admission form phase kind seg = order_reason (next_phase phase kind form) or_else length_reason seg

-- ---- by its kind

-- a line has this number
abbrev pub has_line : ℕ → List Line → Bool
has_line dsd lines = list_any (λ line. line.dsd == dsd) lines

-- one line too many, an element that is refused, or a number that stands already
abbrev pub item_reason : List Line → Seg → Option SetReason
item_reason lines seg =
    when (nat_le MOST_LINES (length lines)) reasons.Limit
    or_else as_value (item_fault seg)
    or_else when (has_line (line_in seg).dsd lines) (reasons.Twice (line_in seg).dsd)

-- the extras of the last line
abbrev pub last_extras : List Line → List Extra
last_extras [] = []
last_extras (line ∷ []) = line.extras
last_extras (line ∷ next ∷ lines) = last_extras (next ∷ lines)

-- the extras that one more stands beside: behind an item those of the last line, elsewhere those of the record
abbrev pub beside : SoFar → List Extra
beside m = if in_line m.phase then last_extras m.lines else m.extras

-- one allowance too many beside so many others, or an element that is refused
abbrev pub allowance_reason : Bool → ℕ → Seg → Option SetReason
allowance_reason in_line others seg =
    when (nat_le MOST_ALLOWANCES others) reasons.Limit
    or_else as_value (allowance_fault in_line seg)

-- LE repeats the loop id of LS
abbrev pub loop_id_fault : List ℕ → Seg → Option ElementFault
loop_id_fault loop_id seg = if bytes_eq (loop_id_in seg) loop_id then None else Some (record { element = 1; fault = faults.OutOfRange })

-- the elements of an LE
abbrev pub loop_end_fault : List ℕ → Seg → Option ElementFault
loop_end_fault loop_id seg = at_element 1 (word_between 1 6 (element_of seg 1)) or_else loop_id_fault loop_id seg or_else no_more 1 seg

-- the integrity value is the check of the segments before it
abbrev pub integrity_reason : ℕ → Seg → Option SetReason
integrity_reason check seg =
    as_value (integrity_fault seg)
    or_else when (not (integrity_in seg == check)) (reasons.Check (integrity_in seg) check)

-- the trailer states the number of segments and repeats the control number
abbrev pub trailer_reason : List ℕ → ℕ → Seg → Option SetReason
trailer_reason control found seg =
    as_value (trailer_fault seg)
    or_else when (not (stated_count_in seg == found)) (reasons.Count (stated_count_in seg) found)
    or_else when (not (bytes_eq (control_again_in seg) control)) reasons.Control

-- the reasons against a segment of this kind, in the order in which they are asked; those of a head, and of the
-- totals against the lines, are each set's own
abbrev pub course_reason : SoFar → Seg → Kind → Option SetReason
course_reason m seg kinds.Start = as_value (start_fault seg)
course_reason m seg kinds.LoopStart = as_value (loop_start_fault seg)
course_reason m seg kinds.Item = item_reason m.lines seg
course_reason m seg kinds.LoopEnd = as_value (loop_end_fault m.loop_id seg)
course_reason m seg kinds.Totals = as_value (totals_fault seg)
course_reason m seg kinds.Signature = as_value (signature_fault seg)
course_reason m seg kinds.Integrity = integrity_reason m.check seg
course_reason m seg kinds.Trailer = trailer_reason m.control (m.count + 1) seg
course_reason m seg kinds.Head = None
course_reason m seg kinds.Allowance = allowance_reason (in_line m.phase) (allowances (beside m)) seg
course_reason m seg kinds.Reference = None
course_reason m seg kinds.LineNote = None
course_reason m seg kinds.Note = None
course_reason m seg kinds.Other = None

-- A call refuses with this reason at this place, or answers as said where there is none. Want of memory is free.
abbrev pub Says : {X : Type 0} → Result X SetFault → ℕ → Option SetReason → (X → Type 0) → Type 0
Says (Ok x) place reason P = (reason ≡ None) × P x
Says (Err errors.Memory) place reason P = Unit {0}
Says (Err (errors.Refused at why)) place reason P = (at ≡ place) × (reason ≡ Some why)

-- the answer about the elements of the segment that starts there, as one about the set
abbrev pub at_segment : {X : Type 0} → ℕ → Result X ItemFault → Result X SetFault
at_segment place (Ok x) = Ok x
at_segment place (Err items.Memory) = Err errors.Memory
at_segment place (Err (items.Value element fault)) = Err (errors.Refused place (reasons.Value element fault))
