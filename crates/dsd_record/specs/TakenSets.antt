-- A reader that takes the segments of a set one after another, of whichever form its first one is.
use Rattle.std.specs.Prelude.{◌≡◌, ◌<◌, ℕ, Bool, true, false, List, [], length, Result, Err}
use Rattle.segments.specs.Views.{Seg}
use Rattle.segments.specs.declared.segment_fault.SegmentFault.{SegmentFault}
use Rattle.transaction_set.specs.Kinds.{is_start_of}
use Rattle.transaction_set.specs.Taking.{IsTaken, Takes, broken_by, none_taken}
use Rattle.transaction_set.specs.declared.kind.Form.TheVariants as forms
use Rattle.transaction_set.specs.declared.set_fault.SetFault.{SetFault}
use Rattle.transaction_set.specs.declared.set_fault.SetFault.TheVariants as errors
use Rattle.transaction_set.specs.declared.set_fault.SetReason.TheVariants as reasons
use Rattle.base_record_894.specs.FirstRefusal.{judged as base_judged}
use Rattle.base_record_894.specs.Said.{nothing as no_base}
use Rattle.adjustment_895.specs.FirstRefusal.{judged as answer_judged}
use Rattle.adjustment_895.specs.Said.{nothing as no_answer}
use Rattle.dsd_record.specs.SetTexts.{begins_as}
use Rattle.dsd_record.specs.declared.set_reader.Begun.{Begun}
use Rattle.dsd_record.specs.declared.set_reader.Begun.TheVariants as readers

-- some segment has come, and the first one begins an answer or not
pub record HasBegun (answer : Bool) (text : List ℕ) : Type 0 where
  pub some : 0 < length text
  pub begins : begins_as forms.Answer text ≡ answer

-- The reader has taken segments whose joined bytes are this text. Where there was no memory for the first one, nothing is said.
abbrev pub HasTaken : List ℕ → Begun → Type 0
HasTaken text readers.Nothing = text ≡ []
HasTaken text (readers.Base base) = HasBegun false text × IsTaken base_judged no_base text base
HasTaken text (readers.Answer answer) = HasBegun true text × IsTaken answer_judged no_answer text answer
HasTaken text readers.Lost = Unit {0}

-- ---- one segment more

-- the first segment begins the set: an answer where it is the ST of one, else a base record
abbrev pub Begins : Bool → Seg → Result Bool SetFault → Begun → Type 0
Begins false seg answer (readers.Base base) = Takes base_judged (none_taken no_base) seg answer base
Begins true seg answer (readers.Answer taken) = Takes answer_judged (none_taken no_answer) seg answer taken
Begins _ seg answer readers.Lost = answer ≡ Err errors.Memory
Begins _ seg answer _ = ⊥

-- a later one goes to the set that was begun
abbrev pub TakesNext : Begun → Seg → Result Bool SetFault → Begun → Type 0
TakesNext readers.Nothing seg answer new = Begins (is_start_of forms.Answer seg) seg answer new
TakesNext (readers.Base old) seg answer (readers.Base new) = Takes base_judged old seg answer new
TakesNext (readers.Answer old) seg answer (readers.Answer new) = Takes answer_judged old seg answer new
TakesNext readers.Lost seg answer readers.Lost = answer ≡ Err errors.Memory
TakesNext _ seg answer _ = ⊥

-- ---- the end

-- why the text is refused that goes on behind the segments taken with bytes of which no segment can be read
abbrev pub set_broken_by : Begun → SegmentFault → SetFault
set_broken_by readers.Nothing fault = errors.Refused 0 (reasons.Segment fault)
set_broken_by (readers.Base base) fault = broken_by base fault base.fault
set_broken_by (readers.Answer answer) fault = broken_by answer fault answer.fault
set_broken_by readers.Lost fault = errors.Memory
