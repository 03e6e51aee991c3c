-- When an answer applies to a version, and what then stands.
use Rattle.std.specs.Prelude.{◌≡◌, ◌⊎◌, ◌≤◌, ℕ, ℤ, pos, ◌==◌, nat_le, Bool, true, false, ◌&&◌, if◌then◌else◌, bytes_eq, List, length, Option, Some, None, Result, Ok, Err}
use Rattle.std.specs.Ordering.{int_eq}
use Rattle.dsd_pricing.specs.Pricing.{priced, quantities}
use Rattle.dsd_pricing.specs.declared.amounts.Totals.{Totals}
use Rattle.dsd_values.specs.declared.extra.Extra.{Extra}
use Rattle.dsd_values.specs.declared.flag.Flag.{Flag}
use Rattle.dsd_values.specs.declared.flag.Flag.TheVariants.{Credit, Debit}
use Rattle.dsd_values.specs.declared.limits.TheConstants.{MOST_LINES}
use Rattle.dsd_values.specs.declared.line.Line.{Line}
use Rattle.segments.specs.Elements.{◌or_else◌}
use Rattle.adjustment_895.specs.AnswerRecord.{AnswerRecord}
use Rattle.adjustment_895.specs.Grammar.{has_none}
use Rattle.dsd_record.specs.LineChanges.{changed}
use Rattle.dsd_record.specs.Naming.{Names, answered_level, proposal_of}
use Rattle.dsd_record.specs.Version.{Version}
use Rattle.dsd_record.specs.declared.fault.ApplyFault.{ApplyFault}
use Rattle.dsd_record.specs.declared.fault.ApplyFault.TheVariants.{Limit, Memory, TotalsDiffer, WrongCheck, WrongDelivery, WrongLevel}

-- the lines behind the answer, of which an acknowledgement changes none
abbrev pub lines_after : Version → AnswerRecord → List Line
lines_after version answer = changed version.lines answer.lines

-- the totals that the answer states
abbrev pub stated_by : AnswerRecord → Totals
stated_by answer = record { quantity = answer.quantity; amount = answer.amount }

-- ---- when it applies

-- The answer names the proposal of the version, and states what the lines then come to.
pub record Applies (version : Version) (answer : AnswerRecord) : Type 0 where
  pub flag : answer.flag ≡ version.flag
  pub named : Names answer (proposal_of version)
  pub few : length (lines_after version answer) ≤ MOST_LINES
  pub quantity : answer.quantity ≡ quantities (lines_after version answer)
  pub amount : pos answer.amount ≡ priced (lines_after version answer) version.extras

-- ---- why it does not: the first of these

abbrev pub is_same_flag : Flag → Flag → Bool
is_same_flag Debit Debit = true
is_same_flag Debit Credit = false
is_same_flag Credit Debit = false
is_same_flag Credit Credit = true

-- the fault, unless the test holds
abbrev pub unless : Bool → ApplyFault → Option ApplyFault
unless test fault = if test then None else Some fault

abbrev pub naming_fault : Version → AnswerRecord → Option ApplyFault
naming_fault version answer =
    unless (is_same_flag answer.flag version.flag && bytes_eq answer.number version.number) WrongDelivery
    or_else unless (answer.level == answered_level answer.lines version.level) (WrongLevel version.level answer.level)
    or_else unless (answer.check == version.check) (WrongCheck version.check answer.check)

-- the sum may be below 0, or above any that can be stated
abbrev pub totals_fault : AnswerRecord → ℕ → ℤ → Option ApplyFault
totals_fault answer quantity sum =
    unless (answer.quantity == quantity) (TotalsDiffer answer.quantity (pos quantity))
    or_else unless (int_eq (pos answer.amount) sum) (TotalsDiffer answer.amount sum)

-- of the rows that would stand
abbrev pub rows_fault : AnswerRecord → List Line → List Extra → Option ApplyFault
rows_fault answer lines extras =
    unless (nat_le (length lines) MOST_LINES) (Limit (length lines))
    or_else totals_fault answer (quantities lines) (priced lines extras)

abbrev pub apply_fault : Version → AnswerRecord → Option ApplyFault
apply_fault version answer = naming_fault version answer or_else rows_fault answer (lines_after version answer) version.extras

-- An answer is refused with the fault, or for want of memory; where it is not, there is no fault, and what was made is such.
abbrev pub Refuses : {X : Type 0} → Result X ApplyFault → Option ApplyFault → (X → Type 0) → Type 0
Refuses (Ok x) fault Made = (fault ≡ None) × Made x
Refuses (Err e) fault Made = (e ≡ Memory) ⊎ (fault ≡ Some e)

-- the same where no memory is taken
abbrev pub refused_by : Option ApplyFault → Result (Unit {0}) ApplyFault
refused_by (Some fault) = Err fault
refused_by None = Ok tt

-- ---- what then stands

-- what an adjustment makes, which has this integrity value: where it applies, its lines come to the totals that it states
abbrev pub adjusted : Version → AnswerRecord → ℕ → Version
adjusted version answer check = record version {
  lines = lines_after version answer;
  totals = stated_by answer;
  level = answer.level;
  check = check;
}

-- an acknowledgement, which has no lines, changes nothing
abbrev pub applied : Version → AnswerRecord → ℕ → Version
applied version answer check = if has_none answer.lines then version else adjusted version answer check
