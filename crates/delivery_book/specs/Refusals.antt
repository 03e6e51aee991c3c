-- Why an end does not take or sign a set: the first of these, in the order of trial. Each is a test of the entries.
use Rattle.std.specs.Prelude.{ℕ, ◌-◌, ◌&&◌, Bool, true, false, not, nat_lt, if◌then◌else◌, bytes_eq, List, [], Option, Some, None, Result, Ok, Err}
use Rattle.std.specs.List.{find, list_any}
use Rattle.dsd_values.specs.SignatureRecord.{SignatureRecord}
use Rattle.dsd_values.specs.declared.level.TheConstants.Level.{MAX as HIGHEST}
use Rattle.dsd_values.specs.declared.line.Line.{Line}
use Rattle.dsd_values.specs.declared.role.Role.{Role}
use Rattle.dsd_values.specs.declared.role.Role.TheVariants.{Supplier, Receiver}
use Rattle.dsd_pricing.specs.declared.amounts.Totals.{Totals}
use Rattle.dsd_pricing.specs.declared.fault.WriteFault.{WriteFault}
use Rattle.dsd_pricing.specs.declared.fault.WriteFault.TheVariants.{Price as Unpriced}
use Rattle.transaction_set.specs.Refusal.{Refusal}
use Rattle.transaction_set.specs.declared.set_fault.SetFault.TheVariants.{Refused}
use Rattle.base_record_894.specs.BaseRecord.{BaseRecord}
use Rattle.base_record_894.specs.WrittenText.{written_of as base_written}
use Rattle.adjustment_895.specs.AnswerRecord.{AnswerRecord}
use Rattle.adjustment_895.specs.Grammar.{has_none}
use Rattle.adjustment_895.specs.WrittenText.{written_of as answer_written}
use Rattle.dsd_record.specs.Applying.{apply_fault}
use Rattle.dsd_record.specs.ChangedPrice.{price_with}
use Rattle.dsd_record.specs.ReadSets.{set_in}
use Rattle.dsd_record.specs.SetTexts.{set_refusal}
use Rattle.dsd_record.specs.Version.{Version}
use Rattle.dsd_record.specs.declared.fault.ApplyFault.{ApplyFault}
use Rattle.dsd_record.specs.declared.fault.ApplyFault.TheVariants as applying
use Rattle.dsd_record.specs.declared.price_after.ChangeFault.{ChangeFault}
use Rattle.dsd_record.specs.declared.price_after.ChangeFault.TheVariants as changing
use Rattle.dsd_record.specs.declared.set_view.SetView.{SetView}
use Rattle.dsd_record.specs.declared.set_view.SetView.TheVariants as sets
use Rattle.dsd_journal.specs.declared.entry.Entry.{Entry}
use Rattle.delivery_book.specs.Answering.{answer_to}
use Rattle.delivery_book.specs.Deeds.{Deed, deeds_of, is_signed, level_in, other_role, proposals, signer_of, taken_texts}
use Rattle.delivery_book.specs.Lookups.{seen_of}
use Rattle.delivery_book.specs.Signing.{next_control}
use Rattle.delivery_book.specs.Standing.{acceptance_of, highest_of, is_named, version_at}
use Rattle.delivery_book.specs.declared.fault.RuleFault.{RuleFault}
use Rattle.delivery_book.specs.declared.fault.RuleFault.TheVariants.{AlreadyFinal, AlreadySigned, Apply, Known, LevelLimit, NoDelivery, NotOurTurn, Set, Stale, UnknownSet, Write, WrongSide}

-- ---- words of the tests

infixr 5 ◌else_try◌
abbrev pub ◌else_try◌ : Option RuleFault → Option RuleFault → Option RuleFault
(Some fault) else_try other = Some fault
None else_try other = other

abbrev pub when : Bool → RuleFault → Option RuleFault
when test fault = if test then Some fault else None

abbrev pub is_role : Role → Role → Bool
is_role Supplier Supplier = true
is_role Receiver Receiver = true
is_role Supplier Receiver = false
is_role Receiver Supplier = false

-- the fault that this deed gives, where there is one
abbrev pub by : Option Deed → (Deed → RuleFault) → Option RuleFault
by (Some deed) fault = Some (fault deed)
by None fault = None

-- the check of the proposal that an acceptance names
abbrev pub check_named : SetView → ℕ
check_named (sets.Base base seal) = 0
check_named (sets.Answer answer seal) = answer.check

abbrev pub final_fault : List ℕ → List Deed → Option RuleFault
final_fault number deeds = by (acceptance_of number deeds) (λ (deed : Deed). AlreadyFinal (check_named deed.set))

-- ---- taking

abbrev pub was_taken : List ℕ → List Entry → Bool
was_taken text entries = list_any (λ (taken : List ℕ). bytes_eq taken text) (taken_texts entries)

-- the level of the proposal that an answer names
abbrev pub level_named : AnswerRecord → ℕ
level_named answer = if has_none answer.lines then answer.level else answer.level - 1

-- an adjustment's level is one of its signer, and an acknowledgement's is one of the other end
abbrev pub is_right_level : AnswerRecord → Bool
is_right_level answer = is_role (signer_of (level_named answer)) (other_role answer.role)

-- the proposal of this end that an answer names
abbrev pub own_named : AnswerRecord → List Deed → Option Deed
own_named answer deeds = find (λ (deed : Deed). is_signed deed.kind && is_named (level_named answer) answer.check deed) (proposals answer.number deeds)

abbrev pub is_lower : Deed → Option Deed → Bool
is_lower deed (Some top) = nat_lt (level_in deed.set) (level_in top.set)
is_lower deed None = false

abbrev pub top_level : Option Deed → ℕ
top_level (Some top) = level_in top.set
top_level None = 0

abbrev pub applying_fault : Option Version → AnswerRecord → Option ApplyFault
applying_fault (Some version) answer = apply_fault version answer
applying_fault None answer = None

abbrev pub as_apply : Option ApplyFault → Option RuleFault
as_apply (Some fault) = Some (Apply fault)
as_apply None = None

abbrev pub named_fault : Option Deed → List Deed → AnswerRecord → Option RuleFault
named_fault None deeds answer = Some (UnknownSet answer.check)
named_fault (Some named) deeds answer =
    final_fault answer.number deeds
    else_try when (is_lower named (highest_of answer.number deeds)) (Stale (top_level (highest_of answer.number deeds)))
    else_try as_apply (applying_fault (version_at deeds named) answer)

abbrev pub set_fault : Role → List Deed → SetView → Option RuleFault
set_fault role deeds (sets.Base base seal) =
    when (is_role role Supplier) WrongSide
    else_try by (highest_of base.number deeds) (λ (top : Deed). Stale (level_in top.set))
set_fault role deeds (sets.Answer answer seal) =
    when (is_role answer.role role) WrongSide
    else_try when (not (is_right_level answer)) WrongSide
    else_try named_fault (own_named answer deeds) deeds answer

abbrev pub refused_as : Option Refusal → Option RuleFault
refused_as (Some refusal) = Some (Set (Refused refusal.place refusal.reason))
refused_as None = None

abbrev pub read_fault : Option SetView → Role → List Deed → Option RuleFault
read_fault (Some set) role deeds = set_fault role deeds set
read_fault None role deeds = None

-- why the end of this role does not take a text
abbrev pub take_fault : Role → List Entry → List ℕ → Option RuleFault
take_fault role entries text =
    refused_as (set_refusal text)
    else_try when (was_taken text entries) Known
    else_try read_fault (set_in text) role (deeds_of entries)

-- ---- signing: whose turn it is

abbrev pub known_fault : Option Deed → Option RuleFault
known_fault (Some top) = None
known_fault None = Some NoDelivery

abbrev pub turn_fault : Option Deed → Option RuleFault
turn_fault (Some top) = when (is_signed top.kind) (NotOurTurn (level_in top.set))
turn_fault None = None

-- why this end does not propose a delivery
abbrev pub offer_fault : Role → List Deed → List ℕ → Option RuleFault
offer_fault role deeds number =
    when (is_role role Receiver) (NotOurTurn 0)
    else_try by (highest_of number deeds) (λ (top : Deed). AlreadySigned (level_in top.set))

-- why it does not answer a delivery
abbrev pub answer_fault : List Deed → List ℕ → Option RuleFault
answer_fault deeds number =
    known_fault (highest_of number deeds)
    else_try final_fault number deeds
    else_try turn_fault (highest_of number deeds)

-- and why it does not adjust one
abbrev pub level_fault : List Deed → List ℕ → Option RuleFault
level_fault deeds number =
    answer_fault deeds number
    else_try when (not (nat_lt (top_level (highest_of number deeds)) HIGHEST)) LevelLimit

-- ---- signing: what is written

abbrev pub write_fault : Result (List ℕ) WriteFault → Option RuleFault
write_fault (Ok text) = None
write_fault (Err fault) = Some (Write fault)

-- why the acceptance of a version is not written
abbrev pub accepting_fault : Role → ℕ → Option Version → SignatureRecord → Option RuleFault
accepting_fault role control (Some version) signature = write_fault (answer_written (answer_to role version [] version.totals signature) control)
accepting_fault role control None signature = None

-- why an adjustment at this price is not written, or why it has no price
abbrev pub priced_fault : Role → ℕ → Version → List Line → SignatureRecord → Result Totals ChangeFault → Option RuleFault
priced_fault role control version changes signature (Ok totals) = write_fault (answer_written (answer_to role version changes totals signature) control)
priced_fault role control version changes signature (Err (changing.Limit lines)) = Some (Apply (applying.Limit lines))
priced_fault role control version changes signature (Err (changing.Price fault)) = Some (Write (Unpriced fault))
priced_fault role control version changes signature (Err changing.Memory) = None

abbrev pub adjusting_fault : Role → ℕ → Option Version → List Line → SignatureRecord → Option RuleFault
adjusting_fault role control (Some version) changes signature = priced_fault role control version changes signature (price_with version changes)
adjusting_fault role control None changes signature = None

-- ---- the three calls that sign

abbrev pub propose_fault : Role → List Entry → BaseRecord → Option RuleFault
propose_fault role entries base = offer_fault role (deeds_of entries) base.number else_try write_fault (base_written base (next_control entries))

abbrev pub accept_fault : Role → List Entry → List ℕ → SignatureRecord → Option RuleFault
accept_fault role entries number signature = answer_fault (deeds_of entries) number else_try accepting_fault role (next_control entries) (seen_of entries number) signature

abbrev pub adjust_fault : Role → List Entry → List ℕ → List Line → SignatureRecord → Option RuleFault
adjust_fault role entries number changes signature =
    level_fault (deeds_of entries) number else_try adjusting_fault role (next_control entries) (seen_of entries number) changes signature
