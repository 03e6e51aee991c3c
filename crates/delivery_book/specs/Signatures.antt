-- What the bodies of the calls that sign come to.
use Rattle.std.specs.Prelude.{◌≡◌, ◌<◌, ℕ, false, List, [], ◌∷◌, Option, Some, None, Result, Ok, Err}
use Rattle.dsd_pricing.specs.declared.amounts.Totals.{Totals}
use Rattle.dsd_pricing.specs.declared.fault.WriteFault.{WriteFault}
use Rattle.dsd_pricing.specs.declared.fault.WriteFault.TheVariants.{Memory as NoRoom, Price as Unpriced}
use Rattle.dsd_values.specs.SignatureRecord.{SignatureRecord}
use Rattle.dsd_values.specs.declared.level.TheConstants.Level.{MAX as HIGHEST}
use Rattle.dsd_values.specs.declared.line.Line.{Line}
use Rattle.dsd_values.specs.declared.role.Role.{Role}
use Rattle.base_record_894.specs.BaseRecord.{BaseRecord}
use Rattle.base_record_894.specs.RecordText.{Is894}
use Rattle.base_record_894.specs.WrittenText.{seal_of as base_seal, written_of as base_written}
use Rattle.adjustment_895.specs.AnswerRecord.{AnswerRecord}
use Rattle.adjustment_895.specs.AnswerText.{Is895}
use Rattle.adjustment_895.specs.Grammar.{has_none}
use Rattle.adjustment_895.specs.WrittenText.{seal_of as answer_seal, written_of as answer_written}
use Rattle.dsd_record.specs.Applying.{applied}
use Rattle.dsd_record.specs.ChangedPrice.{IsPriceAfter, price_with}
use Rattle.dsd_record.specs.Version.{Version}
use Rattle.dsd_record.specs.declared.fault.ApplyFault.TheVariants as applying
use Rattle.dsd_record.specs.declared.price_after.ChangeFault.{ChangeFault}
use Rattle.dsd_record.specs.declared.price_after.ChangeFault.TheVariants as changing
use Rattle.dsd_journal.specs.declared.entry.EntryKind.TheVariants.{Signed}
use Rattle.delivery_book.specs.Answering.{answer_to}
use Rattle.delivery_book.specs.Refusals.{◌else_try◌, priced_fault, write_fault}
use Rattle.delivery_book.specs.StandFaults.{stand_answer_fault, stand_level_fault}
use Rattle.delivery_book.specs.Index.{IsFirst, Stand, stand_after}
use Rattle.delivery_book.specs.declared.change.Change.{Change}
use Rattle.delivery_book.specs.declared.fault.RuleFault.{RuleFault}
use Rattle.delivery_book.specs.declared.fault.RuleFault.TheVariants.{Apply, Memory, Write}

-- ---- texts

-- the text of a base record or an answer under a control number, and its integrity value
pub record IsWrittenBase (base : BaseRecord) (control : ℕ) (sealed : List ℕ × ℕ) : Type 0 where
  pub written : base_written base control ≡ Ok sealed.0
  pub check : sealed.1 ≡ (base_seal base control).check
  pub spelled : Is894 base (base_seal base control) sealed.0

pub record IsWrittenAnswer (answer : AnswerRecord) (control : ℕ) (sealed : List ℕ × ℕ) : Type 0 where
  pub written : answer_written answer control ≡ Ok sealed.0
  pub check : sealed.1 ≡ (answer_seal answer control).check
  pub spelled : Is895 answer (answer_seal answer control) sealed.0

-- a refusal to write, as one of the rules
abbrev pub as_unwritten : WriteFault → RuleFault
as_unwritten NoRoom = Memory
as_unwritten fault = Write fault

-- ---- prices

abbrev pub pricing_fault : Result Totals ChangeFault → Option RuleFault
pricing_fault (Ok totals) = None
pricing_fault (Err (changing.Limit lines)) = Some (Apply (applying.Limit lines))
pricing_fault (Err (changing.Price fault)) = Some (Write (Unpriced fault))
pricing_fault (Err changing.Memory) = None

abbrev pub IsPriced : Version → List Line → Totals → Type 0
IsPriced version changes totals = price_with version changes ≡ Ok totals

-- ---- answers

-- an answer with lines needs a level above that of the version
abbrev pub IsLevelLeft : List Line → ℕ → Type 0
IsLevelLeft [] level = Unit {0}
IsLevelLeft (line ∷ lines) level = level < HIGHEST

-- an answer of this end that was written behind so many entries, and what becomes of its delivery
pub record IsSignedAnswer (place : ℕ) (old : Stand) (control : ℕ) (answer : AnswerRecord) (change : Change) : Type 0 where
  pub text : List ℕ
  pub entry : change.entry ≡ record { kind = Signed; payload = text }
  pub written : answer_written answer control ≡ Ok text
  pub spelled : Is895 answer (answer_seal answer control) text
  pub number : change.number ≡ answer.number
  pub delivery : change.delivery ≡ stand_after Signed place (has_none answer.lines) (applied old.seen answer (answer_seal answer control).check) (Some old)

-- the same of an adjustment with these lines, at their price
pub record IsAdjusting (role : Role) (place : ℕ) (old : Stand) (control : ℕ) (changes : List Line) (signature : SignatureRecord) (change : Change) : Type 0 where
  pub totals : Totals
  pub price : price_with old.seen changes ≡ Ok totals
  pub after : IsPriceAfter old.seen changes totals
  pub signed : IsSignedAnswer place old control (answer_to role old.seen changes totals signature) change

-- ---- base records

-- the same of a base record
pub record IsSignedBase (place : ℕ) (old : Option Stand) (control : ℕ) (base : BaseRecord) (change : Change) : Type 0 where
  pub text : List ℕ
  pub entry : change.entry ≡ record { kind = Signed; payload = text }
  pub written : base_written base control ≡ Ok text
  pub spelled : Is894 base (base_seal base control) text
  pub number : change.number ≡ base.number
  pub seen : Version
  pub made : IsFirst base (base_seal base control).check seen
  pub delivery : change.delivery ≡ stand_after Signed place false seen old

-- ---- what a set of this text adds

pub record IsBaseAdded (place : ℕ) (old : Option Stand) (base : BaseRecord) (check : ℕ) (text : List ℕ) (change : Change) : Type 0 where
  pub entry : change.entry ≡ record { kind = Signed; payload = text }
  pub number : change.number ≡ base.number
  pub seen : Version
  pub made : IsFirst base check seen
  pub delivery : change.delivery ≡ stand_after Signed place false seen old

pub record IsAnswerAdded (place : ℕ) (old : Stand) (answer : AnswerRecord) (check : ℕ) (text : List ℕ) (change : Change) : Type 0 where
  pub entry : change.entry ≡ record { kind = Signed; payload = text }
  pub number : change.number ≡ answer.number
  pub delivery : change.delivery ≡ stand_after Signed place (has_none answer.lines) (applied old.seen answer check) (Some old)

-- ---- as the delivery stands

-- an acceptance, which applies
pub record IsAcceptingAt (role : Role) (place : ℕ) (old : Stand) (control : ℕ) (signature : SignatureRecord) (change : Change) : Type 0 where
  pub price : IsPriceAfter old.seen [] old.seen.totals
  pub signed : IsSignedAnswer place old control (answer_to role old.seen [] old.seen.totals signature) change

abbrev pub stand_accept_fault : Role → ℕ → Option Stand → SignatureRecord → Option RuleFault
stand_accept_fault role control (Some stand) signature = stand_answer_fault (Some stand) else_try write_fault (answer_written (answer_to role stand.seen [] stand.seen.totals signature) control)
stand_accept_fault role control None signature = stand_answer_fault None

abbrev pub IsAccepting : Role → ℕ → Option Stand → ℕ → SignatureRecord → Change → Type 0
IsAccepting role place (Some stand) control signature change = IsAcceptingAt role place stand control signature change
IsAccepting role place None control signature change = ⊥

abbrev pub stand_adjust_fault : Role → ℕ → Option Stand → List Line → SignatureRecord → Option RuleFault
stand_adjust_fault role control (Some stand) changes signature = stand_level_fault (Some stand) else_try priced_fault role control stand.seen changes signature (price_with stand.seen changes)
stand_adjust_fault role control None changes signature = stand_level_fault None

abbrev pub IsAdjustingKnown : Role → ℕ → Option Stand → ℕ → List Line → SignatureRecord → Change → Type 0
IsAdjustingKnown role place (Some stand) control changes signature change = IsAdjusting role place stand control changes signature change
IsAdjustingKnown role place None control changes signature change = ⊥
