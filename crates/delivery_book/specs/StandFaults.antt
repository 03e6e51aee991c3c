-- The same refusals by how the delivery stands, as the bodies ask them.
use Rattle.std.specs.Prelude.{ℕ, ◌==◌, ◌&&◌, Bool, not, nat_lt, Option, Some, None}
use Rattle.std.specs.List.{find}
use Rattle.dsd_values.specs.declared.level.TheConstants.Level.{MAX as HIGHEST}
use Rattle.dsd_values.specs.declared.role.Role.{Role}
use Rattle.dsd_values.specs.declared.role.Role.TheVariants.{Receiver, Supplier}
use Rattle.transaction_set.specs.declared.set_fault.SetFault.{SetFault}
use Rattle.transaction_set.specs.declared.set_fault.SetFault.TheVariants.{Memory as NoRoom}
use Rattle.adjustment_895.specs.AnswerRecord.{AnswerRecord}
use Rattle.dsd_record.specs.Applying.{apply_fault}
use Rattle.dsd_record.specs.declared.fault.ApplyFault.{ApplyFault}
use Rattle.dsd_record.specs.declared.fault.ApplyFault.TheVariants.{Memory as NoMemory}
use Rattle.dsd_record.specs.declared.set_view.SetView.{SetView}
use Rattle.dsd_record.specs.declared.set_view.SetView.TheVariants as sets
use Rattle.delivery_book.specs.declared.history.Offer.{Offer}
use Rattle.delivery_book.specs.Index.{Stand}
use Rattle.delivery_book.specs.Refusals.{◌else_try◌, as_apply, is_right_level, is_role, level_named, when}
use Rattle.delivery_book.specs.declared.fault.RuleFault.{RuleFault}
use Rattle.delivery_book.specs.declared.fault.RuleFault.TheVariants.{AlreadyFinal, AlreadySigned, Apply, LevelLimit, Memory, NoDelivery, NotOurTurn, Set, Stale, UnknownSet, WrongSide}

-- ---- taking

abbrev pub is_offer : ℕ → ℕ → Offer → Bool
is_offer level check offer = (offer.level == level) && (offer.check == check)

-- the proposal of this end that an answer names
abbrev pub offered : AnswerRecord → Stand → Option Offer
offered answer stand = find (is_offer (level_named answer) answer.check) stand.history.offers

abbrev pub named_by_stand : Option Offer → Stand → AnswerRecord → Option RuleFault
named_by_stand None stand answer = Some (UnknownSet answer.check)
named_by_stand (Some offer) stand answer =
    when stand.accepted (AlreadyFinal stand.seen.check)
    else_try when (nat_lt offer.level stand.seen.level) (Stale stand.seen.level)
    else_try as_apply (apply_fault stand.seen answer)

abbrev pub stand_named_fault : Option Stand → AnswerRecord → Option RuleFault
stand_named_fault (Some stand) answer = named_by_stand (offered answer stand) stand answer
stand_named_fault None answer = Some (UnknownSet answer.check)

abbrev pub stale_by : Option Stand → Option RuleFault
stale_by (Some stand) = Some (Stale stand.seen.level)
stale_by None = None

-- why a set is not taken
abbrev pub stand_fault : Role → Option Stand → SetView → Option RuleFault
stand_fault role stand (sets.Base base seal) = when (is_role role Supplier) WrongSide else_try stale_by stand
stand_fault role stand (sets.Answer answer seal) =
    when (is_role answer.role role) WrongSide
    else_try when (not (is_right_level answer)) WrongSide
    else_try stand_named_fault stand answer

-- ---- signing

abbrev pub stand_known_fault : Option Stand → Option RuleFault
stand_known_fault (Some stand) = Some (AlreadySigned stand.seen.level)
stand_known_fault None = None

-- why a delivery is not proposed
abbrev pub stand_offer_fault : Role → Option Stand → Option RuleFault
stand_offer_fault role stand = when (is_role role Receiver) (NotOurTurn 0) else_try stand_known_fault stand

-- why it is not answered
abbrev pub stand_answer_fault : Option Stand → Option RuleFault
stand_answer_fault None = Some NoDelivery
stand_answer_fault (Some stand) =
    when stand.accepted (AlreadyFinal stand.seen.check)
    else_try when stand.ours (NotOurTurn stand.seen.level)

abbrev pub stand_limit_fault : Option Stand → Option RuleFault
stand_limit_fault None = None
stand_limit_fault (Some stand) = when (not (nat_lt stand.seen.level HIGHEST)) LevelLimit

-- and why it is not adjusted
abbrev pub stand_level_fault : Option Stand → Option RuleFault
stand_level_fault stand = stand_answer_fault stand else_try stand_limit_fault stand

-- ---- faults of calls below

-- a fault of applying
abbrev pub as_rule : ApplyFault → RuleFault
as_rule NoMemory = Memory
as_rule fault = Apply fault

-- a refusal of the text
abbrev pub as_unread : SetFault → RuleFault
as_unread NoRoom = Memory
as_unread fault = Set fault
