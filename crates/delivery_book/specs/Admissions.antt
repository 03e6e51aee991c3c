-- Whether an entry may stand behind others, by how its delivery stands.
use Rattle.std.specs.Prelude.{◌≡◌, ℕ, ◌&&◌, Bool, true, false, not, List, Option, Some, None, is_none, Result, Ok, Err}
use Rattle.dsd_values.specs.declared.role.Role.{Role}
use Rattle.dsd_values.specs.declared.role.Role.TheVariants.{Supplier}
use Rattle.adjustment_895.specs.AnswerRecord.{AnswerRecord}
use Rattle.dsd_record.specs.Applying.{apply_fault}
use Rattle.dsd_record.specs.declared.set_view.SetView.{SetView}
use Rattle.dsd_record.specs.declared.set_view.SetView.TheVariants as sets
use Rattle.dsd_journal.specs.declared.entry.EntryKind.{EntryKind}
use Rattle.dsd_journal.specs.declared.entry.EntryKind.TheVariants.{Signed, Took}
use Rattle.dsd_record.specs.declared.fault.ApplyFault.{ApplyFault}
use Rattle.dsd_record.specs.declared.fault.ApplyFault.TheVariants.{Memory as NoMemory}
use Rattle.transaction_set.specs.declared.set_fault.SetFault.{SetFault}
use Rattle.transaction_set.specs.declared.set_fault.SetFault.TheVariants.{Memory as NoRoom}
use Rattle.delivery_book.specs.Changes.{is_form}
use Rattle.delivery_book.specs.Deeds.{signer}
use Rattle.delivery_book.specs.Index.{Stand}
use Rattle.delivery_book.specs.Refusals.{is_role}
use Rattle.delivery_book.specs.declared.fault.AdmitFault.{AdmitFault}
use Rattle.delivery_book.specs.declared.fault.AdmitFault.TheVariants.{Illegal, Memory}

-- an entry of this kind may answer a proposal of this end, or one of the other end
abbrev pub is_turn : Bool → EntryKind → Bool
is_turn ours Signed = not ours
is_turn ours Took = ours

-- a base record: the supplier signs it, and its delivery is new
abbrev pub is_base_allowed : Role → EntryKind → Option Stand → Bool
is_base_allowed role kind stand = is_role (signer role kind) Supplier && is_none stand

-- an answer carries the letter of its signer, and applies to the highest proposal, which the other end signed and none has accepted
abbrev pub is_stand_answered : Role → EntryKind → Stand → AnswerRecord → Bool
is_stand_answered role kind stand answer =
    is_role answer.role (signer role kind) && (not stand.accepted && (is_turn stand.ours kind && is_none (apply_fault stand.seen answer)))

abbrev pub is_answer_allowed : Role → EntryKind → Option Stand → AnswerRecord → Bool
is_answer_allowed role kind (Some stand) answer = is_stand_answered role kind stand answer
is_answer_allowed role kind None answer = false

-- a set, its written form and control number aside
abbrev pub is_allowed : Role → EntryKind → Option Stand → SetView → Bool
is_allowed role kind stand (sets.Base base seal) = is_base_allowed role kind stand
is_allowed role kind stand (sets.Answer answer seal) = is_answer_allowed role kind stand answer

-- and with these
abbrev pub is_admitted : Role → EntryKind → ℕ → Option Stand → List ℕ → SetView → Bool
is_admitted role kind control stand text set = is_form kind set control text && is_allowed role kind stand set

-- A call answers by this test. Want of memory is free.
abbrev pub Decides : {X : Type 0} → Result X AdmitFault → Bool → (X → Type 0) → Type 0
Decides (Ok x) test Made = (test ≡ true) × Made x
Decides (Err Illegal) test Made = test ≡ false
Decides (Err Memory) test Made = Unit {0}

-- faults of calls below
abbrev pub as_unapplied : ApplyFault → AdmitFault
as_unapplied NoMemory = Memory
as_unapplied fault = Illegal

abbrev pub as_no_set : SetFault → AdmitFault
as_no_set NoRoom = Memory
as_no_set fault = Illegal
