-- The signing rules: which lists of entries are legal for the end of a role.
use Rattle.std.specs.Prelude.{◌≡◌, ◌<◌, ◌≤◌, ℕ, ◌+◌, true, List, [], ◌∷◌, ◌++◌, length, Some, None, Ok}
use Rattle.std.specs.List.{Contains}
use Rattle.dsd_values.specs.declared.level.TheConstants.Level.{MAX as HIGHEST}
use Rattle.dsd_values.specs.declared.role.Role.{Role}
use Rattle.dsd_values.specs.declared.role.Role.TheVariants.{Supplier}
use Rattle.base_record_894.specs.BaseRecord.{BaseRecord}
use Rattle.base_record_894.specs.WrittenText.{written_of as base_written}
use Rattle.adjustment_895.specs.AnswerRecord.{AnswerRecord}
use Rattle.adjustment_895.specs.WrittenText.{written_of as answer_written}
use Rattle.dsd_record.specs.Applying.{Applies}
use Rattle.dsd_record.specs.Naming.{Names}
use Rattle.dsd_record.specs.SetTexts.{IsSet}
use Rattle.dsd_record.specs.Version.{Version}
use Rattle.dsd_record.specs.declared.set_view.SetView.{SetView}
use Rattle.dsd_record.specs.declared.set_view.SetView.TheVariants as sets
use Rattle.dsd_journal.specs.declared.entry.Entry.{Entry}
use Rattle.dsd_journal.specs.declared.entry.EntryKind.{EntryKind}
use Rattle.dsd_journal.specs.declared.entry.EntryKind.TheVariants.{Signed, Took}
use Rattle.delivery_book.specs.Deeds.{Deed, deeds_of, level_in, number_in, other_kind, proposal_in, proposes, signed_of, signed_texts, signer, signer_of}
use Rattle.delivery_book.specs.Standing.{IsNew, acceptance_of, highest_of, version_at}

-- ---- the control number of a signed set

-- the k-th set that an end signs has control number k
abbrev pub next_control : List Entry → ℕ
next_control before = length (signed_texts before) + 1

-- the text is the written form of the set with this control number
abbrev pub IsWritten : SetView → ℕ → List ℕ → Type 0
IsWritten (sets.Base base seal) control text = base_written base control ≡ Ok text
IsWritten (sets.Answer answer seal) control text = answer_written answer control ≡ Ok text

-- ---- a base record

-- The supplier signs it and the receiver takes it, and its delivery is new.
pub record AllowsBase (role : Role) (before : List Deed) (kind : EntryKind) (base : BaseRecord) : Type 0 where
  pub side : signer role kind ≡ Supplier
  pub new : IsNew base.number before

-- ---- an answer

-- It names the highest proposal of its delivery, which the other end signed, and none is accepted; so no end signs or takes anything of a
-- delivery behind an acceptance. It carries the letter of its signer and the flag of the delivery, and states the totals of the version
-- behind it, which has at most 999 lines.
pub record AllowsAnswer (role : Role) (before : List Deed) (kind : EntryKind) (answer : AnswerRecord) : Type 0 where
  pub letter : answer.role ≡ signer role kind
  pub highest : Deed
  pub is_highest : highest_of answer.number before ≡ Some highest
  pub named : Names answer (proposal_in highest.set)
  pub turn : highest.kind ≡ other_kind kind
  pub standing : acceptance_of answer.number before ≡ None
  pub version : Version
  pub made : version_at before highest ≡ Some version
  pub applies : Applies version answer

abbrev pub AllowsSet : Role → List Deed → EntryKind → SetView → Type 0
AllowsSet role before kind (sets.Base base seal) = AllowsBase role before kind base
AllowsSet role before kind (sets.Answer answer seal) = AllowsAnswer role before kind answer

-- ---- what besides is asked of a set that is signed

-- A proposal has a level of this role, which is above that of each set of its delivery that was signed before, and not too high.
pub record IsOwnLevel (role : Role) (before : List Deed) (set : SetView) : Type 0 where
  pub parity : signer_of (level_in set) ≡ role
  pub above : (deed : Deed) → Contains (signed_of (number_in set) before) deed → level_in deed.set < level_in set
  pub most : level_in set ≤ HIGHEST

pub record SignsRightly (role : Role) (before : List Entry) (set : SetView) (text : List ℕ) : Type 0 where
  pub written : IsWritten set (next_control before) text
  pub level : proposes set ≡ true → IsOwnLevel role (deeds_of before) set

abbrev pub AllowsKind : EntryKind → Role → List Entry → SetView → List ℕ → Type 0
AllowsKind Signed role before set text = SignsRightly role before set text
AllowsKind Took role before set text = Unit {0}

-- ---- legal lists

-- The entry's text is a set that these entries before it allow.
pub record Allows (role : Role) (before : List Entry) (entry : Entry) : Type 0 where
  pub set : SetView
  pub is_set : IsSet set entry.payload
  pub allowed : AllowsSet role (deeds_of before) entry.kind set
  pub signed : AllowsKind entry.kind role before set entry.payload

-- each entry is allowed by those before it
abbrev pub LegalFrom : Role → List Entry → List Entry → Type 0
LegalFrom role before [] = Unit {0}
LegalFrom role before (entry ∷ entries) = Allows role before entry × LegalFrom role (before ++ entry ∷ []) entries

abbrev pub Legal : Role → List Entry → Type 0
Legal role entries = LegalFrom role [] entries
