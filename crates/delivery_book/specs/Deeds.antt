-- The entries of a journal as deeds: which sets were signed, and which were taken.
use Rattle.std.specs.Prelude.{ℕ, zero, suc, Bool, true, false, not, List, [], ◌∷◌, map, bytes_eq, Option, Some, None}
use Rattle.std.specs.List.{filter, filter_map}
use Rattle.dsd_values.specs.declared.role.Role.{Role}
use Rattle.dsd_values.specs.declared.role.Role.TheVariants.{Supplier, Receiver}
use Rattle.adjustment_895.specs.Grammar.{has_none}
use Rattle.dsd_record.specs.Naming.{Proposal}
use Rattle.dsd_record.specs.ReadSets.{set_in}
use Rattle.dsd_record.specs.declared.set_view.SetView.{SetView}
use Rattle.dsd_record.specs.declared.set_view.SetView.TheVariants as sets
use Rattle.dsd_journal.specs.declared.entry.Entry.{Entry}
use Rattle.dsd_journal.specs.declared.entry.EntryKind.{EntryKind}
use Rattle.dsd_journal.specs.declared.entry.EntryKind.TheVariants.{Signed, Took}

-- ---- who signs

abbrev pub other_role : Role → Role
other_role Supplier = Receiver
other_role Receiver = Supplier

abbrev pub other_kind : EntryKind → EntryKind
other_kind Signed = Took
other_kind Took = Signed

-- who signed the set of an entry of this end: an end takes what the other one signed
abbrev pub signer : Role → EntryKind → Role
signer role Signed = role
signer role Took = other_role role

-- who signs a proposal of this level: the supplier even levels and the receiver odd ones
abbrev pub signer_of : ℕ → Role
signer_of zero = Supplier
signer_of (suc level) = other_role (signer_of level)

-- ---- what a set is

-- its delivery
abbrev pub number_in : SetView → List ℕ
number_in (sets.Base base seal) = base.number
number_in (sets.Answer answer seal) = answer.number

-- the level that it states; a base record has level 0
abbrev pub level_in : SetView → ℕ
level_in (sets.Base base seal) = 0
level_in (sets.Answer answer seal) = answer.level

-- its own integrity value
abbrev pub check_in : SetView → ℕ
check_in (sets.Base base seal) = seal.check
check_in (sets.Answer answer seal) = seal.check

-- A base record and an adjustment are proposals, an acknowledgement is an acceptance.
abbrev pub proposes : SetView → Bool
proposes (sets.Base base seal) = true
proposes (sets.Answer answer seal) = not (has_none answer.lines)

-- what tells a proposal from others
abbrev pub proposal_in : SetView → Proposal
proposal_in set = record { number = number_in set; level = level_in set; check = check_in set }

-- ---- deeds

-- This text was signed, or taken, and is this set.
pub record Deed : Type 0 where
  pub kind : EntryKind
  pub text : List ℕ
  pub set : SetView

abbrev pub deed_with : Entry → Option SetView → Option Deed
deed_with entry (Some set) = Some (record { kind = entry.kind; text = entry.payload; set = set })
deed_with entry None = None

abbrev pub deed_of : Entry → Option Deed
deed_of entry = deed_with entry (set_in entry.payload)

-- the entries whose text is a set, in their order
abbrev pub deeds_of : List Entry → List Deed
deeds_of entries = filter_map deed_of entries

-- ---- which of them

abbrev pub is_signed : EntryKind → Bool
is_signed Signed = true
is_signed Took = false

-- the texts that this end signed, and those that it took
abbrev pub signed_texts : List Entry → List (List ℕ)
signed_texts entries = map (λ (entry : Entry). entry.payload) (filter (λ (entry : Entry). is_signed entry.kind) entries)

abbrev pub taken_texts : List Entry → List (List ℕ)
taken_texts entries = map (λ (entry : Entry). entry.payload) (filter (λ (entry : Entry). not (is_signed entry.kind)) entries)

-- the deeds of a delivery, and of these the proposals, the acceptances, and what this end signed
abbrev pub of_delivery : List ℕ → List Deed → List Deed
of_delivery number deeds = filter (λ (deed : Deed). bytes_eq (number_in deed.set) number) deeds

abbrev pub proposals : List ℕ → List Deed → List Deed
proposals number deeds = filter (λ (deed : Deed). proposes deed.set) (of_delivery number deeds)

abbrev pub acceptances : List ℕ → List Deed → List Deed
acceptances number deeds = filter (λ (deed : Deed). not (proposes deed.set)) (of_delivery number deeds)

abbrev pub signed_of : List ℕ → List Deed → List Deed
signed_of number deeds = filter (λ (deed : Deed). is_signed deed.kind) (of_delivery number deeds)

-- the first of some deeds
abbrev pub first_of : List Deed → Option Deed
first_of [] = None
first_of (deed ∷ deeds) = Some deed
