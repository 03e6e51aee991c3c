-- The deeds of one delivery in a list of entries: signed and taken in turn, each at its place, an acceptance last.
use Rattle.std.specs.Prelude.{◌≡◌, ◌+◌, ℕ, if◌then◌else◌, List, [], ◌∷◌, map, ⊤}
use Rattle.dsd_values.specs.declared.role.Role.{Role}
use Rattle.dsd_values.specs.declared.role.Role.TheVariants.{Receiver, Supplier}
use Rattle.dsd_journal.specs.declared.entry.Entry.{Entry}
use Rattle.dsd_journal.specs.declared.entry.EntryKind.{EntryKind}
use Rattle.dsd_journal.specs.declared.entry.EntryKind.TheVariants.{Signed, Took}
use Rattle.delivery_book.specs.Deeds.{Deed, deeds_of, is_signed, level_in, of_delivery, other_kind, proposes}
use Rattle.clean_sessions.specs.Fronts.{Seen}

-- the level of a proposal, and one more for an acceptance
abbrev pub place_of : Deed → ℕ
place_of deed = if proposes deed.set then level_in deed.set else level_in deed.set + 1

-- what the end of this role does with a base record
abbrev pub first_kind : Role → EntryKind
first_kind Supplier = Signed
first_kind Receiver = Took

-- the one with its kind, at this place, and then the other kind at the next one
abbrev pub AreInTurn : EntryKind → ℕ → List Deed → Type 0
AreInTurn kind n [] = ⊤
AreInTurn kind n (deed ∷ deeds) = (deed.kind ≡ kind) × (place_of deed ≡ n) × AreInTurn (other_kind kind) (n + 1) deeds

-- a deed as its text and who signed it
abbrev pub seen : Deed → Seen
seen deed = record { signed = is_signed deed.kind; text = deed.text }

-- those of one delivery
abbrev pub deeds_seen : List ℕ → List Entry → List Seen
deeds_seen number entries = map seen (of_delivery number (deeds_of entries))
