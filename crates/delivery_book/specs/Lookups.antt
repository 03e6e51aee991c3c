-- What an end looks up of its deliveries: which there are, how each stands, and what of it this end signed.
use Rattle.std.specs.Prelude.{ℕ, ◌&&◌, Bool, false, not, List, [], ◌∷◌, bytes_eq, fold, slice_index_or, Option, Some, None, is_none}
use Rattle.std.specs.List.{filter}
use Rattle.std.specs.Option.{option_and_then, option_map}
use Rattle.indexmap.specs.IndexSet.{insert_key}
use Rattle.base_record_894.specs.BaseRecord.{amount_of}
use Rattle.dsd_record.specs.Version.{Version}
use Rattle.dsd_record.specs.declared.set_view.SetView.{SetView}
use Rattle.dsd_record.specs.declared.set_view.SetView.TheVariants as sets
use Rattle.dsd_journal.specs.declared.entry.Entry.{Entry}
use Rattle.delivery_book.specs.Deeds.{Deed, deeds_of, is_signed, number_in, proposes, signed_of}
use Rattle.delivery_book.specs.Standing.{acceptance_of, highest_of, version_at}

-- ---- which deliveries there are

-- the numbers with this one, which goes last where it is new
abbrev pub with_number : List (List ℕ) → List ℕ → List (List ℕ)
with_number numbers number = insert_key bytes_eq numbers number

-- the number of each delivery, in the order of its first entry
abbrev pub numbers_in : List Deed → List (List ℕ)
numbers_in deeds = fold (λ numbers (deed : Deed). with_number numbers (number_in deed.set)) [] deeds

abbrev pub numbers_of : List Entry → List (List ℕ)
numbers_of entries = numbers_in (deeds_of entries)

-- the number at this index among them
abbrev pub number_at : List Entry → ℕ → List ℕ
number_at entries index = slice_index_or (numbers_of entries) index []

-- ---- how a delivery stands

-- the version that its highest proposal makes
abbrev pub seen_of : List Entry → List ℕ → Option Version
seen_of entries number = option_and_then (version_at (deeds_of entries)) (highest_of number (deeds_of entries))

abbrev pub is_taken : Option Deed → Bool
is_taken (Some deed) = not (is_signed deed.kind)
is_taken None = false

-- its highest proposal was taken, and no acceptance of it stands
abbrev pub awaits_us : List Entry → List ℕ → Bool
awaits_us entries number = is_taken (highest_of number (deeds_of entries)) && is_none (acceptance_of number (deeds_of entries))

-- ---- what this end signed of it

-- the last of some deeds
abbrev pub last_of : List Deed → Option Deed
last_of [] = None
last_of (deed ∷ []) = Some deed
last_of (deed ∷ next ∷ deeds) = last_of (next ∷ deeds)

-- the amount in cents that a set comes to
abbrev pub amount_in : SetView → ℕ
amount_in (sets.Base base seal) = amount_of base
amount_in (sets.Answer answer seal) = answer.amount

abbrev pub own_amount_in : List ℕ → List Deed → Option ℕ
own_amount_in number deeds = option_map (λ (deed : Deed). amount_in deed.set) (last_of (filter (λ (deed : Deed). proposes deed.set) (signed_of number deeds)))

-- the amount of the last proposal that this end signed
abbrev pub own_amount : List Entry → List ℕ → Option ℕ
own_amount entries number = own_amount_in number (deeds_of entries)

abbrev pub last_signed_in : List ℕ → List Deed → Option (List ℕ)
last_signed_in number deeds = option_map (λ (deed : Deed). deed.text) (last_of (signed_of number deeds))

-- the text of the last set that this end signed
abbrev pub last_signed : List Entry → List ℕ → Option (List ℕ)
last_signed entries number = last_signed_in number (deeds_of entries)
