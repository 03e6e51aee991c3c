-- What rules keep of a delivery beside the entries: how it stands, so that no call reads the entries again.
use Rattle.std.specs.Prelude.{◌≡◌, ℕ, ◌&&◌, nat_lt, Bool, true, false, not, if◌then◌else◌, List, [], ◌∷◌, ◌++◌, map, length, slice_get, is_some, bytes_eq, MatchOption, Option, Some, None}
use Rattle.std.specs.List.{filter}
use Rattle.std.specs.Map.{keys_of, lookup}
use Rattle.std.specs.Option.{option_and_then, option_map}
use Rattle.base_record_894.specs.BaseRecord.{BaseRecord}
use Rattle.adjustment_895.specs.AnswerRecord.{AnswerRecord}
use Rattle.adjustment_895.specs.Grammar.{has_none}
use Rattle.dsd_record.specs.Applying.{applied}
use Rattle.dsd_record.specs.Chain.{chain_from, version_of}
use Rattle.dsd_record.specs.Version.{Version}
use Rattle.dsd_record.specs.declared.set_view.SetView.{SetView}
use Rattle.dsd_record.specs.declared.set_view.SetView.TheVariants as sets
use Rattle.dsd_values.specs.declared.role.Role.{Role}
use Rattle.dsd_journal.specs.declared.entry.Entry.{Entry}
use Rattle.dsd_journal.specs.declared.entry.EntryKind.{EntryKind}
use Rattle.dsd_journal.specs.declared.entry.EntryKind.TheVariants.{Signed, Took}
use Rattle.delivery_book.specs.declared.history.Offer.{Offer}
use Rattle.delivery_book.specs.Deeds.{Deed, check_in, deeds_of, is_signed, level_in, of_delivery, proposals, signed_texts}
use Rattle.delivery_book.specs.Lookups.{last_signed_in, numbers_of, own_amount_in}
use Rattle.delivery_book.specs.Signing.{Legal}
use Rattle.delivery_book.specs.Standing.{IsNew, acceptance_of, highest_of, version_at}

-- ---- which sets of a delivery there were

pub record History : Type 0 where
  -- the amount of the last proposal that this end signed
  pub amount : Option ℕ
  -- the place among the entries of the last set that this end signed
  pub last : Option ℕ
  -- the proposals that this end signed
  pub offers : List Offer
  -- the places of the sets that it took
  pub taken : List ℕ

abbrev pub no_history : History
no_history = record { amount = None; last = None; offers = []; taken = [] }

abbrev pub offer_by : Deed → Offer
offer_by deed = record { level = level_in deed.set; check = check_in deed.set }

abbrev pub text_at : List Entry → ℕ → Option (List ℕ)
text_at entries place = option_map (λ (entry : Entry). entry.payload) (slice_get entries place)

-- what this end signed and took of the delivery with this number
pub record IsHistory (number : List ℕ) (entries : List Entry) (history : History) : Type 0 where
  pub amount : own_amount_in number (deeds_of entries) ≡ history.amount
  pub last : last_signed_in number (deeds_of entries) ≡ option_and_then (text_at entries) history.last
  -- the place is one of an entry
  pub within : (place : ℕ) → history.last ≡ Some place → is_some (slice_get entries place) ≡ true
  pub offers : map offer_by (filter (λ (deed : Deed). is_signed deed.kind) (proposals number (deeds_of entries))) ≡ history.offers
  pub taken : map (λ (deed : Deed). Some deed.text) (filter (λ (deed : Deed). not (is_signed deed.kind)) (of_delivery number (deeds_of entries))) ≡ map (text_at entries) history.taken

-- ---- how a delivery stands

pub record Stand : Type 0 where
  -- the version that the highest proposal makes, and whether this end signed that proposal
  pub seen : Version
  pub ours : Bool
  -- whether it is accepted
  pub accepted : Bool
  pub history : History

-- so the delivery with this number stands after these entries
pub record IsStand (number : List ℕ) (entries : List Entry) (stand : Stand) : Type 0 where
  pub top : Deed
  pub is_top : highest_of number (deeds_of entries) ≡ Some top
  pub seen : version_at (deeds_of entries) top ≡ Some stand.seen
  pub ours : is_signed top.kind ≡ stand.ours
  pub accepted : is_some (acceptance_of number (deeds_of entries)) ≡ stand.accepted
  pub history : IsHistory number entries stand.history

-- a delivery that is not kept has no entry
abbrev pub IsKept : List ℕ → List Entry → Option Stand → Type 0
IsKept number entries stand = MatchOption stand (IsNew number (deeds_of entries)) (IsStand number entries)

-- ---- the same with one entry more

abbrev pub offer_of : Version → Offer
offer_of version = record { level = version.level; check = version.check }

-- with a set at this place: the version is the one that it makes, where it is a proposal
abbrev pub history_after : EntryKind → ℕ → Option Version → History → History
history_after Took place made history = record history { taken = history.taken ++ place ∷ [] }
history_after Signed place (Some made) history = record history { amount = Some made.totals.amount; last = Some place; offers = history.offers ++ offer_of made ∷ [] }
history_after Signed place None history = record history { last = Some place }

abbrev pub history_of : Option Stand → History
history_of (Some stand) = stand.history
history_of None = no_history

abbrev pub ours_of : Option Stand → Bool
ours_of (Some stand) = stand.ours
ours_of None = false

-- how it stands behind a set that makes this version, or that accepts it
abbrev pub stand_after : EntryKind → ℕ → Bool → Version → Option Stand → Stand
stand_after kind place true seen old = record { seen = seen; ours = ours_of old; accepted = true; history = history_after kind place None (history_of old) }
stand_after kind place false seen old = record { seen = seen; ours = is_signed kind; accepted = false; history = history_after kind place (Some seen) (history_of old) }

-- the version that the first base record makes, and the one behind an answer, which finds the delivery known
abbrev pub IsFirst : BaseRecord → ℕ → Version → Type 0
IsFirst base check made = version_of (chain_from base check) ≡ Some made

abbrev pub IsBehind : Option Stand → AnswerRecord → ℕ → Version → Type 0
IsBehind (Some old) answer check made = made ≡ applied old.seen answer check
IsBehind None answer check made = ⊥

-- the version behind a set, by how its delivery stood
abbrev pub IsMade : Option Stand → SetView → Version → Type 0
IsMade old (sets.Base base seal) made = IsFirst base seal.check made
IsMade old (sets.Answer answer seal) made = IsBehind old answer seal.check made

abbrev pub accepts : SetView → Bool
accepts (sets.Base base seal) = false
accepts (sets.Answer answer seal) = has_none answer.lines

-- the final version of a delivery that stands so
abbrev pub final_by_stand : Option Stand → Option Version
final_by_stand (Some stand) = if stand.accepted then Some stand.seen else None
final_by_stand None = None

-- ---- all deliveries

-- how the delivery with this number is kept among these
abbrev pub kept_in : List (List ℕ × Stand) → List ℕ → Option Stand
kept_in list number = lookup (bytes_eq number) list

-- The entries are legal, each delivery is kept as it stands, in the order of their first entries, and the signed sets are counted.
pub record AreRules (role : Role) (entries : List Entry) (list : List (List ℕ × Stand)) (count : ℕ) : Type 0 where
  pub legal : Legal role entries
  pub knows : (number : List ℕ) → IsKept number entries (kept_in list number)
  pub order : keys_of list ≡ numbers_of entries
  pub signed : count ≡ length (signed_texts entries)

-- ---- rules as contracts see them

-- Their role and entries, and whether there is room for one entry more.
pub record RulesView : Type 0 where
  pub role : Role
  pub entries : List Entry
  pub room : Bool

-- an entry and a delivery more fit in
abbrev pub has_room : ℕ → ℕ → ℕ → Bool
has_room len capacity spare = nat_lt len capacity && nat_lt 0 spare
