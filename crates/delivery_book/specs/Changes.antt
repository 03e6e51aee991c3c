-- An entry more, and what becomes of its delivery.
use Rattle.std.specs.Prelude.{◌≡◌, ℕ, Bool, true, false, List, [], ◌∷◌, ◌++◌, bytes_eq, Option, Some, None, Result, Ok, Err}
use Rattle.std.specs.List.{list_any}
use Rattle.dsd_values.specs.declared.role.Role.{Role}
use Rattle.dsd_pricing.specs.declared.fault.WriteFault.{WriteFault}
use Rattle.base_record_894.specs.WrittenText.{written_of as base_written}
use Rattle.adjustment_895.specs.WrittenText.{written_of as answer_written}
use Rattle.dsd_record.specs.declared.set_view.SetView.{SetView}
use Rattle.dsd_record.specs.declared.set_view.SetView.TheVariants as sets
use Rattle.dsd_journal.specs.declared.entry.Entry.{Entry}
use Rattle.dsd_journal.specs.declared.entry.EntryKind.{EntryKind}
use Rattle.dsd_journal.specs.declared.entry.EntryKind.TheVariants.{Signed, Took}
use Rattle.delivery_book.specs.declared.change.Change.{Change}
use Rattle.delivery_book.specs.Deeds.{number_in}
use Rattle.delivery_book.specs.Index.{IsStand, text_at}
use Rattle.delivery_book.specs.Signing.{Allows}

-- The entry may stand behind these, and its delivery then stands so.
pub record IsChange (role : Role) (entries : List Entry) (change : Change) : Type 0 where
  pub allowed : Allows role entries change.entry
  pub number : change.number ≡ number_in allowed.set
  pub stand : IsStand change.number (entries ++ change.entry ∷ []) change.delivery

-- ---- whether a text was taken, by the places of those that were

abbrev pub is_text : List ℕ → Option (List ℕ) → Bool
is_text text (Some other) = bytes_eq other text
is_text text None = false

abbrev pub is_taken_at : List ℕ → List Entry → List ℕ → Bool
is_taken_at text entries places = list_any (λ (place : ℕ). is_text text (text_at entries place)) places

-- ---- whether a set that was signed is in its written form

abbrev pub is_written : List ℕ → Result (List ℕ) WriteFault → Bool
is_written text (Ok written) = bytes_eq written text
is_written text (Err fault) = false

abbrev pub is_set_written : SetView → ℕ → List ℕ → Bool
is_set_written (sets.Base base seal) control text = is_written text (base_written base control)
is_set_written (sets.Answer answer seal) control text = is_written text (answer_written answer control)

abbrev pub is_form : EntryKind → SetView → ℕ → List ℕ → Bool
is_form Signed set control text = is_set_written set control text
is_form Took set control text = true
