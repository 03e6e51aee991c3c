-- Where an image is not opened as a book.
use Rattle.std.specs.Prelude.{◌≡◌, ◌≢◌, ◌⊎◌, ◌+◌, ℕ, List, [], ◌∷◌, ◌++◌}
use Rattle.dsd_values.specs.declared.role.Role.{Role}
use Rattle.dsd_journal.specs.declared.entry.Entry.{Entry}
use Rattle.dsd_journal.specs.declared.header.Header.{Header}
use Rattle.dsd_journal.specs.declared.opening.OpenFault.{OpenFault}
use Rattle.dsd_journal.specs.declared.opening.OpenFault.TheVariants as opens
use Rattle.dsd_journal.specs.FirstBad.{IsRefused}
use Rattle.dsd_journal.specs.JournalImage.{Holds, gate_place}
use Rattle.delivery_book.specs.Signing.{Legal}

-- The image holds the journal of the other end, whose letter stands at 5.
pub record IsOtherRole (role : Role) (image : List ℕ) (place : ℕ) : Type 0 where
  pub header : Header
  pub entries : List Entry
  pub holds : Holds header entries image
  pub other : header.role ≢ role
  pub at : place ≡ 5

-- The entry whose kind stands there is the first with which the entries are not legal.
pub record IsFirstIllegal (role : Role) (entries : List Entry) (place : ℕ) : Type 0 where
  pub before : List Entry
  pub entry : Entry
  pub behind : List Entry
  pub split : entries ≡ before ++ entry ∷ behind
  pub legal : Legal role before
  pub illegal : Legal role (before ++ entry ∷ []) → ⊥
  pub at : place ≡ gate_place before + 1

-- It holds the journal of this end, whose entries are not legal.
pub record IsIllegal (role : Role) (image : List ℕ) (place : ℕ) : Type 0 where
  pub header : Header
  pub entries : List Entry
  pub holds : Holds header entries image
  pub own : header.role ≡ role
  pub first : IsFirstIllegal role entries place

-- An image is refused where it holds no journal, and else for the role of its end, and then for its first entry that is not allowed.
pub data IsBookRefused (role : Role) (image : List ℕ) (place : ℕ) : Type 0 where
  NoJournal : IsRefused image place → IsBookRefused role image place
  OtherRole : IsOtherRole role image place → IsBookRefused role image place
  NotLegal : IsIllegal role image place → IsBookRefused role image place

-- ---- the same of a journal that is open

-- why a journal is no book of the end of this role
abbrev pub IsNoBook : Role → Header → List Entry → OpenFault → Type 0
IsNoBook role header entries (opens.NotAJournal place) = ((header.role ≢ role) × (place ≡ 5)) ⊎ ((header.role ≡ role) × IsFirstIllegal role entries place)
IsNoBook role header entries opens.Station = ⊥
IsNoBook role header entries opens.Memory = Unit {0}

-- why its entries are no rules of that end
abbrev pub AreNoRules : Role → List Entry → OpenFault → Type 0
AreNoRules role entries (opens.NotAJournal place) = IsFirstIllegal role entries place
AreNoRules role entries opens.Station = ⊥
AreNoRules role entries opens.Memory = Unit {0}
