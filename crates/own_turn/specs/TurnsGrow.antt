-- What own turns add to the entries.
use Rattle.std.specs.Prelude.{◌≡◌, ℕ, List, [], ◌∷◌, ◌++◌, ⊤}
use Rattle.std.specs.List.{Contains}
use Rattle.dsd_values.specs.declared.role.Role.{Role}
use Rattle.dsd_record.specs.Choices.{Chooser}
use Rattle.dsd_journal.specs.declared.entry.Entry.{Entry}
use Rattle.dsd_journal.specs.declared.entry.EntryKind.{EntryKind}
use Rattle.dsd_journal.specs.declared.entry.EntryKind.TheVariants.{Signed, Took}
use Rattle.own_turn.specs.Choosing.{Chosen}
use Rattle.delivery_book.specs.Signing.{Legal}
use Rattle.own_turn.specs.OwnTurn.{sets_lent}

-- what is signed is chosen on the entries before it, and what is taken has P
abbrev pub IsNewAs : EntryKind → Role → Chooser → (List ℕ → Type 0) → List Entry → List ℕ → Type 0
IsNewAs Signed role chooser P before text = Chosen role chooser before text
IsNewAs Took role chooser P before text = P text

abbrev pub AreNew : Role → Chooser → (List ℕ → Type 0) → List Entry → List Entry → Type 0
AreNew role chooser P before [] = ⊤
AreNew role chooser P before (entry ∷ more) =
    IsNewAs entry.kind role chooser P before entry.payload × AreNew role chooser P (before ++ entry ∷ []) more

-- Entries are added, each of which is chosen or has P, and legal entries stay so.
pub record IsGrown (role : Role) (chooser : Chooser) (P : List ℕ → Type 0) (old new : List Entry) : Type 0 where
  pub added : List Entry
  pub grown : new ≡ old ++ added
  pub each : AreNew role chooser P old added
  pub legal : Legal role old → Legal role new

-- some text lends this set
abbrev pub IsLent : List ℕ → Type 0
IsLent set = (text : List ℕ) × Contains (sets_lent text) set
