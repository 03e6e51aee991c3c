-- Runs and the life of an end.
use Rattle.std.specs.Prelude.{◌≡◌, ℕ, List, [], ◌∷◌, ◌++◌, ⊤}
use Rattle.std.specs.List.{Contains}
use Rattle.dsd_values.specs.declared.role.Role.{Role}
use Rattle.dsd_record.specs.Choices.{Chooser}
use Rattle.dsd_journal.specs.declared.entry.Entry.{Entry}
use Rattle.dsd_journal.specs.declared.entry.EntryKind.TheVariants.{Signed}
use Rattle.delivery_book.specs.Deeds.{taken_texts}
use Rattle.delivery_book.specs.Signing.{Legal}
use Rattle.dsd_end.specs.Carrying.{Carried}
use Rattle.own_turn.specs.Choosing.{Chosen}
use Rattle.dsd_end.specs.Runs.{Run, bytes_heard}
use Rattle.dsd_end.specs.Speaking.{Speaks}

-- The entries begin with those before the run and are legal for the role, each new taken set was carried in what the run
-- heard, and what went out is spoken from them. Why a set was signed is not asked here.
pub record IsRun (role : Role) (run : Run) : Type 0 where
  pub added : List Entry
  pub grown : run.after ≡ run.before ++ added
  pub legal : Legal role run.after
  pub taken : (text : List ℕ) → Contains (taken_texts added) text → Carried (bytes_heard run.heard) text
  pub speaks : Speaks run.gone run.after

-- And each new signed set is chosen on the entries before it: so are the runs of an end that signs by its own choices.
pub record IsRunOf (role : Role) (chooser : Chooser) (run : Run) : Type 0 where
  pub is : IsRun role run
  pub chosen : (front rest : List Entry) (entry : Entry) → is.added ≡ front ++ entry ∷ rest → entry.kind ≡ Signed
      → Chosen role chooser (run.before ++ front) entry.payload

-- runs one after another, the first of which begins with these entries, and each next one with those with which the one
-- before it ended
abbrev pub IsLifeFrom : Role → List Entry → List Run → Type 0
IsLifeFrom role entries [] = ⊤
IsLifeFrom role entries (run ∷ later) = (run.before ≡ entries) × IsRun role run × IsLifeFrom role run.after later

-- all runs on one journal: the first begins with no entries, as a journal is formatted
abbrev pub IsLife : Role → List Run → Type 0
IsLife role runs = IsLifeFrom role [] runs

-- the entries with which the last of these runs ended; these, where there is none
abbrev pub last_from : List Entry → List Run → List Entry
last_from entries [] = entries
last_from entries (run ∷ later) = last_from run.after later

-- the entries that a life leaves
abbrev pub last_list : List Run → List Entry
last_list runs = last_from [] runs
