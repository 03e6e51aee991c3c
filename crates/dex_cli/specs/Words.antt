-- The words that spell a job.
use Rattle.std.specs.Prelude.{ℕ, ◌≡◌, ◌⊎◌, List, [], ◌∷◌, codes, Ok}
use Rattle.dex_cli.specs.FormatWords.{SpellsFormat}
use Rattle.dsd_values.specs.Reading.{number_of}
use Rattle.dsd_values.specs.declared.role.Role.{Role}
use Rattle.dsd_values.specs.declared.role.Role.TheVariants.{Supplier, Receiver}
use Rattle.load_route.specs.declared.deliveries.TheConstants.{MOST_DELIVERIES}
use Rattle.dex_cli.specs.EndWords.{SpellsEnd}
use Rattle.dex_cli.specs.Names.{IsName}
use Rattle.dex_cli.specs.declared.end_words.EndNames.{EndNames}
use Rattle.dex_cli.specs.declared.format_words.NewJournal.{NewJournal}
use Rattle.dex_cli.specs.declared.words.Job.{Job}
use Rattle.dex_cli.specs.declared.words.Job.TheVariants as jobs
use Rattle.dex_cli.specs.declared.words.CheckKind.{CheckKind}
use Rattle.dex_cli.specs.declared.words.CheckKind.TheVariants as checks

abbrev pub check_words : CheckKind → List (List ℕ)
check_words checks.Set = codes "check" ∷ codes "set" ∷ []
check_words checks.Text = codes "check" ∷ codes "text" ∷ []
check_words checks.Line = codes "check" ∷ codes "line" ∷ []

-- the word of a `replay`
abbrev pub replay_words : List (List ℕ)
replay_words = codes "replay" ∷ []

-- the words of a `load`
abbrev pub load_words : List ℕ → List (List ℕ)
load_words count = codes "load" ∷ count ∷ []

-- These are the words of a `load` of so many deliveries: a number from 1 to the most of a route.
pub record SpellsLoad (count : ℕ) (words : List (List ℕ)) : Type 0 where
  pub text : List ℕ
  pub number : number_of 1 MOST_DELIVERIES text ≡ Ok count
  pub words_are : words ≡ load_words text

-- the words of a `show`
abbrev pub show_words : List ℕ → List (List ℕ)
show_words journal = codes "show" ∷ journal ∷ []

-- These are the words of a `show` of this journal.
pub record SpellsShow (journal : List ℕ) (words : List (List ℕ)) : Type 0 where
  pub name : IsName journal
  pub words_are : words ≡ show_words journal

-- These are the words of this job.
abbrev pub Spells : Job → List (List ℕ) → Type 0
Spells (jobs.Check kind) words = words ≡ check_words kind
Spells (jobs.Format new) words = SpellsFormat new words
Spells (jobs.Show journal) words = SpellsShow journal words
Spells (jobs.Handheld names) words = SpellsEnd Supplier names words
Spells (jobs.Receiver names) words = SpellsEnd Receiver names words
Spells jobs.Replay words = words ≡ replay_words
Spells (jobs.Load count) words = SpellsLoad count words

-- the words are those of no job
abbrev pub IsOfNoJob : List (List ℕ) → Type 0
IsOfNoJob words = (job : Job) → Spells job words → ⊥

-- the words are those of a check
abbrev pub AsksCheck : List (List ℕ) → Type 0
AsksCheck words = (kind : CheckKind) × Spells (jobs.Check kind) words

-- the words are those of a `format`
abbrev pub AsksFormat : List (List ℕ) → Type 0
AsksFormat words = (new : NewJournal) × Spells (jobs.Format new) words

-- the words are those of a `show`
abbrev pub AsksShow : List (List ℕ) → Type 0
AsksShow words = (journal : List ℕ) × Spells (jobs.Show journal) words

-- the words are those of the job of an end
abbrev pub AsksEnd : List (List ℕ) → Type 0
AsksEnd words = (role : Role) × (names : EndNames) × SpellsEnd role names words

-- the words are those of a `replay`
abbrev pub AsksReplay : List (List ℕ) → Type 0
AsksReplay words = words ≡ replay_words

-- the words are those of a `load`
abbrev pub AsksLoad : List (List ℕ) → Type 0
AsksLoad words = (count : ℕ) × Spells (jobs.Load count) words

-- the words are those of a job that leaves a world
abbrev pub AsksWorld : List (List ℕ) → Type 0
AsksWorld words = AsksReplay words ⊎ AsksLoad words

-- the words are those of a job on a journal
abbrev pub AsksJournal : List (List ℕ) → Type 0
AsksJournal words = AsksFormat words ⊎ (AsksShow words ⊎ AsksEnd words)

-- the words are those of a job that reads the source
abbrev pub AsksSource : List (List ℕ) → Type 0
AsksSource words = AsksCheck words ⊎ (AsksEnd words ⊎ AsksReplay words)
