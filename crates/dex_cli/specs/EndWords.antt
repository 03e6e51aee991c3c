-- The words that spell a job of an end.
use Rattle.std.specs.Prelude.{ℕ, ◌≡◌, List, [], ◌∷◌}
use Rattle.dsd_values.specs.declared.role.Role.{Role}
use Rattle.dex_cli.specs.FormatWords.{role_word}
use Rattle.dex_cli.specs.Names.{IsName}
use Rattle.dex_cli.specs.declared.end_words.EndNames.{EndNames}

-- Two words name a journal and a port.
pub record AreNames (names : EndNames) (journal port : List ℕ) : Type 0 where
  pub journal_is : journal ≡ names.journal
  pub port_is : port ≡ names.port
  pub journal_name : IsName names.journal
  pub port_name : IsName names.port

abbrev pub words_led_by : List ℕ → EndNames → List (List ℕ)
words_led_by first names = first ∷ names.journal ∷ names.port ∷ []

-- These are the words of a job that this word leads, on this journal and this port.
pub record IsLedBy (first : List ℕ) (names : EndNames) (words : List (List ℕ)) : Type 0 where
  pub journal_name : IsName names.journal
  pub port_name : IsName names.port
  pub words_are : words ≡ words_led_by first names

abbrev pub end_words : Role → EndNames → List (List ℕ)
end_words role names = words_led_by (role_word role) names

-- These are the words of the job of this end.
abbrev pub SpellsEnd : Role → EndNames → List (List ℕ) → Type 0
SpellsEnd role names words = IsLedBy (role_word role) names words
