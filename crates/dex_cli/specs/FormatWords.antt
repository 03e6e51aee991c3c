-- The words that spell a `format`.
use Rattle.std.specs.Prelude.{ℕ, ◌≡◌, List, [], ◌∷◌, codes}
use Rattle.dsd_values.specs.declared.role.Role.{Role}
use Rattle.dsd_values.specs.declared.role.Role.TheVariants.{Supplier, Receiver}
use Rattle.dsd_journal.specs.declared.header.Header.{Header}
use Rattle.dsd_journal.specs.Headers.{IsHeader}
use Rattle.dex_cli.specs.Names.{IsName}
use Rattle.dex_cli.specs.declared.format_words.NewJournal.{NewJournal}

-- the supplier's end is the handheld
abbrev pub role_word : Role → List ℕ
role_word Supplier = codes "handheld"
role_word Receiver = codes "receiver"

-- Three words say a header: the end, its communication id and its peer's.
pub record SpellsHeader (header : Header) (role own peer : List ℕ) : Type 0 where
  pub fits : IsHeader header
  pub role_is : role ≡ role_word header.role
  pub own_is : own ≡ header.own
  pub peer_is : peer ≡ header.peer

-- Four words say a journal that is to be made.
pub record SpellsNew (new : NewJournal) (role own peer journal : List ℕ) : Type 0 where
  pub header : SpellsHeader new.header role own peer
  pub journal_is : journal ≡ new.journal
  pub name : IsName new.journal

-- the words of a `format`
abbrev pub format_words : NewJournal → List (List ℕ)
format_words new = codes "format" ∷ role_word new.header.role ∷ new.header.own ∷ new.header.peer ∷ new.journal ∷ []

-- These are the words of a `format`.
pub record SpellsFormat (new : NewJournal) (words : List (List ℕ)) : Type 0 where
  pub header : IsHeader new.header
  pub name : IsName new.journal
  pub words_are : words ≡ format_words new
