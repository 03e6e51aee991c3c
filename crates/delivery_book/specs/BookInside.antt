-- What contracts see of a book's fields, and what holds of them.
use Rattle.std.specs.Prelude.{◌≡◌, ◌++◌, true}
use Rattle.delivery_book.specs.declared.book.Book.TheInside.{Inside}
use Rattle.delivery_book.specs.Books.{BookView}
use Rattle.delivery_book.specs.Signing.{Legal}

abbrev pub book_of : Inside → BookView
book_of b = record { header = b.journal.header; entries = b.journal.entries; staged = b.journal.staged; known = b.rules.entries; works = b.journal.works }

-- Its rules are those of its journal's end, and their entries are legal. While it works they are those of the journal and those that are staged.
pub record IsBook (b : Inside) : Type 0 where
  pub role : b.rules.role ≡ b.journal.header.role
  pub legal : Legal b.journal.header.role b.rules.entries
  pub known : b.journal.works ≡ true → b.rules.entries ≡ b.journal.entries ++ b.journal.staged
