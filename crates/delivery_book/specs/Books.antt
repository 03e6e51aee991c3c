-- A book as contracts see it, and what its calls make of it.
use Rattle.std.specs.Prelude.{◌≡◌, ◌≢◌, ◌⊎◌, ◌<◌, ◌≤◌, ◌+◌, ℕ, Bool, false, List, [], ◌∷◌, ◌++◌, length, Option, Some, None, Result, Ok, Err}
use Rattle.dsd_station.specs.Told.{Told}
use Rattle.dsd_journal.specs.declared.entry.Entry.{Entry}
use Rattle.dsd_journal.specs.declared.entry.EntryKind.{EntryKind}
use Rattle.dsd_journal.specs.declared.header.Header.{Header}
use Rattle.dsd_journal.specs.declared.limits.TheConstants.{JOURNAL_BYTES}
use Rattle.dsd_journal.specs.JournalImage.{gate_place}
use Rattle.dsd_journal.specs.Steps.{Flushes}
use Rattle.delivery_book.specs.declared.book_fault.BookFault.{BookFault}
use Rattle.delivery_book.specs.declared.book_fault.BookFault.TheVariants as books
use Rattle.delivery_book.specs.declared.fault.RuleFault.{RuleFault}
use Rattle.delivery_book.specs.declared.fault.RuleFault.TheVariants as rules
use Rattle.delivery_book.specs.Signing.{Legal}

-- The header and the entries of its journal, those that are staged behind them, those that its calls speak of, and whether it works. While
-- it works its calls speak of the entries and those that are staged.
pub record BookView : Type 0 where
  pub header : Header
  pub entries : List Entry
  pub staged : List Entry
  pub known : List Entry
  pub works : Bool

abbrev pub entry_of : EntryKind → List ℕ → Entry
entry_of kind text = record { kind = kind; payload = text }

-- with one text more, signed or taken, that is staged
abbrev pub with_staged_text : BookView → EntryKind → List ℕ → BookView
with_staged_text book kind text = record book { staged = book.staged ++ entry_of kind text ∷ []; known = book.known ++ entry_of kind text ∷ [] }

-- all that was staged stands among the entries
abbrev pub flushed_book : BookView → BookView
flushed_book book = record book { entries = book.entries ++ book.staged; staged = [] }

-- it works no more, and what was staged is given up
abbrev pub stopped_book : BookView → BookView
stopped_book book = record book { staged = []; works = false }

-- how many bytes its journal would have with all that is staged, and a text of so many bytes behind it
abbrev pub bytes_with : BookView → ℕ → ℕ
bytes_with book n = gate_place (book.entries ++ book.staged) + 7 + n

-- ---- faults

-- the refusal of the rules that a fault is, where it is one
abbrev pub rule_of : BookFault → Option RuleFault
rule_of (books.NotOurTurn level) = Some (rules.NotOurTurn level)
rule_of (books.AlreadySigned level) = Some (rules.AlreadySigned level)
rule_of (books.UnknownSet check) = Some (rules.UnknownSet check)
rule_of (books.AlreadyFinal check) = Some (rules.AlreadyFinal check)
rule_of books.LevelLimit = Some rules.LevelLimit
rule_of books.Known = Some rules.Known
rule_of (books.Stale level) = Some (rules.Stale level)
rule_of (books.Apply fault) = Some (rules.Apply fault)
rule_of books.NoDelivery = Some rules.NoDelivery
rule_of (books.Set fault) = Some (rules.Set fault)
rule_of (books.Write fault) = Some (rules.Write fault)
rule_of books.WrongSide = Some rules.WrongSide
rule_of books.Memory = Some rules.Memory
rule_of (books.Full n) = None
rule_of books.Station = None

-- Why a call adds nothing: the rules refuse with this fault; or they do not, and the journal would be too long with the text that it would add,
-- with which the entries are legal. Want of memory is free, and the station is not asked.
abbrev pub Refuses : BookFault → Option RuleFault → EntryKind → (List ℕ → Type 0) → BookView → Type 0
Refuses (books.Full n) fault kind Made book =
    (fault ≡ None) × ((text : List ℕ) × Made text × Legal book.header.role (book.known ++ entry_of kind text ∷ []) × (n ≡ bytes_with book (length text)) × (JOURNAL_BYTES < n))
Refuses books.Station fault kind Made book = ⊥
Refuses books.Memory fault kind Made book = Unit {0}
Refuses refusal fault kind Made book = fault ≡ rule_of refusal

-- ---- calls

-- The rules do not refuse, the journal has room, and a text as said is staged and then dealt with so.
abbrev pub AddsText : Option RuleFault → EntryKind → (List ℕ → Type 0) → (BookView → BookView) → BookView → BookView → Type 0
AddsText fault kind Made after old new = (fault ≡ None) × ((text : List ℕ) × Made text × (bytes_with old (length text) ≤ JOURNAL_BYTES) × (new ≡ after (with_staged_text old kind text)))

-- A call that stages: where it refuses nothing has changed.
abbrev pub Stages : Result (Unit {0}) BookFault → Option RuleFault → EntryKind → (List ℕ → Type 0) → BookView → BookView → Type 0
Stages (Ok done) fault kind Made old new = AddsText fault kind Made (λ book. book) old new
Stages (Err e) fault kind Made old new = Refuses e fault kind Made old × (new ≡ old)

-- A call that stages and flushes. Where the station failed the book works no more; on each other fault nothing has changed.
abbrev pub Keeps : Result (Unit {0}) BookFault → Option RuleFault → EntryKind → (List ℕ → Type 0) → BookView → BookView → Type 0
Keeps (Ok done) fault kind Made old new = AddsText fault kind Made flushed_book old new
Keeps (Err e) fault kind Made old new = (Refuses e fault kind Made old × (new ≡ old)) ⊎ ((e ≡ books.Station) × AddsText fault kind Made stopped_book old new)

-- it answers that the station failed
abbrev pub IsStop : Result (Unit {0}) BookFault → Type 0
IsStop (Ok done) = ⊥
IsStop (Err e) = e ≡ books.Station

-- it asked its station for nothing
abbrev pub IsRefusal : Result (Unit {0}) BookFault → Type 0
IsRefusal (Ok done) = ⊥
IsRefusal (Err e) = e ≢ books.Station

-- it asked its station for a flush of the one text
abbrev pub FlushesOne : Result (Unit {0}) BookFault → EntryKind → (List ℕ → Type 0) → BookView → Told → Told → Type 0
FlushesOne result kind Made book old new = (text : List ℕ) × Made text × Flushes book.header book.entries (entry_of kind text ∷ []) result old new
