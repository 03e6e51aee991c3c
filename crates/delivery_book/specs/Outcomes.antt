-- What the calls of a book come to.
use Rattle.std.specs.Prelude.{◌≡◌, ◌⊎◌, ℕ, List, ◌∷◌, [], ◌++◌, Option, Some, None, Result, Ok, Err}
use Rattle.dsd_journal.specs.declared.entry.Entry.{Entry}
use Rattle.dsd_journal.specs.declared.entry.EntryKind.{EntryKind}
use Rattle.delivery_book.specs.declared.fault.AdmitFault.{AdmitFault}
use Rattle.delivery_book.specs.declared.fault.AdmitFault.TheVariants as admitting
use Rattle.delivery_book.specs.declared.fault.RuleFault.{RuleFault}
use Rattle.delivery_book.specs.declared.fault.RuleFault.TheVariants as rules

-- A call refuses with the fault, or for want of memory; where there is no fault it answers as said.
abbrev pub Judges : {X : Type 0} → Result X RuleFault → Option RuleFault → (X → Type 0) → Type 0
Judges (Ok x) fault Made = (fault ≡ None) × Made x
Judges (Err e) fault Made = (e ≡ rules.Memory) ⊎ (fault ≡ Some e)

-- An entry is refused as illegal where it is so; where it is not, it is as said. Want of memory is free.
abbrev pub Admits : {X : Type 0} → Result X AdmitFault → Type 0 → (X → Type 0) → Type 0
Admits (Ok x) Allowed Made = Allowed × Made x
Admits (Err admitting.Illegal) Allowed Made = Allowed → ⊥
Admits (Err admitting.Memory) Allowed Made = Unit {0}

-- A call that signs or takes a text: where there is no fault, a text as said stands behind the entries; else nothing has changed. Want of memory
-- is free.
abbrev pub Adds : Result (Unit {0}) RuleFault → Option RuleFault → EntryKind → (List ℕ → Type 0) → List Entry → List Entry → Type 0
Adds (Ok done) fault kind Made old new = (fault ≡ None) × ((text : List ℕ) × Made text × (new ≡ old ++ (record { kind = kind; payload = text }) ∷ []))
Adds (Err e) fault kind Made old new = ((e ≡ rules.Memory) ⊎ (fault ≡ Some e)) × (new ≡ old)
