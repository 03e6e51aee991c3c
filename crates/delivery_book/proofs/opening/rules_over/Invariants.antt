use Rattle.std.proofs.Common.{◌≡◌, take}
use Rattle.delivery_book.specs.Signing.{Legal}
use Rattle.delivery_book.proofs.opening.rules_over.Given as goal

abbrev pub invariant-loop-index : goal.invariant-loop-index
invariant-loop-index l = (l.rules.role ≡ l.fn.role) × (l.rules.entries ≡ take l.index l.journal.entries) × Legal l.fn.role (take l.index l.journal.entries)
