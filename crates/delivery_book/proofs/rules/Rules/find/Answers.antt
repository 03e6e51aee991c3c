use Rattle.std.proofs.Common.{◌≡◌, ◌<◌, ℕ, MatchOption, length, subst}
use Rattle.delivery_book.specs.Deeds.{deeds_of}
use Rattle.delivery_book.specs.Index.{RulesView}
use Rattle.delivery_book.specs.Lookups.{number_at, numbers_of}
use Rattle.delivery_book.specs.Standing.{IsNew}
use Rattle.delivery_book.proofs.Rebuilt.{found_there}
use Rattle.delivery_book.proofs.rules.Rules.find.Goals as goal

pub returns : goal.returns
returns c =
    subst (λ (v : RulesView). MatchOption c.index_of.result (IsNew c.args.number.now (deeds_of v.entries)) (λ (index : ℕ). (index < length (numbers_of v.entries)) × (number_at v.entries index ≡ c.args.number.now))) c.self.view_is
    (found_there c.self.inside.role c.self.inside.entries.items c.self.inside.deliveries.entries c.self.inside.signed c.self.invariant c.args.number.now c.index_of.result c.index_of.ensures)
