use Rattle.std.proofs.Common.{◌≡◌, ◌<◌, length, subst, sym, ◌∙◌}
use Rattle.delivery_book.specs.Index.{IsStand, RulesView}
use Rattle.delivery_book.specs.Lookups.{number_at, numbers_of}
use Rattle.delivery_book.proofs.Rebuilt.{as_many, number_there, stands_at}
use Rattle.delivery_book.proofs.rules.Rules.at.Goals as goal

pub at-requires : goal.at-requires
at-requires c =
    subst (λ (n : _). c.args.index < n) (sym (as_many c.self.inside.role c.self.inside.entries.items c.self.inside.deliveries.entries c.self.inside.signed c.self.invariant))
    (subst (λ (v : RulesView). c.args.index < length (numbers_of v.entries)) (sym c.self.view_is) c.requires)

pub returns-clause-number : goal.returns-clause-number
returns-clause-number c =
    subst (λ (v : RulesView). c.at.result.0.now ≡ number_at v.entries c.args.index) c.self.view_is
    (c.at.ensures.number ∙ number_there c.self.inside.role c.self.inside.entries.items c.self.inside.deliveries.entries c.self.inside.signed c.self.invariant c.args.index)

pub returns-clause-stand : goal.returns-clause-stand
returns-clause-stand c =
    subst (λ (v : RulesView). IsStand (number_at v.entries c.args.index) v.entries c.at.result.1.now) c.self.view_is
    (stands_at c.self.inside.role c.self.inside.entries.items c.self.inside.deliveries.entries c.self.inside.signed c.self.invariant c.args.index c.at.result.1.now c.at.ensures.kept)
