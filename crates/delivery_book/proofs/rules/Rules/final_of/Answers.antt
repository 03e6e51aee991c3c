use Rattle.std.proofs.Common.{◌≡◌, ◌∙◌, subst}
use Rattle.delivery_book.specs.Finals.{final_of}
use Rattle.delivery_book.specs.Index.{RulesView, final_by_stand, kept_in}
use Rattle.delivery_book.proofs.Rebuilt.{final_there}
use Rattle.delivery_book.proofs.rules.Rules.final_of.Goals as goal

pub returns : goal.returns
returns c =
    c.final_among.ensures
    ∙ subst (λ (v : RulesView). final_by_stand (kept_in c.self.inside.deliveries.entries c.args.number.now) ≡ final_of v.entries c.args.number.now) c.self.view_is
    (final_there c.self.inside.role c.self.inside.entries.items c.self.inside.deliveries.entries c.self.inside.signed c.self.invariant c.args.number.now)
