use Rattle.std.proofs.Common.{◌<◌, ◌^◌, List, length, arith, rules, subst, sym}
use Rattle.dsd_journal.specs.declared.entry.Entry.{Entry}
use Rattle.delivery_book.specs.Changes.{IsChange}
use Rattle.delivery_book.specs.Index.{AreRules, RulesView}
use Rattle.delivery_book.proofs.Rebuilt.{rules_more, signed_few}
use Rattle.delivery_book.proofs.rules.Rules.keep.Goals as goal

pub counted-self-inside-requires : goal.counted-self-inside-requires
counted-self-inside-requires c =
    let small : length c.self.inside.entries.items < 2 ^ 63 = (search rules) in
    let few = signed_few c.self.inside.entries.items in
    let is = c.self.invariant.signed in
    omega (arith, small, few, is)

pub invariant_of-self : goal.invariant_of-self
invariant_of-self c =
    subst (λ (l : List Entry). AreRules c.self.inside.role l c.put.new.deliveries.entries c.counted-self-inside.result) (sym c.push_reserved.ensures.items)
    (rules_more c.self.inside.role c.self.inside.entries.items c.self.inside.deliveries.entries c.put.new.deliveries.entries c.self.inside.signed c.counted-self-inside.result c.args.change c.self.invariant
    (subst (λ (v : RulesView). IsChange v.role v.entries c.args.change) (sym c.self.view_is) c.requires.change) c.put.ensures.kept c.put.ensures.order c.counted-self-inside.ensures)
