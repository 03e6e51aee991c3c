use Rattle.std.proofs.Common.{bytes_eq, ap, ◌∙◌}
use Rattle.indexmap.specs.IndexMap.{insert_entry}
use Rattle.own_turn.specs.AskedInside.{asked_as, asked_in}
use Rattle.own_turn.specs.DueSets.{with_asked}
use Rattle.own_turn.proofs.AskedAs.{asked_inserted}
use Rattle.own_turn.proofs.asked.AskedSets.put.Goals as goal

pub returns : goal.returns
returns c =
    ap asked_in c.in-Ok.ensures.entries ∙ ap (λ number. asked_in (insert_entry bytes_eq c.self.inside.deliveries.entries number c.args.asking)) c.copy.ensures
    ∙ asked_inserted c.self.inside.deliveries.entries c.args.number.now c.args.asking ∙ ap (λ l. with_asked l (asked_as c.args.number.now c.args.asking)) c.self.view_is
