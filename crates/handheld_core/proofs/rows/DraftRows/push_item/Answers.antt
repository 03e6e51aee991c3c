use Rattle.std.proofs.Common.{◌≡◌, ◌<◌, List, [], ◌∷◌, ◌++◌, false, length, subst, sym}
use Rattle.dsd_values.specs.declared.line.Line.{Line}
use Rattle.transaction_set.specs.Reasons.{has_line}
use Rattle.handheld_core.specs.DraftRows.{AreRows, Rows}
use Rattle.handheld_core.proofs.Rowed.{item_more, pushed}
use Rattle.handheld_core.proofs.rows.DraftRows.push_item.Goals as goal

pub invariant_of-self : goal.invariant_of-self
invariant_of-self c =
    let rows : Rows = record { extras = c.self.inside.extras; lines = c.self.inside.lines } in
    let fresh : has_line c.args.item.dsd rows.lines ≡ false = subst (λ (r : Rows). has_line c.args.item.dsd r.lines ≡ false) (sym c.self.view_is) c.requires.apart in
    let room : length rows.lines < 999 = subst (λ (r : Rows). length r.lines < 999) (sym c.self.view_is) c.requires.room in
    pushed (λ (ls : List Line). AreRows (record { extras = c.self.inside.extras; lines = ls })) c.push.result c.self.inside.lines c.push.new.self (c.self.inside.lines ++ c.args.item ∷ []) c.push.ensures.ok c.push.ensures.err
    c.self.invariant (item_more rows c.args.item c.self.invariant c.requires.plain c.requires.bare fresh room)
