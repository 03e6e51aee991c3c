use Rattle.std.proofs.Common.{refl, sym, subst}
use Rattle.delivery_book.specs.Deeds.{deeds_of}
use Rattle.delivery_book.specs.Refusals.{propose_fault}
use Rattle.delivery_book.specs.Standing.{IsNew}
use Rattle.own_turn.specs.Desks.{DeskView}
use Rattle.own_turn.specs.NextEntry.{AddsNext}
use Rattle.own_turn.specs.Staging.{IsStaging, ProposesDraft, StagesTo}
use Rattle.own_turn.proofs.Adjusting.{propose_refused}
use Rattle.own_turn.proofs.Signs.{unsigned_new}
use Rattle.own_turn.proofs.desk.Desk.propose_new.Goals as goal

pub returns-in-Err-clause-exact : goal.returns-in-Err-clause-exact
returns-in-Err-clause-exact c =
    let old : DeskView = record { book = c.self.inside.book; asked = c.self.inside.asked; refused = c.self.inside.refused; turns = c.self.inside.turns } in
    let new : DeskView = record old { book = c.propose_later.new.self } in
    let staging = subst (λ (v : DeskView). IsStaging v.book) (sym c.self.view_is) c.requires.staging in
    let is_new = subst (λ (v : DeskView). IsNew c.args.base.number (deeds_of v.book.known)) (sym c.self.view_is) c.requires.new in
    subst (λ (v : DeskView). StagesTo c.unsigned.result (ProposesDraft v.book.header.role c.args.base) (AddsNext (ProposesDraft v.book.header.role c.args.base)) v new) c.self.view_is
    (unsigned_new old.book.header.role c.args.base old c.unsigned.result (propose_fault old.book.header.role old.book.known c.args.base) c.in-Err.fault c.propose_later.new.self staging refl is_new
    (propose_refused old.book.header.role old.book.known c.args.base) c.unsigned.ensures c.in-Err.ensures.exact)
