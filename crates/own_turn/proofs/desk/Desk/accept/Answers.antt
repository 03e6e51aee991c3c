use Rattle.std.proofs.Common.{◌≡◌, true, refl, sym, subst}
use Rattle.delivery_book.specs.Answering.{IsAcceptance}
use Rattle.delivery_book.specs.Lookups.{awaits_us}
use Rattle.delivery_book.specs.Refusals.{accept_fault}
use Rattle.own_turn.specs.Desks.{DeskView}
use Rattle.own_turn.specs.NextEntry.{AddsNext}
use Rattle.own_turn.specs.Staging.{IsStaging, SignsSome, StagesTo}
use Rattle.own_turn.proofs.Signs.{unsigned_behind}
use Rattle.own_turn.proofs.Answering.{accept_refused}
use Rattle.own_turn.proofs.desk.Desk.accept.Goals as goal

pub returns-in-Err-clause-exact : goal.returns-in-Err-clause-exact
returns-in-Err-clause-exact c =
    let old : DeskView = record { book = c.self.inside.book; asked = c.self.inside.asked; refused = c.self.inside.refused; turns = c.self.inside.turns } in
    let new : DeskView = record old { book = c.accept_later.new.self } in
    let staging = subst (λ (v : DeskView). IsStaging v.book) (sym c.self.view_is) c.requires.staging in
    let awaits = subst (λ (v : DeskView). awaits_us v.book.known c.args.number.now ≡ true) (sym c.self.view_is) c.requires.awaits in
    subst (λ (v : DeskView). StagesTo c.unsigned.result (SignsSome v.book.header.role c.args.number.now true (λ entries text. IsAcceptance v.book.header.role entries c.args.number.now c.args.signature.now text)) (AddsNext (SignsSome v.book.header.role c.args.number.now true (λ entries text. IsAcceptance v.book.header.role entries c.args.number.now c.args.signature.now text))) v new) c.self.view_is
    (unsigned_behind old.book.header.role c.args.number.now true (λ entries text. IsAcceptance old.book.header.role entries c.args.number.now c.args.signature.now text) old c.unsigned.result
    (accept_fault old.book.header.role old.book.known c.args.number.now c.args.signature.now) c.in-Err.fault c.accept_later.new.self staging refl (accept_refused old.book.header.role old.book.known c.args.number.now c.args.signature.now awaits) c.unsigned.ensures c.in-Err.ensures.exact)
