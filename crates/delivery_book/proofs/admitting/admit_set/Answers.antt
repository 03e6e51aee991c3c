use Rattle.std.proofs.Common.{ap, ◌≡◌, ◌∙◌, length}
use Rattle.std.specs.Option.{option_copied}
use Rattle.delivery_book.specs.Deeds.{number_in}
use Rattle.delivery_book.specs.Index.{kept_in}
use Rattle.delivery_book.proofs.Allowed.{step_admitted, step_formless}
use Rattle.delivery_book.proofs.admitting.admit_set.Goals as goal

pub returns-then-form : goal.returns-then-form
returns-then-form c =
    let same : option_copied c.get-known.result ≡ kept_in c.args.deliveries.now.entries (number_in c.args.set.now) = c.get-known.ensures.value ∙ ap (kept_in c.args.deliveries.now.entries) c.number_of.ensures in
    step_admitted c.args.role c.args.kind _ c.args.text.now c.args.set.now (length c.args.entries.now) _ _ same c.in-Ok.form c.in-Ok.ensures c.if-form.true c.admit.result c.admit.ensures

pub returns : goal.returns
returns c =
    let same : option_copied c.get-known.result ≡ kept_in c.args.deliveries.now.entries (number_in c.args.set.now) = c.get-known.ensures.value ∙ ap (kept_in c.args.deliveries.now.entries) c.number_of.ensures in
    step_formless c.args.role c.args.kind _ c.args.text.now c.args.set.now (length c.args.entries.now) _ _ same c.in-Ok.form c.in-Ok.ensures c.if-form.false
