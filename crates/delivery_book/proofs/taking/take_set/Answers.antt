use Rattle.std.proofs.Common.{ap, ◌≡◌, ◌∙◌}
use Rattle.std.specs.Option.{option_copied}
use Rattle.delivery_book.specs.Deeds.{number_in}
use Rattle.delivery_book.specs.Index.{kept_in}
use Rattle.delivery_book.proofs.Known.{step_known, step_refused, step_taken}
use Rattle.delivery_book.proofs.taking.take_set.Goals as goal

pub returns-then-was_taken : goal.returns-then-was_taken
returns-then-was_taken c =
    let same : option_copied c.get-known.result ≡ kept_in c.args.deliveries.now.entries (number_in c.args.set.now) = c.get-known.ensures.value ∙ ap (kept_in c.args.deliveries.now.entries) c.number_of.ensures in
    step_known c.args.role c.args.entries.now c.args.text.now c.args.set.now _ _ same c.was_taken.result c.was_taken.ensures c.if-was_taken.true

pub returns-in-Ok : goal.returns-in-Ok
returns-in-Ok c =
    let same : option_copied c.get-known.result ≡ kept_in c.args.deliveries.now.entries (number_in c.args.set.now) = c.get-known.ensures.value ∙ ap (kept_in c.args.deliveries.now.entries) c.number_of.ensures in
    step_taken c.args.role c.args.entries.now c.args.text.now c.args.set.now _ _ same c.was_taken.result c.was_taken.ensures c.if-was_taken.false c.in-Ok.ensures.0 c.take.result c.take.ensures

pub returns-in-Err : goal.returns-in-Err
returns-in-Err c =
    let same : option_copied c.get-known.result ≡ kept_in c.args.deliveries.now.entries (number_in c.args.set.now) = c.get-known.ensures.value ∙ ap (kept_in c.args.deliveries.now.entries) c.number_of.ensures in
    step_refused c.args.role c.args.entries.now c.args.text.now c.args.set.now _ _ same c.was_taken.result c.was_taken.ensures c.if-was_taken.false c.in-Err.fault c.in-Err.ensures
