use Rattle.std.proofs.Common.{[], ◌∷◌, refl, List}
use Rattle.dsd_values.specs.declared.extra.Extra.{Extra}
use Rattle.transaction_set.specs.SetWriting.{Row, extra_row}
use Rattle.transaction_set.proofs.Rows.{mapped_at, next_left, next_refused, none_left, one_each, same_err}
use Rattle.transaction_set.proofs.set_writer.SetWriter.extras.Goals as goal

abbrev one : Extra → List Row
one x = extra_row x ∷ []

pub loop-extra-init : goal.loop-extra-init
loop-extra-init c = refl

pub extra-requires : goal.extra-requires
extra-requires c = mapped_at extra_row c.args.extras.now c.loop-extra.extra-index c.extra-item.result c.extra-item.is c.loop-extra-test.true c.requires

pub returns-in_err-writer : goal.returns-in_err-writer
returns-in_err-writer c =
    one_each extra_row c.args.extras.now c.args.self _
    (next_refused one c.args.extras.now c.args.self c.loop-extra.writer c.loop-extra.extra-index c.extra-item.result c.extra-item.is c.loop-extra-test.true c.loop-extra.invariant
    _ _ _ c.in_err-writer.was (same_err _ _ c.from_residual.ensures) c.extra.ensures)

pub loop-extra-preserved : goal.loop-extra-preserved
loop-extra-preserved c =
    next_left one c.args.extras.now c.args.self c.loop-extra.writer c.loop-extra.extra-index c.extra-item.result c.extra-item.is c.loop-extra-test.true c.loop-extra.invariant
    _ c.in_ok-writer.writer c.in_ok-writer.was c.extra.ensures

pub returns : goal.returns
returns c =
    one_each extra_row c.args.extras.now c.args.self _
    (none_left one c.args.extras.now c.args.self c.loop-extra.writer c.loop-extra.extra-index _ c.loop-extra.invariant c.loop-extra-test.false refl)
