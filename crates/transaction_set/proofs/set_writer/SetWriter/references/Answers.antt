use Rattle.std.proofs.Common.{[], ◌∷◌, refl, List, ℕ}
use Rattle.transaction_set.specs.SetWriting.{Row, kept_row}
use Rattle.transaction_set.proofs.Rows.{mapped_at, next_left, next_refused, none_left, one_each, same_err}
use Rattle.transaction_set.proofs.set_writer.SetWriter.references.Goals as goal

abbrev one : List ℕ → List Row
one x = kept_row x ∷ []

pub loop-text-init : goal.loop-text-init
loop-text-init c = refl

pub kept-requires : goal.kept-requires
kept-requires c = mapped_at kept_row c.args.texts.now c.loop-text.text-index c.text-item.result c.text-item.is c.loop-text-test.true c.requires

pub returns-in_err-writer : goal.returns-in_err-writer
returns-in_err-writer c =
    one_each kept_row c.args.texts.now c.args.self _
    (next_refused one c.args.texts.now c.args.self c.loop-text.writer c.loop-text.text-index c.text-item.result c.text-item.is c.loop-text-test.true c.loop-text.invariant
    _ _ _ c.in_err-writer.was (same_err _ _ c.from_residual.ensures) c.kept.ensures)

pub loop-text-preserved : goal.loop-text-preserved
loop-text-preserved c =
    next_left one c.args.texts.now c.args.self c.loop-text.writer c.loop-text.text-index c.text-item.result c.text-item.is c.loop-text-test.true c.loop-text.invariant
    _ c.in_ok-writer.writer c.in_ok-writer.was c.kept.ensures

pub returns : goal.returns
returns c =
    one_each kept_row c.args.texts.now c.args.self _
    (none_left one c.args.texts.now c.args.self c.loop-text.writer c.loop-text.text-index _ c.loop-text.invariant c.loop-text-test.false refl)
