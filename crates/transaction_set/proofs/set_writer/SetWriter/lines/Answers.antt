use Rattle.std.proofs.Common.{refl}
use Rattle.transaction_set.specs.SetWriting.{line_rows}
use Rattle.transaction_set.proofs.Rows.{rows_at, next_left, next_refused, none_left, same_err}
use Rattle.transaction_set.proofs.set_writer.SetWriter.lines.Goals as goal

pub loop-line-init : goal.loop-line-init
loop-line-init c = refl

pub line-requires : goal.line-requires
line-requires c = rows_at (line_rows c.args.form) c.args.lines.now c.loop-line.line-index c.line-item.result c.line-item.is c.loop-line-test.true c.requires

pub returns-in_err-writer : goal.returns-in_err-writer
returns-in_err-writer c =
    next_refused (line_rows c.args.form) c.args.lines.now c.args.self c.loop-line.writer c.loop-line.line-index c.line-item.result c.line-item.is c.loop-line-test.true c.loop-line.invariant
    _ _ _ c.in_err-writer.was (same_err _ _ c.from_residual.ensures) c.line.ensures

pub loop-line-preserved : goal.loop-line-preserved
loop-line-preserved c =
    next_left (line_rows c.args.form) c.args.lines.now c.args.self c.loop-line.writer c.loop-line.line-index c.line-item.result c.line-item.is c.loop-line-test.true c.loop-line.invariant
    _ c.in_ok-writer.writer c.in_ok-writer.was c.line.ensures

pub returns : goal.returns
returns c =
    none_left (line_rows c.args.form) c.args.lines.now c.args.self c.loop-line.writer c.loop-line.line-index _ c.loop-line.invariant c.loop-line-test.false refl
