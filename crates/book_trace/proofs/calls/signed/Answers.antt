use Rattle.std.proofs.Common.{List, subst, sym}
use Rattle.dsd_values.specs.declared.line.Line.{Line}
use Rattle.transaction_set.specs.SoundLines.{AreSoundLines}
use Rattle.adjustment_895.proofs.Made.{answer_lines}
use Rattle.book_trace.proofs.calls.signed.Goals as goal

pub adjust-requires-clause-sound : goal.adjust-requires-clause-sound
adjust-requires-clause-sound c = subst (λ (l : List Line). AreSoundLines l) (sym c.lines-lines.ensures.value) (answer_lines c.args.answer.now c.lines-lines.ensures.spelled)
