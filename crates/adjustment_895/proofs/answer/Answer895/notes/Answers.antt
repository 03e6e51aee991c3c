use Rattle.std.proofs.Common.{ap, ◌∙◌}
use Rattle.adjustment_895.specs.AnswerRecord.{AnswerRecord}
use Rattle.adjustment_895.specs.Grammar.{notes}
use Rattle.adjustment_895.proofs.WrittenBack.{notes_are}
use Rattle.adjustment_895.proofs.answer.Answer895.notes.Goals as goal

pub returns : goal.returns
returns c = notes_are c.self.inside.note c.as_slice.result.now c.as_slice.ensures ∙ ap (λ (answer : AnswerRecord). notes answer.note) c.self.view_is
