use Rattle.adjustment_895.proofs.Made.{answer_lines, made_answer}
use Rattle.adjustment_895.proofs.laws.made_of_sound_lines.Goals as goal

pub returns-clause-made : goal.returns-clause-made
returns-clause-made c = made_answer

pub returns-clause-lines : goal.returns-clause-lines
returns-clause-lines c = answer_lines
