use Rattle.std.proofs.Common.{rules}
use Rattle.dsd_values.proofs.Laws.{filled_word_of_spelled}
use Rattle.dsd_values.proofs.word.read_filled_word.Goals as goal

pub returns-clause-spelled : goal.returns-clause-spelled
returns-clause-spelled c = filled_word_of_spelled c.args.text.now _ (search rules)
