use Rattle.std.proofs.Common.{rules}
use Rattle.dsd_values.proofs.Laws.{word_of_spelled}
use Rattle.dsd_values.proofs.word.read_word.Goals as goal

pub returns-in-Some-clause-spelled : goal.returns-in-Some-clause-spelled
returns-in-Some-clause-spelled c = word_of_spelled c.args.text.now _ (search rules)

pub returns-in-None-clause-spelled : goal.returns-in-None-clause-spelled
returns-in-None-clause-spelled c = word_of_spelled c.args.text.now _ (search rules)
