use Rattle.std.proofs.Common.{rules}
use Rattle.dsd_values.proofs.Laws.{word_between_spelled}
use Rattle.dsd_values.proofs.word.read_word_between.Goals as goal

pub returns-in-Some-clause-spelled : goal.returns-in-Some-clause-spelled
returns-in-Some-clause-spelled c = word_between_spelled c.args.least c.args.most c.args.text.now _ (search rules)

pub returns-in-None-2-clause-spelled : goal.returns-in-None-2-clause-spelled
returns-in-None-2-clause-spelled c = word_between_spelled c.args.least c.args.most c.args.text.now _ (search rules)
