use Rattle.std.proofs.Common.{[], true}
use Rattle.dsd_record.proofs.TakenSets.{begun_first}
use Rattle.dsd_record.proofs.set_reader.answer_by.Goals as goal

pub returns-in-Ok-clause-taken : goal.returns-in-Ok-clause-taken
returns-in-Ok-clause-taken c = (begun_first true c.args.segment.now c.bytes.ensures.spelled c.requires, c.take-answer.ensures.taken [] c.in-Ok.ensures.empty)
