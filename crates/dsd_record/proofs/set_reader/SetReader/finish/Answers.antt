use Rattle.dsd_record.proofs.TakenSets.{read_once, read_only, read_sized}
use Rattle.dsd_record.proofs.set_reader.SetReader.finish.Goals as goal

pub returns-clause-read : goal.returns-clause-read
returns-clause-read c = λ text taken. read_once text c.read.result (c.read.ensures.found text taken)

pub returns-clause-sized : goal.returns-clause-sized
returns-clause-sized c = λ text taken. read_sized text c.read.result (c.read.ensures.found text taken)

pub returns-clause-only : goal.returns-clause-only
returns-clause-only c = λ text taken set is. read_only text c.read.result (c.read.ensures.found text taken) (c.read.ensures.exact text taken) set is
