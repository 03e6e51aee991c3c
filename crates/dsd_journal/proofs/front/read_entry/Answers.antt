use Rattle.dsd_journal.proofs.Fronts.{found_all, bad_all}
use Rattle.dsd_journal.proofs.front.read_entry.Goals as goal

pub returns-clause-found : goal.returns-clause-found
returns-clause-found c = found_all c.args.gate c.args.behind.now c.find_entry.result c.find_entry.ensures.found

pub returns-clause-bad : goal.returns-clause-bad
returns-clause-bad c = bad_all c.args.gate c.args.behind.now c.find_entry.result c.find_entry.ensures.bad
