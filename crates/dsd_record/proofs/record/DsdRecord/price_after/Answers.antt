use Rattle.dsd_record.proofs.AfterChanges.{found_after, refused_after}
use Rattle.dsd_record.proofs.Answered.{few_after, small_after}
use Rattle.dsd_record.proofs.record.DsdRecord.price_after.Goals as goal

pub returns-clause-found : goal.returns-clause-found
returns-clause-found c = found_after c.args.self.now c.args.changes.now c.totals_after.result c.totals_after.ensures

pub returns-clause-refused : goal.returns-clause-refused
returns-clause-refused c = refused_after c.args.self.now c.args.changes.now c.totals_after.result c.totals_after.ensures

pub returns-clause-few : goal.returns-clause-few
returns-clause-few c = few_after c.args.self.now c.args.changes.now c.totals_after.result c.requires.sound (returns-clause-found c)

pub returns-clause-small : goal.returns-clause-small
returns-clause-small c = small_after c.args.self.now c.args.changes.now c.totals_after.result c.lines.ensures.version c.requires.sound (returns-clause-found c)
