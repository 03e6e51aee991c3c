use Rattle.handheld_core.proofs.Known.{bases_apart, bases_spelled}
use Rattle.handheld_core.proofs.choosing.DraftsDecider.drafts.Goals as goal

pub returns-clause-bases : goal.returns-clause-bases
returns-clause-bases c = bases_spelled c.args.self.now c.len.ensures.drafts.each

pub returns-clause-apart : goal.returns-clause-apart
returns-clause-apart c = bases_apart c.args.self.now c.len.ensures.drafts.apart
