use Rattle.clean_sessions.proofs.CoresRight.{counts_right}
use Rattle.clean_sessions.proofs.core_laws.counts_choose_rightly.Goals as goal

pub returns : goal.returns
returns c = λ text says. counts_right c.args.counts.now text says c.choose.ensures.sound c.drafts.ensures.bases
