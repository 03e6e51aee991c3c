use Rattle.clean_sessions.proofs.CoresRight.{drafts_right}
use Rattle.clean_sessions.proofs.core_laws.drafts_choose_rightly.Goals as goal

pub returns-clause-right : goal.returns-clause-right
returns-clause-right c = drafts_right c.args.drafts.now c.drafts.ensures.bases c.choose.ensures.sound
