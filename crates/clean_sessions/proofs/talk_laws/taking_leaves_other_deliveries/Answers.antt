use Rattle.clean_sessions.proofs.TakingApart.{taking_untouched}
use Rattle.clean_sessions.proofs.talk_laws.taking_leaves_other_deliveries.Goals as goal

pub returns : goal.returns
returns c = λ role number text old new others takes. taking_untouched role number text old new others takes
