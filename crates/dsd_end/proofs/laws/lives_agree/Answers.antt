use Rattle.dsd_end.proofs.Agreeing.{agree}
use Rattle.dsd_end.proofs.laws.lives_agree.Goals as goal

pub returns : goal.returns
returns c = agree
