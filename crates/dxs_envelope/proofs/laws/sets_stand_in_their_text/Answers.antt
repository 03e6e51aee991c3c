use Rattle.dxs_envelope.proofs.Standing.{told_stand}
use Rattle.dxs_envelope.proofs.laws.sets_stand_in_their_text.Goals as goal

pub returns : goal.returns
returns c = told_stand
