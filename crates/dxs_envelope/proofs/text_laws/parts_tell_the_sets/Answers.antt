use Rattle.dxs_envelope.proofs.Parting.{sets_told}
use Rattle.dxs_envelope.proofs.text_laws.parts_tell_the_sets.Goals as goal

pub returns : goal.returns
returns c = sets_told
