use Rattle.dex_line.proofs.Worked.{one_unit}
use Rattle.dex_line.proofs.laws.trailers_stay_with_their_set_end.Goals as goal

pub returns : goal.returns
returns c = one_unit
