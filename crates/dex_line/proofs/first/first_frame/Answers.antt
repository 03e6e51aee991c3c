use Rattle.dex_line.proofs.Firsts.{first_found}
use Rattle.dex_line.proofs.first.first_frame.Goals as goal

pub returns : goal.returns
returns c = first_found c.read_first.result c.args.bytes.now c.read_first.ensures
