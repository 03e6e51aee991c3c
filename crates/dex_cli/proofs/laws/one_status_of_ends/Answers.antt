use Rattle.dex_cli.proofs.OneStatus.{one_status_of_ends}
use Rattle.dex_cli.proofs.laws.one_status_of_ends.Goals as goal

pub returns : goal.returns
returns c = one_status_of_ends
