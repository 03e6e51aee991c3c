use Rattle.dex_cli.proofs.InPieces.{too_long}
use Rattle.dex_cli.proofs.checking.too_long.Goals as goal

pub returns : goal.returns
returns c = too_long
