use Rattle.vectors.proofs.Exchanges.{clean, broken, lost}
use Rattle.vectors.proofs.laws.exchanges_are_worked.Goals as goal

pub returns : goal.returns
returns c = record { clean = clean; broken = broken; lost = lost }
