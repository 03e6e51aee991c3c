use Rattle.dex_cli.proofs.OneJob.{one_job}
use Rattle.dex_cli.proofs.laws.one_job.Goals as goal

pub returns : goal.returns
returns c = one_job
