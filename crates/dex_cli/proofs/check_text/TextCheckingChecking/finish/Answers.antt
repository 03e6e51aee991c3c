use Rattle.dex_cli.proofs.Checked.{summed_up}
use Rattle.dex_cli.proofs.check_text.TextCheckingChecking.finish.Goals as goal

pub returns : goal.returns
returns c input has short = (short, summed_up input c.args.self c.end_by-ending.result has c.end_by-ending.ensures)
