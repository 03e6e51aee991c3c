use Rattle.dex_cli.proofs.Three.{names_led}
use Rattle.dex_cli.proofs.end_words.read_led.Goals as goal

pub returns-clause-refused : goal.returns-clause-refused
returns-clause-refused c = λ refused names led. c.read_names.ensures.refused refused names (names_led c.args.first.now c.args.job.now c.args.journal.now c.args.port.now names led)
