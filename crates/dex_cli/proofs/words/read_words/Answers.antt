use Rattle.std.proofs.Common.{map, string_bytes}
use Rattle.dex_cli.proofs.Shaped.{no_job}
use Rattle.dex_cli.proofs.words.read_words.Goals as goal

pub returns-in-Ok-false-clause-refused : goal.returns-in-Ok-false-clause-refused
returns-in-Ok-false-clause-refused c = λ refused. no_job (map string_bytes c.args.words.now) (c.in-Ok-false.ensures c.in-Ok-false.field-0-test)
