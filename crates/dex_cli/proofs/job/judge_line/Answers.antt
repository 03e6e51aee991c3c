use Rattle.std.proofs.Common.{arith}
use Rattle.dex_cli.specs.declared.words.CheckKind.TheVariants as checks
use Rattle.dex_cli.proofs.job.judge_line.Goals as goal

pub returns-then-len-gt-INPUT_BYTES : goal.returns-then-len-gt-INPUT_BYTES
returns-then-len-gt-INPUT_BYTES c = c.too_long.ensures checks.Line c.args.input.items (omega (arith, c.if-len-gt-INPUT_BYTES.true, c.len.ensures, c.args.input.ok.0))
