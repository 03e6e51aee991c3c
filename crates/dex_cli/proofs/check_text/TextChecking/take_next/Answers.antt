use Rattle.std.proofs.Common.{ℕ, List, ◌++◌, drop, length, rules}
use Rattle.dxs_envelope.specs.TextPieces.{text_left}
use Rattle.dex_cli.proofs.Checked.{refused_still}
use Rattle.dex_cli.proofs.check_text.TextChecking.take_next.Goals as goal

pub returns-then-is_some-clause-goes : goal.returns-then-is_some-clause-goes
returns-then-is_some-clause-goes c all stands = refused_still all _ _ c.args.self.now (search rules) stands
