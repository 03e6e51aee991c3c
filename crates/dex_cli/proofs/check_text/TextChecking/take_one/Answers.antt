use Rattle.std.proofs.Common.{◌++◌}
use Rattle.dxs_envelope.specs.TextPieces.{text_left}
use Rattle.dex_cli.proofs.Checked.{goes_open, text_refused}
use Rattle.dex_cli.proofs.check_text.TextChecking.take_one.Goals as goal

pub returns-in-Err-clause-goes : goal.returns-in-Err-clause-goes
returns-in-Err-clause-goes c all stands =
    text_refused all (λ more. text_left c.args.self.now.text (c.args.rest.now ++ more)) c.args.self.now c.in-Err.fault c.refusal_of.result c.in-Err.ensures.refused c.refusal_of.ensures
    (goes_open all (λ more. text_left c.args.self.now.text (c.args.rest.now ++ more)) c.args.self.now c.requires.open stands)
