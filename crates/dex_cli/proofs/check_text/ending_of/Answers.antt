use Rattle.dxs_envelope.specs.TextPieces.{text_left}
use Rattle.dex_cli.proofs.Checked.{ends_refused, ends_whole}
use Rattle.std.proofs.Common.{[]}
use Rattle.dex_cli.proofs.check_text.ending_of.Goals as goal

pub returns-in-Ok : goal.returns-in-Ok
returns-in-Ok c set = ends_whole _ _ set (text_left c.args.text.now []) c.in-Ok.ensures.answer c.in-Ok.ensures.over

pub returns-in-Err : goal.returns-in-Err
returns-in-Err c set = ends_refused _ set (text_left c.args.text.now []) c.in-Err.fault c.refusal_of.result c.in-Err.ensures.answer c.in-Err.ensures.over c.refusal_of.ensures
