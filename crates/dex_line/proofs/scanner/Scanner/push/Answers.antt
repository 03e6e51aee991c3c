use Rattle.std.proofs.Common.{◌++◌, ◌∷◌, []}
use Rattle.dex_line.specs.FrameShapes.{answer_seen}
use Rattle.dex_line.proofs.Answered.{answers_judged}
use Rattle.dex_line.proofs.scanner.Scanner.push.Goals as goal

pub returns-clause-meaning : goal.returns-clause-meaning
returns-clause-meaning c = answers_judged (c.args.self.now ++ c.args.byte ∷ []) (answer_seen c.take.result) c.take.ensures.answer
