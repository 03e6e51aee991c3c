use Rattle.std.proofs.Common.{refl}
use Rattle.dex_line.specs.Judging.{judge}
use Rattle.dex_line.proofs.Answered.{one_answer, answers_judged}
use Rattle.dex_line.proofs.laws.answers_are_decided.Goals as goal

pub returns : goal.returns
returns c = record { one = one_answer; found = λ bytes. answers_judged bytes (judge bytes) refl }
