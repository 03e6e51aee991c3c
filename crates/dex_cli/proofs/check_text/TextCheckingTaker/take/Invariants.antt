use Rattle.std.proofs.Common.{ℕ, ◌+◌, ◌≤◌, List, ◌++◌, length}
use Rattle.dxs_envelope.specs.TextPieces.{text_left}
use Rattle.dxs_envelope.specs.Views.{Told}
use Rattle.dex_cli.specs.TextSteps.{StandsAt, reached_by}
use Rattle.dex_cli.proofs.check_text.TextCheckingTaker.take.Given as goal

-- where it stood with the whole piece to come, it stands with the rest to come
abbrev pub invariant-loop-rest : goal.invariant-loop-rest
invariant-loop-rest l =
    (reached_by l.self.ending l.self.text + length l.rest ≤ reached_by l.fn.self.ending l.fn.self.text + length l.piece)
    × ((all : List ℕ → Told) → StandsAt all (λ more. text_left l.fn.self.text (l.piece ++ more)) l.fn.self → StandsAt all (λ more. text_left l.self.text (l.rest ++ more)) l.self)

abbrev pub decreases-loop-rest : goal.decreases-loop-rest
decreases-loop-rest l = length l.rest
