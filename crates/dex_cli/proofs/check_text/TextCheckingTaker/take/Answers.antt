use Rattle.std.proofs.Common.{ℕ, List, ◌++◌, arith, ap, sym, subst, length, length-drop}
use Rattle.dxs_envelope.specs.FirstFault.{told_of}
use Rattle.dxs_envelope.specs.TextPieces.{text_left}
use Rattle.dex_cli.specs.TextSteps.{StandsAt}
use Rattle.dex_cli.proofs.Checked.{none_left, piece_comes, piece_taken}
use Rattle.dex_cli.proofs.check_text.TextCheckingTaker.take.Goals as goal

pub returns-clause-holds : goal.returns-clause-holds
returns-clause-holds c before has =
    piece_taken (λ (more : List ℕ). told_of ((before ++ c.args.piece.now) ++ more)) c.loop-rest.rest.now c.loop-rest.self (none_left c.loop-rest.rest.now c.is_empty.result c.is_empty.ensures c.loop-rest-test.false)
    (c.loop-rest.invariant.1 (λ (more : List ℕ). told_of ((before ++ c.args.piece.now) ++ more)) (piece_comes before c.args.piece.now c.args.self.now has))

pub loop-rest-preserved : goal.loop-rest-preserved
loop-rest-preserved c =
    let size = c.in_ok-size.size in
    let rest = c.loop-rest.rest.now in
    let clauses = c.in_ok-size.ensures in (
      omega (arith, c.loop-rest.invariant.0, clauses.reach, clauses.inside, ap (λ (l : List ℕ). length l) c.behind-rest.ensures, length-drop size rest),
      λ all stands. subst (λ (l : List ℕ). StandsAt all (λ more. text_left c.take_next.new.self.text (l ++ more)) c.take_next.new.self) (sym c.behind-rest.ensures) (clauses.goes all (c.loop-rest.invariant.1 all stands)),
    )
