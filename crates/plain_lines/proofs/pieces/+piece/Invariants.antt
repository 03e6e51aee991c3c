use Rattle.plain_lines.proofs.pieces.+piece.Given as goal

abbrev pub decreases-piece : goal.decreases-piece
decreases-piece l = l.number
