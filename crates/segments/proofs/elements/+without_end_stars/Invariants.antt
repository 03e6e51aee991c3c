use Rattle.std.proofs.Common.{length}
use Rattle.segments.proofs.elements.+without_end_stars.Given as goal

abbrev pub decreases-without_end_stars : goal.decreases-without_end_stars
decreases-without_end_stars l = length l.text.now
