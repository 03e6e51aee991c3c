use Rattle.std.proofs.Common.{length}
use Rattle.transaction_set.proofs.giving.+give_parted.Given as goal

abbrev pub decreases-give_parted : goal.decreases-give_parted
decreases-give_parted l = length l.text.now
