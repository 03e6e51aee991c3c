use Rattle.std.proofs.Common.{false, true}
use Rattle.clean_sessions.specs.Sessions.{post_behind}
use Rattle.clean_worlds.proofs.FinalDeliveries.{final_unless}
use Rattle.clean_worlds.proofs.healing_laws.healed_deliveries_are_final.Goals as goal

pub returns : goal.returns
returns c = λ id other supplier receiver state steps next last plays heals number.
    final_unless supplier receiver number (post_behind true plays.played.more plays.played.new).standing.desk.entries (post_behind false plays.played.more plays.played.new).standing.desk.entries (heals.settled.settled number)
    heals.settled.answered heals.settled.their_answered
