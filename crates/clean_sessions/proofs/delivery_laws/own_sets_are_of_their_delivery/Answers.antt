use Rattle.clean_sessions.proofs.OwnSets.{signs_sets}
use Rattle.clean_sessions.proofs.delivery_laws.own_sets_are_of_their_delivery.Goals as goal

pub returns : goal.returns
returns c = signs_sets
