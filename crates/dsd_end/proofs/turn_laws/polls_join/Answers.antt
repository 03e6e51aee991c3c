use Rattle.dsd_end.proofs.Polling.{along_more, along_parts}
use Rattle.dsd_end.proofs.turn_laws.polls_join.Goals as goal

pub returns : goal.returns
returns c = record { more = along_more; parts = along_parts }
